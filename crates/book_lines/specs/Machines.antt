-- The output of `shopbook machines`: a line for each client, with its running session, its release
-- mark, the number of its kept replies, and a boot number that is certainly new.
use Rattle.std.specs.Prelude.{◌≡◌, ◌<◌, ◌≤◌, ◌+◌, ◌*◌, ◌/◌, ℕ, max, nat_lt, Bool, if◌then◌else◌, List, [], ◌∷◌, ◌++◌, bytes_eq, codes, filter, find, fold, length, map, Option, Some, None, option_map, unwrap_or}
use Rattle.store_data.specs.Groups.{first_appearances}
use Rattle.job_facts.specs.Contents.{Contents, Entry, Mark, entry_of, has_mark, mark_of}
use Rattle.job_facts.specs.States.{running_session}
use Rattle.table_rows.specs.Keys.{is_running_on}
use Rattle.table_rows.specs.Tables.{StoredSession, Tables}
use Rattle.book_lines.specs.declared.form.Form.{Form}
use Rattle.book_lines.specs.Lines.{Line, lines_by, number_cell, optional_cell, optional_digits_cell, word_cell}

-- ---- clients

-- the machines of the sessions, and the clients of the kept replies and of the release marks, each
-- once
abbrev pub clients_of : Tables → List (List ℕ)
clients_of t =
    first_appearances (map (λ (s : StoredSession). s.machine) t.sessions ++ map (λ (e : Entry). e.client) t.replies ++ map (λ (m : Mark). m.client) t.marks)

abbrev pub running_on : Tables → List ℕ → Option ℕ
running_on t client = option_map (λ (s : StoredSession). s.id) (find (is_running_on client) t.sessions)

abbrev pub upto_of : Tables → List ℕ → Option ℕ
upto_of t client = option_map (λ (m : Mark). m.upto) (find (has_mark client) t.marks)

abbrev pub is_kept_for : List ℕ → Entry → Bool
is_kept_for client e = bytes_eq e.client client

-- ---- boot numbers (docs/PROTOCOL.md, section 2)

-- the boot number of the request number `number`
abbrev pub boot_of : ℕ → ℕ
boot_of number = number / 10000000

-- the boot number of the kept reply `e`, or 0 if `e` belongs to another client
abbrev pub boot_by : List ℕ → Entry → ℕ
boot_by client e = if is_kept_for client e then boot_of e.number else 0

-- the highest boot number in the release mark and the kept replies of `client`
abbrev pub last_boot : Tables → List ℕ → ℕ
last_boot t client = fold (λ last (e : Entry). max last (boot_by client e)) (boot_of (mark_of t.marks client)) t.replies

-- the boot number after `last`, or `None` if `last` is the maximum
abbrev pub boot_above : ℕ → Option ℕ
boot_above last = if nat_lt last 9999999999 then Some (last + 1) else None

abbrev pub next_boot : Tables → List ℕ → Option ℕ
next_boot t client = boot_above (last_boot t client)

-- No request number of the boot number `boot` or of a higher one is kept or released for `client`.
abbrev pub IsNewBoot : Contents → List ℕ → ℕ → Type 0
IsNewBoot c client boot =
    (later place : ℕ) → boot ≤ later → (entry_of c.kept client (later * 10000000 + place) ≡ None) × (mark_of c.marks client < later * 10000000 + place)

-- ---- lines

abbrev pub machine_line : Tables → List ℕ → Line
machine_line t client = record {
  kind = codes "machine";
  cells = word_cell (codes "name") client ∷ optional_cell (codes "running") (running_on t client) ∷ optional_digits_cell (codes "mark") (upto_of t client)
      ∷ number_cell (codes "kept") (length (filter (is_kept_for client) t.replies)) ∷ optional_cell (codes "boot") (next_boot t client) ∷ [];
}

abbrev pub machines_text : Form → Tables → List ℕ
machines_text form t = lines_by form (machine_line t) (clients_of t)

-- ---- lines and contents

-- The line of `client` agrees with the contents `c` that the rows represent: it has the running
-- session, the release mark and the number of kept replies of `c`, and the next boot number is new.
pub record IsMachine (t : Tables) (c : Contents) (client : List ℕ) : Type 0 where
  pub running : running_on t client ≡ running_session c.facts client
  pub mark : unwrap_or (upto_of t client) 0 ≡ mark_of c.marks client
  pub kept : length (filter (is_kept_for client) t.replies) ≡ length (filter (is_kept_for client) c.kept)
  pub boots : (boot : ℕ) → next_boot t client ≡ Some boot → IsNewBoot c client boot
