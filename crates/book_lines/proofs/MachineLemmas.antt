-- Lemmas about the line of a client: it is made of the rows that are keyed by the position of the
-- client.
use Rattle.std.proofs.Common.{◌≡◌, ◌==◌, ℕ, List, [], ◌∷◌, ◌++◌, Option, Some, fold, length, map, max, ap, ◌∙◌, subst, sym}
use Rattle.std.specs.Prelude.{codes, filter, find, option_map, slice_get, unwrap_or}
use Rattle.store_data.specs.Groups.{Distinct}
use Rattle.store_data.proofs.GroupLemmas.{Distinct-first_appearances}
use Rattle.job_facts.specs.Contents.{Entry, Mark}
use Rattle.job_facts.specs.States.{is_running}
use Rattle.table_rows.specs.Tables.{StoredSession, Tables}
use Rattle.book_lines.specs.Keyed.{AreKeyed, place_of}
use Rattle.book_lines.specs.Lines.{Cell, number_cell, optional_cell, optional_digits_cell, word_cell}
use Rattle.book_lines.specs.Machines.{boot_above, boot_by, boot_of, clients_of, is_kept_for, machine_line, next_boot, running_on, upto_of}
use Rattle.book_lines.proofs.ClientLemmas.{count_is, find_is, first_is, most_is}

module _
    (t : Tables) (names : List (List ℕ)) (sessions : List (ℕ × StoredSession)) (replies : List (ℕ × Entry)) (marks : List (ℕ × Mark))
    (names_are : names ≡ clients_of t)
    (sessions_are : AreKeyed (λ (s : StoredSession). place_of names s.machine) t.sessions sessions)
    (replies_are : AreKeyed (λ (e : Entry). place_of names e.client) t.replies replies)
    (marks_are : AreKeyed (λ (m : Mark). place_of names m.client) t.marks marks)
    (place : ℕ) (client : List ℕ) (here : slice_get names place ≡ Some client)
  where
    once : Distinct names
    once =
        subst Distinct (sym names_are)
        (Distinct-first_appearances [] (map (λ (s : StoredSession). s.machine) t.sessions ++ map (λ (e : Entry). e.client) t.replies ++ map (λ (m : Mark). m.client) t.marks) tt)

    abbrev pub its_sessions : List (ℕ × StoredSession)
    its_sessions = filter (λ (k : ℕ × StoredSession). k.0 == place) sessions

    abbrev pub its_replies : List (ℕ × Entry)
    its_replies = filter (λ (k : ℕ × Entry). k.0 == place) replies

    abbrev pub its_marks : List (ℕ × Mark)
    its_marks = filter (λ (k : ℕ × Mark). k.0 == place) marks

    running_is : option_map (λ (k : ℕ × StoredSession). k.1.id) (find (λ (k : ℕ × StoredSession). is_running k.1.state) its_sessions) ≡ running_on t client
    running_is =
        find_is (λ (s : StoredSession). s.machine) names place client once here t.sessions sessions sessions_are (λ (s : StoredSession). s.id) (λ (s : StoredSession). is_running s.state)

    mark_is : option_map (λ (k : ℕ × Mark). k.1.upto) (slice_get its_marks 0) ≡ upto_of t client
    mark_is = first_is (λ (m : Mark). m.client) names place client once here t.marks marks marks_are (λ (m : Mark). m.upto)

    kept_is : length its_replies ≡ length (filter (is_kept_for client) t.replies)
    kept_is = count_is (λ (e : Entry). e.client) names place client once here t.replies replies replies_are

    boot_is : (mark : Option ℕ) → mark ≡ upto_of t client
        → boot_above (fold (λ last (k : ℕ × Entry). max last (boot_of k.1.number)) (boot_of (unwrap_or mark 0)) its_replies) ≡ next_boot t client
    boot_is mark is =
        ap boot_above
        (most_is (λ (e : Entry). e.client) names place client once here t.replies replies replies_are (λ (e : Entry). boot_of e.number) (boot_of (unwrap_or mark 0))
        ∙ ap (λ (o : Option ℕ). fold (λ last (e : Entry). max last (boot_by client e)) (boot_of (unwrap_or o 0)) t.replies) is)

    pub line_is : (name running upto many boot : Cell) (session mark : Option ℕ) (kept : ℕ) (next : Option ℕ)
        → name ≡ word_cell (codes "name") client → running ≡ optional_cell (codes "running") session → upto ≡ optional_digits_cell (codes "mark") mark
        → many ≡ number_cell (codes "kept") kept → boot ≡ optional_cell (codes "boot") next
        → session ≡ option_map (λ (k : ℕ × StoredSession). k.1.id) (find (λ (k : ℕ × StoredSession). is_running k.1.state) its_sessions)
        → mark ≡ option_map (λ (k : ℕ × Mark). k.1.upto) (slice_get its_marks 0)
        → kept ≡ length its_replies
        → next ≡ boot_above (fold (λ last (k : ℕ × Entry). max last (boot_of k.1.number)) (boot_of (unwrap_or mark 0)) its_replies)
        → record { kind = codes "machine"; cells = name ∷ running ∷ upto ∷ many ∷ boot ∷ [] } ≡ machine_line t client
    line_is name running upto many boot session mark kept next name_so running_so upto_so many_so boot_so session_is mark_so kept_so next_is =
        let marked : mark ≡ upto_of t client = mark_so ∙ mark_is in
        let running_cell : running ≡ optional_cell (codes "running") (running_on t client) = running_so ∙ ap (optional_cell (codes "running")) (session_is ∙ running_is) in
        let mark_cell : upto ≡ optional_digits_cell (codes "mark") (upto_of t client) = upto_so ∙ ap (optional_digits_cell (codes "mark")) marked in
        let kept_cell : many ≡ number_cell (codes "kept") (length (filter (is_kept_for client) t.replies)) = many_so ∙ ap (number_cell (codes "kept")) (kept_so ∙ kept_is) in
        let boot_cell : boot ≡ optional_cell (codes "boot") (next_boot t client) = boot_so ∙ ap (optional_cell (codes "boot")) (next_is ∙ boot_is mark marked) in
        cc
