-- The output of `shopbook blanks`: a line for each charged blank of a product, in the order of
-- rows, with its lot, its state, and the record and batch that it was charged for; then a line with
-- the sums.
use Rattle.std.specs.Prelude.{◌≡◌, ◌≢◌, ◌==◌, ◌+◌, ℕ, ◌-◌, AllPairs, Bool, true, false, List, [], ◌∷◌, ◌++◌, codes, filter, flat_map, length, map, slice_get, sum_by, if◌then◌else◌, Option, Some, None, option_map, option_and_then}
use Rattle.store_data.specs.declared.row.Product.{Product}
use Rattle.job_facts.specs.declared.facts.SessionState.{SessionState}
use Rattle.job_facts.specs.declared.facts.SessionState.TheVariants as session
use Rattle.job_facts.specs.declared.rows.BlankTotals.{BlankTotals}
use Rattle.job_facts.specs.Accounts.{is_lot_of}
use Rattle.job_facts.specs.States.{lot_of, product_named}
use Rattle.table_rows.specs.Keys.{is_lot_for, is_record_of}
use Rattle.table_rows.specs.Tables.{StoredBatch, StoredBlank, StoredLot, StoredRecord, StoredSession, Tables}
use Rattle.audit_order.specs.Order.{lots_of}
use Rattle.book_lines.specs.declared.blank_state.BlankState.{BlankState}
use Rattle.book_lines.specs.declared.blank_state.BlankState.TheVariants as blank
use Rattle.book_lines.specs.declared.form.Form.{Form}
use Rattle.book_lines.specs.Lines.{Line, digits_cell, line_text, name_cell, number_cell, word_cell}

-- ---- charged blanks

-- a charged blank, and the session that charged it; a discarded blank has no session
pub record Charge : Type 0 where
  pub blank : StoredBlank
  pub on : Option StoredSession

-- the first session on the blank `serial`; sound rows have at most one
abbrev pub session_on : List StoredSession → ℕ → Option StoredSession
session_on sessions serial = slice_get (filter (λ (s : StoredSession). s.serial == serial) sessions) 0

abbrev pub charge_of : Tables → StoredBlank → Charge
charge_of t b = record { blank = b; on = if b.discarded then None else session_on t.sessions b.serial }

-- The serial of `b` is in a lot of the product `p`.
abbrev pub is_of : Tables → List ℕ → StoredBlank → Bool
is_of t p b = is_lot_of p (lot_of (lots_of t.lots) b.serial)

abbrev pub charges_of : Tables → List ℕ → List Charge
charges_of t p = map (charge_of t) (filter (is_of t p) t.blanks)

-- There is a session, and it belongs to the batch with the id `id`.
abbrev pub is_session_for : ℕ → Option StoredSession → Bool
is_session_for id None = false
is_session_for id (Some s) = s.batch == id

abbrev pub is_charged_to : ℕ → Charge → Bool
is_charged_to id c = is_session_for id c.on

abbrev pub batch_charges : Tables → ℕ → List Charge
batch_charges t id = filter (is_charged_to id) (map (charge_of t) t.blanks)

-- ---- states

abbrev pub stands_by : SessionState → BlankState
stands_by session.Running = blank.Running
stands_by session.Good = blank.Good
stands_by session.Spoiled = blank.Spoiled

abbrev pub stands_on : Option StoredSession → BlankState
stands_on None = blank.Discarded
stands_on (Some s) = stands_by s.state

abbrev pub same_state : BlankState → BlankState → Bool
same_state blank.Running blank.Running = true
same_state blank.Good blank.Good = true
same_state blank.Spoiled blank.Spoiled = true
same_state blank.Discarded blank.Discarded = true
same_state _ _ = false

abbrev pub is_in_state : BlankState → Charge → Bool
is_in_state state c = same_state state (stands_on c.on)

abbrev pub state_word : BlankState → List ℕ
state_word blank.Running = codes "running"
state_word blank.Good = codes "good"
state_word blank.Spoiled = codes "spoiled"
state_word blank.Discarded = codes "discarded"

-- ---- lines

-- the name of the record of session `s`, at position `s.place` of its batch
abbrev pub record_for : Tables → StoredSession → Option (List ℕ)
record_for t s = option_map (λ (r : StoredRecord). r.name) (slice_get (filter (is_record_of s.batch) t.records) s.place)

-- the name of the batch of session `s`; batch ids start at 1
abbrev pub batch_for : Tables → StoredSession → Option (List ℕ)
batch_for t s = option_map (λ (b : StoredBatch). b.name) (slice_get t.batches (s.batch - 1))

abbrev pub blank_line : Tables → Charge → Line
blank_line t c = record {
  kind = codes "blank";
  cells = digits_cell (codes "serial") c.blank.serial ∷ word_cell (codes "lot") c.blank.lot ∷ word_cell (codes "state") (state_word (stands_on c.on))
      ∷ name_cell (codes "record") (option_and_then (record_for t) c.on) ∷ name_cell (codes "batch") (option_and_then (batch_for t) c.on) ∷ [];
}

-- `c` is in the given state, or no state is given.
abbrev pub is_wanted : Option BlankState → Charge → Bool
is_wanted None c = true
is_wanted (Some state) c = is_in_state state c

abbrev pub wanted_text : Form → Tables → Option BlankState → Charge → List ℕ
wanted_text form t state c = if is_wanted state c then line_text form (blank_line t c) else []

-- ---- sums

abbrev pub count_in_state : BlankState → List Charge → ℕ
count_in_state state charges = length (filter (is_in_state state) charges)

-- the number of blanks in `l` if it is a lot of the product `p`, otherwise 0
abbrev pub share_for : List ℕ → StoredLot → ℕ
share_for p l = if is_lot_for p l then l.lot.count else 0

abbrev pub blanks_for : List ℕ → List StoredLot → ℕ
blanks_for p lots = sum_by (share_for p) lots

-- the counters of the blanks of the product `p`, from its lots in `lots` and its charged blanks
-- `charges`
abbrev pub totals_by : List ℕ → List StoredLot → List Charge → BlankTotals
totals_by p lots charges = record {
  lots = length (filter (is_lot_for p) lots);
  total = blanks_for p lots;
  good = count_in_state blank.Good charges;
  running = count_in_state blank.Running charges;
  spoiled = count_in_state blank.Spoiled charges;
  discarded = count_in_state blank.Discarded charges;
}

-- The rows of `t` give the counters `totals` for the blanks of the product `p`. Each charged blank
-- is counted in exactly one state, and no two charged blanks have the same serial.
pub record IsAccount (t : Tables) (p : List ℕ) (totals : BlankTotals) : Type 0 where
  pub sums : totals_by p t.lots (charges_of t p) ≡ totals
  pub charged : length (charges_of t p) ≡ totals.good + totals.running + totals.spoiled + totals.discarded
  pub once : AllPairs (λ (a b : Charge). a.blank.serial ≢ b.blank.serial) (charges_of t p)

-- the line with the sums of the product `p`, from its lots in `lots` and its charged blanks
-- `charges`
abbrev pub sums_line : List ℕ → List StoredLot → List Charge → Line
sums_line p lots charges = record {
  kind = codes "sums";
  cells = number_cell (codes "lots") (length (filter (is_lot_for p) lots)) ∷ number_cell (codes "total") (blanks_for p lots)
      ∷ number_cell (codes "free") (blanks_for p lots - length charges) ∷ number_cell (codes "good") (count_in_state blank.Good charges)
      ∷ number_cell (codes "running") (count_in_state blank.Running charges) ∷ number_cell (codes "spoiled") (count_in_state blank.Spoiled charges)
      ∷ number_cell (codes "discarded") (count_in_state blank.Discarded charges) ∷ [];
}

-- ---- complete output

abbrev pub blanks_text : Form → Tables → List ℕ → Option BlankState → List ℕ
blanks_text form t p state =
    flat_map (wanted_text form t state) (charges_of t p) ++ line_text form (sums_line p t.lots (charges_of t p))

-- the output for the product `p`, or `None` if the product doesn't exist
abbrev pub blanks_of : Form → Tables → List ℕ → Option BlankState → Option (List ℕ)
blanks_of form t p state = option_map (λ (product : Product). blanks_text form t p state) (product_named t.products p)
