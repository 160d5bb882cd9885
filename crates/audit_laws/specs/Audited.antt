-- The audit: the conditions on the rows of the tables under which they represent sound contents
-- (docs/TABLES.md, "Audit rules").
use Rattle.std.specs.Prelude.{◌≡◌, ◌≢◌, ◌≤◌, ◌==◌, ◌&&◌, ◌||◌, ℕ, Bool, true, false, not, nat_lt, List, [], ◌∷◌, map, flat_map, filter, find, length, count_by, bytes_eq, All, AllPairs, IsPermutation, IsTrue, Some}
use Rattle.std.specs.List.{enumerate_from, range_with_len}
use Rattle.store_data.specs.declared.row.Product.{Product}
use Rattle.store_data.specs.declared.row.Row.{Row}
use Rattle.store_data.specs.Cursor.{cursor_at}
use Rattle.store_data.specs.Sequence.{Plan, commands_of, plan_of}
use Rattle.job_facts.specs.declared.facts.Lot.{Lot}
use Rattle.job_facts.specs.declared.facts.RecordState.{RecordState}
use Rattle.job_facts.specs.declared.facts.RecordState.TheVariants as rec
use Rattle.job_facts.specs.declared.facts.SessionState.{SessionState}
use Rattle.job_facts.specs.declared.facts.SessionState.TheVariants as session
use Rattle.job_facts.specs.Accounts.{count_records, count_sessions}
use Rattle.job_facts.specs.Contents.{Entry, IsEntry, IsMark, Mark, is_above, is_of_number}
use Rattle.job_facts.specs.Facts.{Session}
use Rattle.job_facts.specs.Sound.{AreBatches, AreLots, AreProducts, AreWords, IsName, IsSoundRecord}
use Rattle.job_facts.specs.States.{going, is_finished, is_in, is_spoiled, lot_of, product_named, records_of, rows_of, rows_of_record, same_record_state, state_by, state_with}
use Rattle.table_rows.specs.After.{new_grouping}
use Rattle.table_rows.specs.Tables.{StoredBatch, StoredBlank, StoredGrouping, StoredLot, StoredRecord, StoredRemake, StoredSession, StoredWord, Tables}
use Rattle.image_laws.specs.Decided.{batch_name, batch_of_row, discarded_rows, record_name}
use Rattle.table_rows.specs.Keys.{is_batch, is_record_at, is_record_of, is_running_on}

-- ---- batch files

-- the rows of the file of batch `b`
abbrev pub file_rows : Tables → StoredBatch → List Row
file_rows t b = rows_of t.products (batch_of_row b)

-- the names of the records in the file of batch `b`, in file order
abbrev pub file_records : Tables → StoredBatch → List (List ℕ)
file_records t b = records_of t.products (batch_of_row b)

-- the batch of record `r`, its place there, and its name
abbrev pub key_of : StoredRecord → ℕ × (ℕ × List ℕ)
key_of r = (r.batch, (r.place, r.name))

-- the keys of all records in the file of batch `b`, in file order
abbrev pub file_keys : Tables → StoredBatch → List (ℕ × (ℕ × List ℕ))
file_keys t b = map (λ (e : ℕ × List ℕ). (b.id, e)) (enumerate_from 0 (file_records t b))

-- the rows of the file of batch `b`, as rows of `grouping2`. Row 1 of the file is the header
abbrev pub file_groupings : Tables → StoredBatch → List StoredGrouping
file_groupings t b = map (new_grouping b.id (file_records t b)) (enumerate_from 2 (file_rows t b))

-- ---- sessions

-- the status words of the session with this id
abbrev pub words_of : List StoredWord → ℕ → List ℕ
words_of words id = map (λ (w : StoredWord). w.sw) (filter (λ (w : StoredWord). w.session == id) words)

-- the status words of session `s` as rows of `word`, with the places 0, 1, ..
abbrev pub placed_words : Tables → StoredSession → List StoredWord
placed_words t s = map (λ (w : ℕ × ℕ). record { session = s.id; place = w.0; sw = w.1 }) (enumerate_from 0 (words_of t.words s.id))

-- session `s` with the names of its batch and record instead of their numbers
abbrev pub named_session : Tables → StoredSession → Session
named_session t s = record {
  machine = s.machine;
  batch = batch_name t s.batch;
  rec = record_name t s.batch s.place;
  blank = s.serial;
  words = words_of t.words s.id;
  ended = s.ended;
}

-- Session `s` obeys the audit rules: its record exists, and its blank is in a lot of the product of
-- its batch. It has at most as many status words as its record has commands, and only the last one
-- may spoil the session. Its counter, state and cursor follow from these status words and from
-- `ended`.
pub record IsAuditedSession (t : Tables) (s : StoredSession) : Type 0 where
  pub machine : IsName s.machine
  pub batch : StoredBatch
  pub batch_is : find (is_batch s.batch) t.batches ≡ Some batch
  pub rec : StoredRecord
  pub rec_is : find (is_record_at s.batch s.place) t.records ≡ Some rec
  pub product : Product
  pub product_is : product_named t.products batch.product ≡ Some product
  pub plan : Plan
  pub plan_is : plan ≡ plan_of product (rows_of_record (file_rows t batch) rec.name)
  pub words : AreWords (commands_of plan) (words_of t.words s.id)
  pub count : s.words ≡ length (words_of t.words s.id)
  pub state : s.state ≡ state_with (commands_of plan) (named_session t s)
  pub cursor : cursor_at plan (going (commands_of plan) (words_of t.words s.id)) ≡ Some s.cursor
  pub lot : Lot
  pub lot_is : lot_of (map (λ (l : StoredLot). l.lot) t.lots) s.serial ≡ Some lot
  pub fits : lot.product ≡ batch.product

-- ---- records

-- Session `s` belongs to the record at `place` of the batch with this id.
abbrev pub is_session_at : ℕ → ℕ → StoredSession → Bool
is_session_at id place s = (s.batch == id) && (s.place == place)

-- the states of the sessions of record `r`
abbrev pub states_at : Tables → StoredRecord → List SessionState
states_at t r = map (λ (s : StoredSession). s.state) (filter (is_session_at r.batch r.place) t.sessions)

-- Row `r` has the state `Withdrawn`. No other column shows this.
abbrev pub is_withdrawn : StoredRecord → Bool
is_withdrawn r = same_record_state rec.Withdrawn r.state

-- Record `r` obeys the audit rules: `remakes` is possible with the states of its sessions, its
-- state follows from both and from its withdrawal, and `spoiled` counts its spoiled sessions.
pub record IsAuditedRecord (t : Tables) (r : StoredRecord) : Type 0 where
  pub sound : IsSoundRecord (states_at t r) (is_withdrawn r) r.remakes
  pub state : r.state ≡ state_by (states_at t r) (is_withdrawn r) r.remakes
  pub spoiled : r.spoiled ≡ count_by is_spoiled (states_at t r)

-- the rows of `remake` for record `r`, with the turns 1, 2, ..
abbrev pub turns_of : StoredRecord → List StoredRemake
turns_of r = map (λ turn. record { batch = r.batch; place = r.place; turn = turn }) (range_with_len 1 r.remakes)

-- ---- batches

-- Session `s` belongs to the batch with this id.
abbrev pub is_session_of : ℕ → StoredSession → Bool
is_session_of id s = s.batch == id

-- the states of the records of batch `b`; `session_states_of` are the states of its sessions
abbrev pub record_states_of : Tables → StoredBatch → List RecordState
record_states_of t b = map (λ (r : StoredRecord). r.state) (filter (is_record_of b.id) t.records)

abbrev pub session_states_of : Tables → StoredBatch → List SessionState
session_states_of t b = map (λ (s : StoredSession). s.state) (filter (is_session_of b.id) t.sessions)

-- Batch `b` obeys the audit rules: its counters count its records and sessions, and if it is
-- closed, all its records are good or withdrawn.
pub record IsAuditedBatch (t : Tables) (b : StoredBatch) : Type 0 where
  pub waiting : b.waiting ≡ count_records (record_states_of t b) rec.Waiting
  pub running : b.running ≡ count_records (record_states_of t b) rec.Running
  pub failed : b.failed ≡ count_records (record_states_of t b) rec.Failed
  pub withdrawn : b.withdrawn ≡ count_records (record_states_of t b) rec.Withdrawn
  pub good : b.good ≡ count_records (record_states_of t b) rec.Good
  pub sessions : b.sessions ≡ length (session_states_of t b)
  pub spoiled : b.spoiled ≡ count_sessions (session_states_of t b) session.Spoiled
  pub closed : b.closed ≡ true → All (λ state. IsTrue (is_finished state)) (record_states_of t b)

-- ---- lots and blanks

-- The counter of lot `l` is the number of its discarded blanks.
abbrev pub IsAuditedLot : Tables → StoredLot → Type 0
IsAuditedLot t l = l.discarded ≡ count_by (λ (b : StoredBlank). is_in b.serial l.lot) (discarded_rows t.blanks)

-- The serial of blank `b` is in the lot that the row names.
pub record IsAuditedBlank (t : Tables) (b : StoredBlank) : Type 0 where
  pub lot : Lot
  pub lot_is : lot_of (map (λ (l : StoredLot). l.lot) t.lots) b.serial ≡ Some lot
  pub named : lot.name ≡ b.lot

-- the blanks that aren't discarded, which sessions opened
abbrev pub opened_rows : List StoredBlank → List StoredBlank
opened_rows blanks = filter (λ (b : StoredBlank). not b.discarded) blanks

-- ---- the audit

-- The rows of `t`, in the order of their keys, obey all audit rules.
pub record IsAudited (t : Tables) : Type 0 where
  -- products, lots and batches
  pub products : AreProducts t.products
  pub lots : AreLots t.products (map (λ (l : StoredLot). l.lot) t.lots)
  pub batches : AreBatches t.products (map batch_of_row t.batches)
  pub batch_ids : map (λ (b : StoredBatch). b.id) t.batches ≡ range_with_len 1 (length t.batches)
  -- The batch files produce exactly the rows of records and groupings.
  pub records : map key_of t.records ≡ flat_map (file_keys t) t.batches
  pub groupings : t.groupings ≡ flat_map (file_groupings t) t.batches
  -- sessions
  pub session_ids : map (λ (s : StoredSession). s.id) t.sessions ≡ range_with_len 1 (length t.sessions)
  pub words : t.words ≡ flat_map (placed_words t) t.sessions
  pub each_session : All (IsAuditedSession t) t.sessions
  pub machines : (machine : List ℕ) → count_by (is_running_on machine) t.sessions ≤ 1
  -- values that are computed from other rows
  pub each_record : All (IsAuditedRecord t) t.records
  pub remakes : t.remakes ≡ flat_map turns_of t.records
  pub each_batch : All (IsAuditedBatch t) t.batches
  pub each_lot : All (IsAuditedLot t) t.lots
  -- blanks: one row for each session and each discarded blank
  pub blanks_once : AllPairs (λ (b c : StoredBlank). b.serial ≢ c.serial) t.blanks
  pub each_blank : All (IsAuditedBlank t) t.blanks
  pub opened : IsPermutation (map (λ (b : StoredBlank). b.serial) (opened_rows t.blanks)) (map (λ (s : StoredSession). s.serial) t.sessions)
  -- kept replies and release marks
  pub kept : All IsEntry t.replies
  pub kept_once : AllPairs (λ (d e : Entry). is_of_number d e ≡ false) t.replies
  pub marks : All IsMark t.marks
  pub marked_once : AllPairs (λ (m n : Mark). bytes_eq m.client n.client ≡ false) t.marks
  pub above : All (λ (e : Entry). IsTrue (is_above t.marks e)) t.replies

-- ---- the order of rows

-- The first key is lexicographically at most the second.
abbrev pub is_up_to : List ℕ → List ℕ → Bool
is_up_to [] ys = true
is_up_to (x ∷ xs) [] = false
is_up_to (x ∷ xs) (y ∷ ys) = nat_lt x y || ((x == y) && is_up_to xs ys)

-- The keys of `xs` never decrease.
abbrev pub AreOrderedBy : {X : Type 0} → (X → List ℕ) → List X → Type 0
AreOrderedBy key xs = AllPairs (λ x y. is_up_to (key x) (key y) ≡ true) xs

-- The tables whose keys are consecutive numbers are in the order of their keys.
pub record AreInOrder (t : Tables) : Type 0 where
  pub batches : AreOrderedBy (λ (b : StoredBatch). b.id ∷ []) t.batches
  pub records : AreOrderedBy (λ (r : StoredRecord). r.batch ∷ r.place ∷ []) t.records
  pub groupings : AreOrderedBy (λ (g : StoredGrouping). g.batch ∷ g.line ∷ []) t.groupings
  pub sessions : AreOrderedBy (λ (s : StoredSession). s.id ∷ []) t.sessions
  pub words : AreOrderedBy (λ (w : StoredWord). w.session ∷ w.place ∷ []) t.words
  pub remakes : AreOrderedBy (λ (r : StoredRemake). r.batch ∷ r.place ∷ r.turn ∷ []) t.remakes
