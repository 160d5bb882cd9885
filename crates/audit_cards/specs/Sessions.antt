-- The conditions that are checked for the rows of sessions, records and batches.
use Rattle.std.specs.Prelude.{◌≡◌, ◌≤◌, ◌+◌, ℕ, Bool, true, List, All, Some, IsPermutation, count_by, map, filter, find, if◌then◌else◌}
use Rattle.std.specs.List.Sorted.{IsNonDecreasingBy}
use Rattle.store_data.specs.declared.row.Product.{Product}
use Rattle.store_data.specs.declared.row.Row.{Row}
use Rattle.store_data.specs.RecordFaults.{HavePlan}
use Rattle.store_data.specs.Sequence.{Plan, plan_of}
use Rattle.job_facts.specs.declared.facts.Lot.{Lot}
use Rattle.job_facts.specs.declared.facts.RecordState.{RecordState}
use Rattle.job_facts.specs.declared.facts.RecordState.TheVariants as rec
use Rattle.job_facts.specs.declared.facts.SessionState.{SessionState}
use Rattle.job_facts.specs.Sound.{IsBatch, IsSoundRecord}
use Rattle.job_facts.specs.States.{is_spoiled, lot_of, product_named, rows_of_record, state_by}
use Rattle.table_rows.specs.Tables.{StoredBatch, StoredRecord, StoredRemake, StoredSession, Tables}
use Rattle.image_laws.specs.Decided.{batch_of_row}
use Rattle.table_rows.specs.Keys.{is_batch, is_grouping_of, is_record_at, is_record_of}
use Rattle.audit_laws.specs.Audited.{IsAuditedBatch, IsAuditedRecord, IsAuditedSession, file_groupings, file_keys, file_rows, is_session_at, is_session_of, is_withdrawn, key_of}
use Rattle.audit_order.specs.Order.{lots_of}

-- Batch `b` has the id `id`, and the plan of its record at `place` is `plan`.
pub record HasPlan (t : Tables) (id place : ℕ) (b : StoredBatch) (plan : Plan) : Type 0 where
  pub batch_is : find (is_batch id) t.batches ≡ Some b
  pub rec : StoredRecord
  pub rec_is : find (is_record_at id place) t.records ≡ Some rec
  pub product : Product
  pub product_is : product_named t.products b.product ≡ Some product
  pub plan_is : plan ≡ plan_of product (rows_of_record (file_rows t b) rec.name)

-- The blank `serial` is in a lot of the product `product`.
abbrev pub IsFor : Tables → ℕ → List ℕ → Type 0
IsFor t serial product = (lot : Lot) × (lot_of (lots_of t.lots) serial ≡ Some lot) × (lot.product ≡ product)

-- the states of these sessions
abbrev pub states_in : List StoredSession → List SessionState
states_in sessions = map (λ (s : StoredSession). s.state) sessions

-- Row `r` is right for a record whose sessions have these states.
pub record StandsBy (states : List SessionState) (r : StoredRecord) : Type 0 where
  pub sound : IsSoundRecord states (is_withdrawn r) r.remakes
  pub state : r.state ≡ state_by states (is_withdrawn r) r.remakes
  pub spoiled : r.spoiled ≡ count_by is_spoiled states

-- `by_record` are the sessions in the order of their batches and places. Sessions of the same
-- record keep their order.
pub record AreByRecord (sessions by_record : List StoredSession) : Type 0 where
  pub same : IsPermutation sessions by_record
  pub batches : IsNonDecreasingBy (λ (s : StoredSession). s.batch) by_record
  pub places : (id : ℕ) → IsNonDecreasingBy (λ (s : StoredSession). s.place) (filter (is_session_of id) by_record)
  pub stable : (id place : ℕ) → filter (is_session_at id place) by_record ≡ filter (is_session_at id place) sessions

-- Record `r` and all its sessions obey the audit rules.
abbrev pub IsAuditedWith : Tables → StoredRecord → Type 0
IsAuditedWith t r = IsAuditedRecord t r × All (IsAuditedSession t) (filter (is_session_at r.batch r.place) t.sessions)

-- Batch `b` obeys the audit rules, together with its file, records, groupings and sessions.
pub record IsAuditedFile (t : Tables) (b : StoredBatch) : Type 0 where
  pub batch : IsBatch t.products (batch_of_row b)
  pub records : map key_of (filter (is_record_of b.id) t.records) ≡ file_keys t b
  pub groupings : filter (is_grouping_of b.id) t.groupings ≡ file_groupings t b
  pub each_record : All (IsAuditedRecord t) (filter (is_record_of b.id) t.records)
  pub each_session : All (IsAuditedSession t) (filter (is_session_of b.id) t.sessions)
  pub counts : IsAuditedBatch t b

-- Record `r` belongs to batch `b` with the product `product`. Its rows in the batch file are
-- `rows`, and its sessions are `own`.
pub record HasRows (t : Tables) (b : StoredBatch) (product : Product) (rows : List Row) (r : StoredRecord) (own : List StoredSession) : Type 0 where
  pub batch_is : find (is_batch r.batch) t.batches ≡ Some b
  pub product_is : product_named t.products b.product ≡ Some product
  pub rec_is : find (is_record_at r.batch r.place) t.records ≡ Some r
  pub rows_are : rows ≡ rows_of_record (file_rows t b) r.name
  pub planned : HavePlan product rows
  pub own_are : own ≡ filter (is_session_at r.batch r.place) t.sessions

-- A record can have `cards` sessions that are good or running, `spoiled` spoiled sessions, and
-- `remakes` remakes.
pub record IsSoundCount (cards spoiled : ℕ) (withdrawn : Bool) (remakes : ℕ) : Type 0 where
  pub one_card : cards ≤ 1
  pub remade_least : spoiled ≤ remakes + 1
  pub remade_most : remakes ≤ spoiled
  pub remade_all : 1 ≤ cards → remakes ≡ spoiled
  pub withdrawn_none : withdrawn ≡ true → cards ≡ 0

-- the state of a record: `good` is true if one of its sessions is good, `running` if one is
-- running, `withdrawn` if the record is withdrawn, and `failed` if it has fewer remakes than
-- spoiled sessions
abbrev pub state_by_count : Bool → Bool → Bool → Bool → RecordState
state_by_count good running withdrawn failed =
    if good then rec.Good
    else if running then rec.Running
    else if withdrawn then rec.Withdrawn
    else if failed then rec.Failed
    else rec.Waiting

-- the row of `remake` for a turn of record `r`
abbrev pub turn_of : StoredRecord → ℕ → StoredRemake
turn_of r turn = record { batch = r.batch; place = r.place; turn = turn }
