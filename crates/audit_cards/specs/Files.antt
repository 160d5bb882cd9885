-- The conditions that are checked for the rows of a batch and its file.
use Rattle.std.specs.Prelude.{◌≡◌, ◌==◌, ℕ, true, false, List, AllPairs, Ok, Some, bytes_eq, count_by, filter, find, length, map}
use Rattle.std.specs.List.{enumerate_from, list_all, list_any}
use Rattle.store_data.specs.declared.row.Row.{Row}
use Rattle.std.specs.List.Sorted.{IsNonDecreasingBy}
use Rattle.store_data.specs.declared.row.Product.{Product}
use Rattle.store_data.specs.Groups.{first_appearances, grouped}
use Rattle.store_data.specs.Sequence.{IsProduct}
use Rattle.batch_import.specs.Batch.{AreBatchRows, batch_of}
use Rattle.batch_import.specs.SoundRecords.{AreSoundRecords}
use Rattle.job_facts.specs.declared.facts.RecordState.{RecordState}
use Rattle.job_facts.specs.declared.facts.RecordState.TheVariants as rec
use Rattle.job_facts.specs.declared.facts.SessionState.{SessionState}
use Rattle.job_facts.specs.declared.facts.SessionState.TheVariants as session
use Rattle.job_facts.specs.States.{is_finished, product_named, same_record_state, same_session_state}
use Rattle.table_rows.specs.Tables.{StoredBatch, StoredGrouping, StoredRecord, StoredSession, Tables}
use Rattle.table_rows.specs.After.{new_grouping}
use Rattle.table_rows.specs.Keys.{is_batch, is_record_of}
use Rattle.audit_laws.specs.Audited.{is_session_at, key_of}

-- the names of the records of these rows, in file order
abbrev pub names_in : List Row → List (List ℕ)
names_in rows = first_appearances (map (λ (row : Row). row.rec) rows)

-- the keys of the records of batch `id`, from their names
abbrev pub keys_of : ℕ → List (List ℕ) → List (ℕ × (ℕ × List ℕ))
keys_of id names = map (λ (e : ℕ × List ℕ). (id, e)) (enumerate_from 0 names)

-- the groupings of batch `id`, from the rows of its file
abbrev pub groupings_in : ℕ → List Row → List StoredGrouping
groupings_in id rows = map (new_grouping id (names_in rows)) (enumerate_from 2 rows)

-- The list `names` contains `n`, and no two of its names are equal.
pub record IsNamed (n : List ℕ) (names : List (List ℕ)) : Type 0 where
  pub there : list_any (bytes_eq n) names ≡ true
  pub once : AllPairs (λ (m k : List ℕ). bytes_eq m k ≡ false) names

-- the number of records with the state `state`; `sessions_in_state` is the number of sessions
abbrev pub records_in_state : RecordState → List StoredRecord → ℕ
records_in_state state records = count_by (λ (r : StoredRecord). same_record_state state r.state) records

abbrev pub sessions_in_state : SessionState → List StoredSession → ℕ
sessions_in_state state sessions = count_by (λ (s : StoredSession). same_session_state state s.state) sessions

-- The counters of batch `b` count the records `records`.
pub record CountsRecords (records : List StoredRecord) (b : StoredBatch) : Type 0 where
  pub waiting : b.waiting ≡ records_in_state rec.Waiting records
  pub running : b.running ≡ records_in_state rec.Running records
  pub failed : b.failed ≡ records_in_state rec.Failed records
  pub withdrawn : b.withdrawn ≡ records_in_state rec.Withdrawn records
  pub good : b.good ≡ records_in_state rec.Good records

-- The counters of batch `b` count the sessions `sessions`.
pub record CountsSessions (sessions : List StoredSession) (b : StoredBatch) : Type 0 where
  pub all : b.sessions ≡ length sessions
  pub spoiled : b.spoiled ≡ sessions_in_state session.Spoiled sessions

-- If batch `b` is closed, all records are good or withdrawn.
abbrev pub IsClosedWell : List StoredRecord → StoredBatch → Type 0
IsClosedWell records b = b.closed ≡ true → list_all (λ (r : StoredRecord). is_finished r.state) records ≡ true

-- The counters of batch `b` are right, and if it is closed, all records are good or withdrawn.
abbrev pub CountsBy : List StoredRecord → List StoredSession → StoredBatch → Type 0
CountsBy records sessions b = CountsRecords records b × CountsSessions sessions b × IsClosedWell records b

-- ---- the file of a batch

-- The file `raw` has no fault under `product`, and has the rows `rows`.
pub record IsFileOf (product : Product) (raw : List ℕ) (rows : List Row) : Type 0 where
  pub read : batch_of product raw ≡ Ok rows
  pub ranged : AreBatchRows rows
  pub sound : AreSoundRecords product.max rows

-- The file has a fault.
abbrev pub IsUnread : Product → List ℕ → Type 0
IsUnread product raw = (rows : List Row) → batch_of product raw ≡ Ok rows → ⊥

-- Batch `b` has the product `product` and a file without a fault. `groups` are the rows of this
-- file, one list for each record. `records` are the rows of its records, and `sessions` those of
-- its sessions in the order of their places.
pub record HasFile (t : Tables) (b : StoredBatch) (product : Product) (groups : List (List Row)) (records : List StoredRecord) (sessions : List StoredSession) : Type 0 where
  pub batch_is : find (is_batch b.id) t.batches ≡ Some b
  pub product_is : product_named t.products b.product ≡ Some product
  pub ranged : IsProduct product
  pub file : List Row
  pub file_is : IsFileOf product b.raw file
  pub groups_are : groups ≡ grouped (λ (row : Row). row.rec) file
  pub records_are : records ≡ filter (is_record_of b.id) t.records
  pub keys : map key_of records ≡ keys_of b.id (names_in file)
  pub rising : IsNonDecreasingBy (λ (s : StoredSession). s.place) sessions
  pub sessions_at : (place : ℕ) → filter (λ (s : StoredSession). s.place == place) sessions ≡ filter (is_session_at b.id place) t.sessions
