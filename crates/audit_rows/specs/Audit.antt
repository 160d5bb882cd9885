-- The conditions on names and ids that the audit checks.
use Rattle.std.specs.Prelude.{◌≡◌, ◌≤◌, ◌<◌, ◌+◌, ◌^◌, ℕ, true, not, List, All, AllPairs, bytes_eq, length}
use Rattle.job_facts.specs.declared.facts.Lot.{Lot}
use Rattle.job_facts.specs.Sound.{IsName}
use Rattle.table_rows.specs.Tables.{StoredBatch, StoredGrouping, StoredRecord, StoredSession}

-- Lot `l` has a valid name, and its serials are in range.
pub record IsRanged (l : Lot) : Type 0 where
  pub named : IsName l.name
  pub least : 1 ≤ l.count
  pub most : l.count ≤ 1000000
  pub range : l.first + l.count ≤ 10 ^ 18

-- `id` is one of the ids 1 to `count`.
abbrev pub IsIdOf : ℕ → ℕ → Type 0
IsIdOf count id = (1 ≤ id) × (id < 1 + count)

-- There are at most 4,096 batches, and no two have the same name.
abbrev pub AreFewOnce : List StoredBatch → Type 0
AreFewOnce batches = (length batches ≤ 4096) × AllPairs (λ (b c : StoredBatch). not (bytes_eq b.name c.name) ≡ true) batches

-- Every record, grouping and session belongs to one of the batches 1 to `count`.
pub record AreOwned (count : ℕ) (records : List StoredRecord) (groupings : List StoredGrouping) (sessions : List StoredSession) : Type 0 where
  pub records_are : All (λ (r : StoredRecord). IsIdOf count r.batch) records
  pub groupings_are : All (λ (g : StoredGrouping). IsIdOf count g.batch) groupings
  pub sessions_are : All (λ (s : StoredSession). IsIdOf count s.batch) sessions
