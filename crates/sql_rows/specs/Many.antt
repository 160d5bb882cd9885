-- Many rows of one table, inserted by a part of a transaction.
use Rattle.std.specs.Prelude.{◌≡◌, ◌++◌, IsTrue, List, OnOk, Result}
use Rattle.std.specs.Borrow.{MutBor}
use Rattle.sqlite.specs.Effect.{Database}
use Rattle.sqlite.specs.Held.{Held, state}
use Rattle.sqlite.specs.State.{HasCleanDisk, KeepsCommit, State, Survives}
use Rattle.sqlite.specs.Store.{Ghosts}
use Rattle.sqlite.specs.declared.error.Error.{Error}
use Rattle.table_rows.specs.Tables.{StoredGrouping, StoredRecord, Tables}
use Rattle.sql_rows.specs.Image.{Moves}

abbrev pub with_records : List StoredRecord → Tables → Tables
with_records records t = record t { records = records ++ t.records }

abbrev pub with_groupings : List StoredGrouping → Tables → Tables
with_groupings groupings t = record t { groupings = groupings ++ t.groupings }

module _ (R : Database → Database → Type 0) where
  -- The database changes by `R`, nothing is committed, and an open transaction stays open.
  pub record GoesOn (old new : State) : Type 0 where
    pub made : R old.now new.now
    pub committed : new.committed ≡ old.committed
    pub inside : IsTrue old.in_transaction → IsTrue new.in_transaction

  -- If every call succeeds, the database changes by `R` and an open transaction stays open. Nothing
  -- is committed in either case.
  pub record WroteMany {X : Type 0} (old new : State) (result : Result X Error) : Type 0 where
    pub well : OnOk result (GoesOn old new)
    pub kept : KeepsCommit old new

-- The rows change by `change`.
abbrev pub WritesMany : {T : Type 0} → (Tables → Tables) → State → State → Result T Error → Type 0
WritesMany change old new result = HasCleanDisk new → WroteMany (Moves change) old new result

-- Several statements change the rows by `change`, the transaction is on the same connection, and a
-- crash leaves no trace of them.
pub record WritesInParts {S T : Type 0} (g : Ghosts S) (change : Tables → Tables) (old new : MutBor (Held S)) (result : Result T Error) : Type 0 where
  pub wrote : WritesMany change (state g old.now) (state g new.now) result
  pub same_reference : new.ghost_name ≡ old.ghost_name
  pub survives : Survives (state g old.now) (state g new.now) (λ _. ⊥)
