-- The effect of a statement that runs in a transaction.
use Rattle.std.proofs.Common.{◌≡◌, ℕ, List, false, IsTrue, Result, Ok, Err}
use Rattle.std.specs.Borrow.{MutBor}
use Rattle.sqlite.specs.Held.{Held, state}
use Rattle.sqlite.specs.Order.{Row}
use Rattle.sqlite.specs.State.{Executes, ExecutesInside, HasCleanDisk, Survives}
use Rattle.sqlite.specs.Store.{Ghosts}
use Rattle.sqlite.specs.declared.error.Error.{Error}
use Rattle.sqlite.specs.declared.error.Error.TheVariants.{SqliteFailure}
use Rattle.sqlite.specs.declared.error.ErrorCode.TheVariants.{TransactionState}
use Rattle.table_rows.specs.Tables.{Tables}
use Rattle.sql_base.proofs.Causing.{reports}
use Rattle.sql_base.proofs.Ending.{wrote}
use Rattle.sql_rows.specs.Image.{Moves}
use Rattle.sql_rows.specs.Writes.{Writes, WritesWithCause}

-- the facts about a call of `execute` whose statement changes the rows
module _ {S : Type 0} (g : Ghosts S) (change : Tables → Tables) (old new : MutBor (Held S)) (sql : List ℕ) (params : Row)
    (moves : (count : ℕ) → Executes sql params (state g old.now) (state g new.now) (Ok count) → Moves change (state g old.now).now (state g new.now).now) (r : Result ℕ Error)
    (ended : old.now.in_transaction ≡ false → (r ≡ Err (SqliteFailure TransactionState)) × (new.now ≡ old.now)) (same : new.ghost_name ≡ old.ghost_name)
    (survives : Survives (state g old.now) (state g new.now) (λ _. ⊥))
    (runs : HasCleanDisk (state g new.now) → IsTrue old.now.in_transaction → ExecutesInside 0 sql params (state g old.now) (state g new.now) r) where
  pub writes : Writes g change old new r
  writes = record {
    wrote = λ clean. wrote g (Moves change) old.now new.now sql params (SqliteFailure TransactionState) moves r ended (runs clean);
    same_reference = same;
    survives = survives;
  }

  pub writes_with_cause : WritesWithCause g change old new r
  writes_with_cause = record {
    wrote = writes.wrote;
    same_reference = same;
    survives = survives;
    cause = λ clean. reports g old.now new.now sql params r ended (runs clean);
  }
