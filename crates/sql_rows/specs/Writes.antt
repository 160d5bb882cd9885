-- The effect of a write on the rows.
use Rattle.std.specs.Prelude.{◌≡◌, Result}
use Rattle.std.specs.Borrow.{MutBor}
use Rattle.sqlite.specs.Held.{Held, state}
use Rattle.sqlite.specs.State.{HasCleanDisk, State, Survives}
use Rattle.sqlite.specs.Store.{Ghosts}
use Rattle.sqlite.specs.declared.error.Error.{Error}
use Rattle.sql_base.specs.Causes.{ReportsCause}
use Rattle.sql_base.specs.Ends.{Wrote}
use Rattle.table_rows.specs.Tables.{Tables}
use Rattle.sql_rows.specs.Image.{Moves}

-- If the call succeeds, the rows change by `change` inside the transaction. Nothing is committed in
-- either case.
abbrev pub WritesRows : {T : Type 0} → (Tables → Tables) → State → State → Result T Error → Type 0
WritesRows change old new result = HasCleanDisk new → Wrote (Moves change) old new result

-- The rows change by `change`, the transaction is on the same connection, and a crash leaves no
-- trace of the call.
pub record Writes {S T : Type 0} (g : Ghosts S) (change : Tables → Tables) (old new : MutBor (Held S)) (result : Result T Error) : Type 0 where
  pub wrote : WritesRows change (state g old.now) (state g new.now) result
  pub same_reference : new.ghost_name ≡ old.ghost_name
  pub survives : Survives (state g old.now) (state g new.now) (λ _. ⊥)

-- The rows change by `change`, the transaction is on the same connection, a crash leaves no trace
-- of the call, and an error has a cause.
pub record WritesWithCause {S T : Type 0} (g : Ghosts S) (change : Tables → Tables) (old new : MutBor (Held S)) (result : Result T Error) : Type 0 where
  pub wrote : WritesRows change (state g old.now) (state g new.now) result
  pub same_reference : new.ghost_name ≡ old.ghost_name
  pub survives : Survives (state g old.now) (state g new.now) (λ _. ⊥)
  pub cause : HasCleanDisk (state g new.now) → ReportsCause (state g old.now) (state g new.now) result
