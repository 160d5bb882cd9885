-- The state that a call leaves unchanged.
use Rattle.std.specs.Prelude.{◌≡◌, false, IfErr, OnErr, OnOk, Result}
use Rattle.std.specs.Borrow.{MutBor}
use Rattle.sqlite.specs.Effect.{Database}
use Rattle.sqlite.specs.Held.{Held, state}
use Rattle.sqlite.specs.State.{HasCleanDisk, State, Survives}
use Rattle.sqlite.specs.Store.{Ghosts}
use Rattle.sqlite.specs.declared.error.Error.{Error}
use Rattle.sql_base.specs.Causes.{HadCause, ReportsCause}
use Rattle.sql_base.specs.Ends.{Ends, IsKept, IsLeft}

-- ---- reads

-- Nothing is changed, no transaction is left open, and a crash leaves what it could leave before.
pub record Looks (old new : State) : Type 0 where
  pub kept : HasCleanDisk new → IsKept old new
  pub idle : new.in_transaction ≡ false
  pub survives : Survives old new (λ _. ⊥)

-- Nothing is changed, no transaction is left open, and a crash leaves what it could leave before.
-- An error has a cause.
pub record LooksWithCause {S X : Type 0} (g : Ghosts S) (old new : Held S) (result : Result X Error) : Type 0 where
  pub kept : HasCleanDisk (state g new) → IsKept (state g old) (state g new)
  pub idle : new.in_transaction ≡ false
  pub survives : Survives (state g old) (state g new) (λ _. ⊥)
  pub cause : HasCleanDisk (state g new) → IfErr result (HadCause g (state g old) (state g new))

-- ---- writes in an open transaction

-- The transaction is on the same connection, and a crash leaves no trace of the call. An error has
-- a cause.
pub record LeavesNoTraceWithCause {S X : Type 0} (g : Ghosts S) (old new : MutBor (Held S)) (result : Result X Error) : Type 0 where
  pub same_reference : new.ghost_name ≡ old.ghost_name
  pub survives : Survives (state g old.now) (state g new.now) (λ _. ⊥)
  pub cause : HasCleanDisk (state g new.now) → ReportsCause (state g old.now) (state g new.now) result

-- ---- a transaction

-- The change `R` is made and committed or, after an error, nothing is changed. No transaction is
-- left open. A crash leaves what it could leave before, or the new database. An error has a cause.
pub record TransactsWithCause {S X : Type 0} (g : Ghosts S) (R : Database → Database → Type 0) (old new : Held S) (result : Result X Error) : Type 0 where
  pub ok : HasCleanDisk (state g new) → OnOk result (Ends R (state g old) (state g new))
  pub err : HasCleanDisk (state g new) → OnErr result (IsKept (state g old) (state g new))
  pub idle : new.in_transaction ≡ false
  pub crash : Survives (state g old) (state g new) (IsLeft R (state g old))
  pub cause : HasCleanDisk (state g new) → IfErr result (HadCause g (state g old) (state g new))
