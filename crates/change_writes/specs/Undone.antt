-- The databases that a crash may leave after a failed commit.
use Rattle.std.specs.Prelude.{◌≡◌, true, Result, IfErr}
use Rattle.sqlite.specs.State.{State, Survives}
use Rattle.sqlite.specs.declared.error.Error.{Error}
use Rattle.job_facts.specs.declared.failed.Failed.{Failed}

-- After a failure that is undone, a crash leaves no trace of the call.
abbrev pub LeavesNoTraceIfUndone : State → State → Result (Unit {0}) (Failed Error) → Type 0
LeavesNoTraceIfUndone old new result = IfErr result (λ (failed : Failed Error). failed.undone ≡ true → Survives old new (λ _. ⊥))
