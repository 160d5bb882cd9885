-- Several calls, one after the other, that leave no trace after a crash.
use Rattle.std.proofs.Common.{◌≡◌, ◌∙◌, Ok, Result}
use Rattle.std.specs.Borrow.{MutBor}
use Rattle.std.specs.Result.{IsErrAnd}
use Rattle.sqlite.specs.Held.{Held, state}
use Rattle.sqlite.specs.State.{HasCleanDisk, State, Survives}
use Rattle.sqlite.specs.Store.{Ghosts}
use Rattle.sqlite.specs.declared.error.Error.{Error}
use Rattle.sqlite.proofs.StateLemmas.{survives_then}
use Rattle.sql_base.specs.Causes.{HasCause}
use Rattle.sql_base.specs.Unchanged.{LeavesNoTraceWithCause}
use Rattle.sql_base.proofs.Causing.{passed_on, reports_since}

pub outlives : {a b c : State} → Survives a b (λ _. ⊥) → Survives b c (λ _. ⊥) → Survives a c (λ _. ⊥)
outlives {a} {b} {c} one two = survives_then a b c _ _ _ (λ _ db none. none) (λ _ db none. none) one two

-- two calls, the second of which has the result
pub trace_then : {S X Y : Type 0} {g : Ghosts S} {a b c : MutBor (Held S)} {q : Result Y Error} {r : Result X Error} → LeavesNoTraceWithCause g a b q → LeavesNoTraceWithCause g b c r → LeavesNoTraceWithCause g a c r
trace_then {S} {X} {Y} {g} {a} {b} {c} {q} {r} one two = record {
  same_reference = two.same_reference ∙ one.same_reference;
  survives = outlives one.survives two.survives;
  cause = λ clean. reports_since (state g a.now) (state g b.now) (state g c.now) r one.survives.counts (two.cause clean);
}

-- another success after the call
pub trace_well : {S X Y : Type 0} {g : Ghosts S} {a b : MutBor (Held S)} {q : Result Y Error} → LeavesNoTraceWithCause g a b q → (x : X) → LeavesNoTraceWithCause g a b (Ok x)
trace_well one x = record { same_reference = one.same_reference; survives = one.survives; cause = λ clean. tt }

-- `?` returns the error of the call
pub trace_past : {S X Y : Type 0} {g : Ghosts S} {a b : MutBor (Held S)} {q : Result Y Error} → LeavesNoTraceWithCause g a b q → (r : Result X Error) (e : Error) → IsErrAnd r (λ y. y ≡ e)
    → (HasCleanDisk (state g b.now) → HasCause (state g a.now) (state g b.now) e) → LeavesNoTraceWithCause g a b r
trace_past {S} {X} {Y} {g} {a} {b} {q} one r e is has = record {
  same_reference = one.same_reference;
  survives = one.survives;
  cause = λ clean. passed_on (state g a.now) (state g b.now) e r is (has clean);
}
