-- The cause of an error is also the cause of the fault that reports it.
use Rattle.std.proofs.Common.{◌≡◌, [], Err, IfErr, List, Ok, Result, arith, inl, ℕ}
use Rattle.std.specs.Result.{IsErrAnd}
use Rattle.sqlite.specs.Held.{Held, state}
use Rattle.sqlite.specs.State.{FailsToQuery, IsNotRun, State}
use Rattle.sqlite.specs.Store.{Ghosts}
use Rattle.sqlite.specs.declared.error.Error.{Error}
use Rattle.job_facts.specs.declared.store.StoreFault.{StoreFault}
use Rattle.sql_base.specs.Causes.{HadCause}
use Rattle.sql_base.proofs.Causing.{queried_had}
use Rattle.adoption.specs.Causes.{IsCaused}
use Rattle.adoption.specs.Faults.{fault_for}
use Rattle.adoption.specs.declared.faults.OpenFault.{OpenFault}
use Rattle.adoption.specs.declared.faults.OpenFault.TheVariants.{Store}

module _ {S : Type 0} (g : Ghosts S) (old new : State) where
  pub caused : (e : Error) (fault : OpenFault) (own : StoreFault) → fault ≡ Store (fault_for e) → fault ≡ Store own → HadCause g old new e → IsCaused g old new own
  caused e fault own is reported had = let same : own ≡ fault_for e = cc (is, reported) in (e, same, had)

  -- the result if `?` returns early with an error
  pub passed_fault : {X : Type 0} (r : Result X OpenFault) (e : Error) → IsErrAnd r (λ fault. fault ≡ Store (fault_for e)) → HadCause g old new e → IfErr r (λ fault. (own : StoreFault) → fault ≡ Store own → IsCaused g old new own)
  passed_fault (Ok x) e is had = tt
  passed_fault (Err fault) e is had = λ own reported. caused e fault own is reported had

-- a statement that isn't prepared
module _ {S : Type 0} (g : Ghosts S) (old new : Held S) where
  pub unprepared_had : (sql : List ℕ) (e : Error) → IsNotRun (state g old) (state g new) sql [] e → HadCause g (state g old) (state g new) e
  unfolding FailsToQuery
  unprepared_had sql e none =
      let failed : Result ⊥ Error = Err e in
      queried_had g old new new sql [] failed (inl (inl none)) (omega arith)
