-- A database in memory has no disk that can fail.
use Rattle.std.proofs.Common.{◌≡◌, Err, IfErr, Ok, Result, arith, false, subst, sym}
use Rattle.std.specs.Result.{IsErrAnd}
use Rattle.sqlite.specs.Held.{Held, state}
use Rattle.sqlite.specs.State.{is_disk_error}
use Rattle.sqlite.specs.Steps.{over_memory}
use Rattle.sqlite.specs.declared.error.Error.{Error}
use Rattle.sqlite_trees.specs.declared.memory.MemStore.{MemStore}
use Rattle.sqlite_trees.proofs.TreeLemmas.{not_true}
use Rattle.sql_base.specs.Causes.{HadCause, HasCause}

module _ (old : Held MemStore) where
  pub no_disk : (new : Held MemStore) (e : Error) → HasCause (state over_memory old) (state over_memory new) e → is_disk_error e ≡ false
  no_disk new e has = not_true (is_disk_error e) (λ is. let more = (has is).0 in omega arith)

  pub no_disk_had : {X : Type 0} (new : Held MemStore) (r : Result X Error) → IfErr r (HadCause over_memory (state over_memory old) (state over_memory new)) → IfErr r (λ e. is_disk_error e ≡ false)
  no_disk_had new (Ok x) had = tt
  no_disk_had new (Err e) had = no_disk had.0 e had.1

-- the result if `?` returns early with an error
pub unblamed : {X : Type 0} (e : Error) (r : Result X Error) → IsErrAnd r (λ y. y ≡ e) → is_disk_error e ≡ false → IfErr r (λ y. is_disk_error y ≡ false)
unblamed e (Ok x) is none = tt
unblamed e (Err y) is none = subst (λ z. is_disk_error z ≡ false) (sym is) none
