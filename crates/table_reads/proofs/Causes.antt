-- The cause of an error in one of several calls is also its cause in all of them together.
use Rattle.std.proofs.Common.{◌≡◌, ◌≤◌, Err, IfErr, Ok, Result, arith, false, subst, sym}
use Rattle.std.specs.Result.{IsErrAnd}
use Rattle.std.proofs.lemmas.Bool.{both_ways}
use Rattle.sqlite.specs.Held.{Held, state}
use Rattle.sqlite.specs.State.{State, is_disk_error}
use Rattle.sqlite.specs.Store.{Ghosts}
use Rattle.sqlite.specs.declared.error.Error.{Error}
use Rattle.sql_base.specs.Causes.{HadCause}
use Rattle.sql_base.proofs.Causing.{reports_since}

-- the result if `?` returns early with an error
exits : {X : Type 0} (P : Error → Type 0) (e : Error) (r : Result X Error) → IsErrAnd r (λ y. y ≡ e) → P e → IfErr r P
exits P e (Ok x) is has = tt
exits P e (Err y) is has = subst P (sym is) has

module _ {S : Type 0} (g : Ghosts S) where
  -- the calls began earlier
  pub had_since : (a b c : State) → a.faults ≤ b.faults → (e : Error) → HadCause g b c e → HadCause g a c e
  had_since a b c up e had =
      let failed : Result ⊥ Error = Err e in
      (had.0, reports_since a b (state g had.0) failed up had.1, had.2)

  -- An error that isn't a disk error needs no cause.
  pub plain_had : (old : State) (new : Held S) (e : Error) → is_disk_error e ≡ false → HadCause g old (state g new) e
  plain_had old new e plain = (new, (λ is. absurd (both_ways _ plain is)), omega arith)

  module _ (a b c : State) (up : a.faults ≤ b.faults) where
    -- the result of the last call
    pub reports_had : {X : Type 0} (r : Result X Error) → IfErr r (HadCause g b c) → IfErr r (HadCause g a c)
    reports_had (Ok x) had = tt
    reports_had (Err e) had = had_since a b c up e had

    -- the result of a `?` after the last call
    pub passed_had : {X : Type 0} (r : Result X Error) (e : Error) → IsErrAnd r (λ y. y ≡ e) → HadCause g b c e → IfErr r (HadCause g a c)
    passed_had r e is had = exits (HadCause g a c) e r is (had_since a b c up e had)

  module _ (old : State) (new : Held S) where
    pub reports_plain : {X : Type 0} (r : Result X Error) → IfErr r (λ e. is_disk_error e ≡ false) → IfErr r (HadCause g old (state g new))
    reports_plain (Ok x) plain = tt
    reports_plain (Err e) plain = plain_had old new e plain

    pub passed_plain : {X : Type 0} (r : Result X Error) (e : Error) → IsErrAnd r (λ y. y ≡ e) → is_disk_error e ≡ false → IfErr r (HadCause g old (state g new))
    passed_plain r e is plain = exits (HadCause g old (state g new)) e r is (plain_had old new e plain)
