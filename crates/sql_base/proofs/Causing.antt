-- The cause of a statement's error.
use Rattle.std.proofs.Common.{◌≡◌, ◌⊎◌, ◌≤◌, Bool, Err, IfErr, IsTrue, List, None, Ok, Option, Result, Some, arith, false, inl, inr, refl, subst, sym, true, ℕ, ap}
use Rattle.std.specs.Result.{IsErrAnd}
use Rattle.std.proofs.lemmas.Bool.{both_ways, cases_Bool}
use Rattle.sqlite.proofs.StateLemmas.{relays}
use Rattle.sqlite.specs.Held.{Held, state}
use Rattle.sqlite.specs.Order.{Row}
use Rattle.sqlite.specs.State.{Executes, ExecutesIn, ExecutesInside, Fails, FailsToQuery, FailsToShow, IsMisplaced, IsNoStatement, IsNotRun, IsTooLate, RunsCommand, State, is_disk_error, mode_of, shows_rows, text_of}
use Rattle.sqlite.specs.Steps.{FailsToCommit}
use Rattle.sqlite.specs.Store.{Ghosts}
use Rattle.sqlite.specs.Clock.{timed}
use Rattle.sqlite.specs.declared.error.Error.{Error}
use Rattle.sqlite.specs.declared.error.Error.TheVariants.{ExecuteReturnedResults, SqliteFailure}
use Rattle.sqlite.specs.declared.error.ErrorCode.TheVariants.{TransactionState}
use Rattle.sqlite_disk.specs.Disk.{MoreFaults}
use Rattle.sqlite_resolve.specs.declared.compiled.Compiled.{Compiled}
use Rattle.sqlite_schema.specs.declared.command.Command.{Command}
use Rattle.sqlite_schema.specs.declared.command.Returning.{Returning}
use Rattle.sqlite_trees.specs.declared.error.StoreError.TheVariants.{Broken, Corrupt, Full, Io, OutOfMemory, Unstorable}
use Rattle.sql_base.specs.Causes.{HadCause, HasCause, ReportsCause}
use Rattle.sql_base.proofs.Refusing.{does, reads}

-- The count of faults never falls, so a fault is not forgotten.
more_faults : (a b c : ℕ) → a ≤ b → MoreFaults b c → MoreFaults a c
more_faults a b c up more = omega arith

cause_since : (a b c : State) (e : Error) → a.faults ≤ b.faults → HasCause b c e → HasCause a c e
cause_since a b c e up has = λ is. let it = has is in (more_faults a.faults b.faults c.faults up it.0, it.1)

-- An error that isn't a disk error needs no cause.
no_cause : (old new : State) (e : Error) → is_disk_error e ≡ false → HasCause old new e
no_cause old new e plain = λ is. absurd (both_ways _ plain is)

module _ (old new : State) where
  failed : (U : Type 0) (e : Error) → Fails old new U e → HasCause old new e
  failed U e (OutOfMemory, is, has, undone, told) = no_cause old new e (ap is_disk_error is)
  failed U e (Broken, is, has, undone, told) = no_cause old new e (ap is_disk_error is)
  failed U e (Unstorable, is, has, undone, told) = no_cause old new e (ap is_disk_error is)
  failed U e (Io, is, has, undone, told) = subst (HasCause old new) (sym is) (λ fault. (has, relays new.blamed Io told))
  failed U e (Corrupt, is, has, undone, told) = subst (HasCause old new) (sym is) (λ fault. (has, relays new.blamed Corrupt told))
  failed U e (Full, is, has, undone, told) = subst (HasCause old new) (sym is) (λ fault. (has, relays new.blamed Full told))

  no_statement : (sql : List ℕ) (params : Row) (e : Error) → IsNoStatement old sql params e → is_disk_error e ≡ false
  no_statement sql params e (inl unread) = ap is_disk_error unread.2
  no_statement sql params e (inr it) = elim it.2 [
    | inl many ↦ ap is_disk_error many.1
    | inr (inl wrong) ↦ ap is_disk_error wrong.1
    | inr (inr clock) ↦ ap is_disk_error clock.1
  ]

  not_run : (sql : List ℕ) (params : Row) (e : Error) → IsNotRun old new sql params e → HasCause old new e
  unfolding IsNotRun
  not_run sql params e (inl none) = no_cause old new e (no_statement sql params e none.0)
  not_run sql params e (inr it) = failed ⊥ e it

  misplaced : (command : Command) (e : Error) → IsMisplaced old command e → is_disk_error e ≡ false
  misplaced command e (inl it) = ap is_disk_error it.0
  misplaced command e (inr it) = ap is_disk_error it.0

  ran_to : (sql : List ℕ) (c : Compiled) (params : Row) (e : Error) → RunsCommand old new sql c params (Err e) → HasCause old new e
  ran_to sql c params e (inl (inl lost, same)) = no_cause old new e (misplaced c.command e lost)
  ran_to sql c params e (inl (inr refused, same)) =
      no_cause old new e ((does old.step_limit (mode_of old) params old.now (text_of sql c) c.returning c.command).none e refused.1)
  ran_to sql c params e (inr it) = failed _ e it

  executed : (sql : List ℕ) (params : Row) (e : Error) → Executes sql params old new (Err e) → HasCause old new e
  unfolding ExecutesIn
  executed sql params e (inl none) = not_run sql params e none
  executed sql params e (inr (c, is, ran)) = elim (cases_Bool (shows_rows false c)) [
    | inl shows ↦ let same : e ≡ ExecuteReturnedResults = cc (rw shows at ran).0 in no_cause old new e (ap is_disk_error same)
    | inr runs ↦ ran_to sql c (timed params c.formats is.now) e (rw runs at ran)
  ]

  shown_to : (sql : List ℕ) (c : Compiled) (params : Row) (e : Error) (o : Option Returning) → FailsToShow old new sql c params e o → HasCause old new e
  shown_to sql c params e None it = no_cause old new e (reads old.step_limit c.command it.0 params e it.2)
  shown_to sql c params e (Some what) it = ran_to sql c params e it

  queried_to : (sql : List ℕ) (params : Row) (e : Error) → FailsToQuery sql params old new e ⊎ IsTooLate sql params old new e → HasCause old new e
  unfolding FailsToQuery
  queried_to sql params e (inl (inl none)) = not_run sql params e none
  queried_to sql params e (inl (inr (c, is, it))) = shown_to sql c (timed params c.formats is.now) e c.returning it
  queried_to sql params e (inr late) = no_cause old new e (ap is_disk_error late.4)

  ended_to : (e : Error) → FailsToCommit old new e → HasCause old new e
  ended_to e (inl it) = failed ⊥ e it
  ended_to e (inr late) = no_cause old new e (ap is_disk_error late.0)

-- the error that `execute` reports in a transaction
module _ {S : Type 0} (g : Ghosts S) (old new : Held S) (sql : List ℕ) (params : Row) where
  reports_in : (inside : Bool) (r : Result ℕ Error) → (inside ≡ false → (r ≡ Err (SqliteFailure TransactionState)) × (new ≡ old)) → (IsTrue inside → ExecutesInside 0 sql params (state g old) (state g new) r)
      → ReportsCause (state g old) (state g new) r
  reports_in inside (Ok count) ended runs = tt
  reports_in true (Err e) ended runs = elim (runs refl) [
    | inl ran ↦ executed (state g old) (state g new) sql params e ran.0
    | inr escapes ↦ no_cause (state g old) (state g new) e (ap is_disk_error escapes.1)
  ]
  reports_in false (Err e) ended runs = let same : e ≡ SqliteFailure TransactionState = cc (ended refl).0 in no_cause (state g old) (state g new) e (ap is_disk_error same)

  pub reports : (r : Result ℕ Error) → (old.in_transaction ≡ false → (r ≡ Err (SqliteFailure TransactionState)) × (new ≡ old)) → (IsTrue old.in_transaction → ExecutesInside 0 sql params (state g old) (state g new) r)
      → ReportsCause (state g old) (state g new) r
  reports = reports_in old.in_transaction

-- the result if `?` returns early with an error
exits : {X : Type 0} (P : Error → Type 0) (e : Error) (r : Result X Error) → IsErrAnd r (λ y. y ≡ e) → P e → IfErr r P
exits P e (Ok x) is has = tt
exits P e (Err y) is has = subst P (sym is) has

pub passed_on : {X : Type 0} (old new : State) (e : Error) (r : Result X Error) → IsErrAnd r (λ y. y ≡ e) → HasCause old new e → ReportsCause old new r
passed_on old new e r is has = exits (HasCause old new) e r is has

-- later states in a transaction
module _ {X : Type 0} (a b c : State) (r : Result X Error) (up : a.faults ≤ b.faults) where
  pub passed_since : (e : Error) → IsErrAnd r (λ y. y ≡ e) → HasCause b c e → ReportsCause a c r
  passed_since e is has = passed_on a c e r is (cause_since a b c e up has)

pub reports_since : {X : Type 0} (a b c : State) (r : Result X Error) → a.faults ≤ b.faults → ReportsCause b c r → ReportsCause a c r
reports_since a b c (Ok x) up has = tt
reports_since a b c (Err e) up has = cause_since a b c e up has

-- the error of a transaction that ends after the state `mid`
module _ {S : Type 0} (g : Ghosts S) (old mid new : Held S) where
  pub had : {X : Type 0} (e : Error) (r : Result X Error) → IsErrAnd r (λ y. y ≡ e) → HasCause (state g old) (state g mid) e → (state g mid).faults ≤ (state g new).faults
      → IfErr r (HadCause g (state g old) (state g new))
  had e r is has up = exits (HadCause g (state g old) (state g new)) e r is (mid, has, up)

  pub queried_had : {X : Type 0} (sql : List ℕ) (params : Row) (r : Result X Error) → IfErr r (λ e. FailsToQuery sql params (state g old) (state g mid) e ⊎ IsTooLate sql params (state g old) (state g mid) e)
      → (state g mid).faults ≤ (state g new).faults → IfErr r (HadCause g (state g old) (state g new))
  queried_had sql params (Ok x) fails up = tt
  queried_had sql params (Err e) fails up = (mid, queried_to (state g old) (state g mid) sql params e fails, up)

  pub ended_had : {X : Type 0} (r : Result X Error) → (state g old).faults ≤ (state g mid).faults → IfErr r (FailsToCommit (state g mid) (state g new)) → IfErr r (HadCause g (state g old) (state g new))
  ended_had (Ok x) up fails = tt
  ended_had (Err e) up fails = (new, cause_since (state g old) (state g mid) (state g new) e up (ended_to (state g mid) (state g new) e fails), omega arith)
