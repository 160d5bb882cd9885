-- A query inside a transaction commits nothing, regardless of its text.
use Rattle.std.proofs.Common.{◌⊎◌, ℕ, List, Option, Some, None, Result, Ok, Err, Vec, Global, cond, inl, inr, IsTrue, IfOk, IfErr, ap, ◌∙◌}
use Rattle.sqlite.specs.Order.{Row}
use Rattle.sqlite.specs.declared.rows.Row as rows
use Rattle.sqlite_schema.specs.declared.command.Returning.{Returning}
use Rattle.sqlite_resolve.specs.declared.compiled.Compiled.{Compiled}
use Rattle.sqlite.specs.declared.error.Error.{Error}
use Rattle.sqlite.specs.State.{State, Shown, ShowsRows, FailsToQuery, FailsToShow, IsNotRun, IsTooLate, IsUnchanged, IsRolledBack, KeepsCommit}

module _ (old new : State) where
  same_commit : IsUnchanged old new → KeepsCommit old new
  same_commit h = record { was_open = λ _. h.0.was_open; committed = λ _. h.0.committed_is }

  undone_commit : IsRolledBack old new → KeepsCommit old new
  undone_commit h = record { was_open = h.was_open; committed = λ live. (h.undone live).1 }

  shows_keep : IsTrue old.in_transaction → (sql : List ℕ) (c : Compiled) (params : Row) (rows : List Row) (returning : Option Returning) → ShowsRows old new sql c params rows returning → KeepsCommit old new
  shows_keep inside sql c params rows None h = same_commit h.3
  shows_keep inside sql c params rows (Some what) h = record { was_open = λ _. h.1.shown.was_open; committed = λ _. h.1.shown.committed_is ∙ ap (λ b. cond b old.committed new.now) inside }

  pub shown_keeps : IsTrue old.in_transaction → (sql : List ℕ) (params : Row) (rows : List Row) → Shown sql params old new rows → KeepsCommit old new
  unfolding Shown
  shown_keeps inside sql params rows h = shows_keep inside sql h.0 _ rows h.0.returning h.2

  shows_open : (sql : List ℕ) (c : Compiled) (params : Row) (rows : List Row) (returning : Option Returning) → ShowsRows old new sql c params rows returning → IsTrue old.is_open
  shows_open sql c params rows None h = h.3.0.was_open
  shows_open sql c params rows (Some what) h = h.1.shown.was_open

  -- If a query returns rows, the connection was open.
  pub shown_open : (sql : List ℕ) (params : Row) (rows : List Row) → Shown sql params old new rows → IsTrue old.is_open
  unfolding Shown
  shown_open sql params rows h = shows_open sql h.0 _ rows h.0.returning h.2

  fails_keep : (sql : List ℕ) (c : Compiled) (params : Row) (e : Error) (returning : Option Returning) → FailsToShow old new sql c params e returning → KeepsCommit old new
  fails_keep sql c params e None h = same_commit h.3
  fails_keep sql c params e (Some what) (inl h) = same_commit h.1
  fails_keep sql c params e (Some what) (inr h) = undone_commit h.3

  pub query_keeps : (sql : List ℕ) (params : Row) (e : Error) → FailsToQuery sql params old new e → KeepsCommit old new
  unfolding FailsToQuery IsNotRun
  query_keeps sql params e (inl (inl h)) = same_commit h.1
  query_keeps sql params e (inl (inr h)) = undone_commit h.3
  query_keeps sql params e (inr h) = fails_keep sql h.0 _ e h.0.returning h.2

  pub queried_keeps : IsTrue old.in_transaction → (sql : List ℕ) (params : Row) (r : Result (Vec rows.Row Global) Error) → IfOk r (λ all. Shown sql params old new all.items)
      → IfErr r (λ e. FailsToQuery sql params old new e ⊎ IsTooLate sql params old new e) → KeepsCommit old new
  queried_keeps inside sql params (Ok all) ok err = shown_keeps inside sql params all.items ok
  queried_keeps inside sql params (Err e) ok (inl fails) = query_keeps sql params e fails
  queried_keeps inside sql params (Err e) ok (inr late) = same_commit late.5
