-- Lemmas about results that are computed from the rows of a query.
use Rattle.std.proofs.Common.{◌≡◌, ℕ, true, List, Result, IfOk, IsTrue, sym, subst}
use Rattle.sqlite.specs.declared.error.Error.{Error}
use Rattle.sqlite.specs.Held.{Held, state}
use Rattle.sqlite.specs.Order.{Row}
use Rattle.sqlite.specs.State.{HasCleanDisk, Shown, State}
use Rattle.sqlite.specs.Store.{Ghosts}
use Rattle.sql_base.proofs.Querying.{shown_open}
use Rattle.sql_base.proofs.Selecting.{if_ok}
use Rattle.table_rows.specs.Tables.{Tables}
use Rattle.sql_rows.specs.Image.{IsImage}
use Rattle.row_reads.specs.Reads.{Answers, ReadsRows}

pub rows_answered : {T : Type 0} (old end : State) (text : List ℕ) (params : Row) (rows slice : List Row) → slice ≡ rows → Shown text params old end rows
    → (result : Result T Error) (W : List Row → T → Type 0) (P : Tables → T → Type 0) → IfOk result (W slice) → ((t : Tables) → IsImage t old.now → (x : T) → W rows x → P t x)
    → IfOk result (λ x. IsTrue old.is_open × ((t : Tables) → IsImage t old.now → P t x))
rows_answered old end text params rows slice same shown result W P made law =
    if_ok result (W slice) _ (λ x is. (shown_open old end text params rows shown, λ t image. law t image x (subst (λ rs. W rs x) same is))) made

-- for a function of the rows
pub value_answered : {T V : Type 0} (view : T → V) (value : List Row → V) (old end : State) (text : List ℕ) (params : Row) (rows slice : List Row) → slice ≡ rows → Shown text params old end rows
    → (result : Result T Error) (P : Tables → V → Type 0) → IfOk result (λ x. view x ≡ value slice) → ((t : Tables) → IsImage t old.now → P t (value rows))
    → IfOk result (λ x. IsTrue old.is_open × ((t : Tables) → IsImage t old.now → P t (view x)))
value_answered view value old end text params rows slice same shown result P made law =
    rows_answered old end text params rows slice same shown result (λ rs x. view x ≡ value rs) (λ t x. P t (view x)) made (λ t image x is. subst (P t) (sym is) (law t image))

-- the connection in a transaction of its own
abbrev begun : {S : Type 0} → Held S → Held S
begun old = record old { in_transaction = true }

module _ {S T : Type 0} (g : Ghosts S) (old new : Held S) where
  -- a result computed from the rows in any way
  pub answered : (sql : List ℕ) (params : Row) (rows slice : List Row) → slice ≡ rows → (result : Result T Error) (P : List Row → T → Type 0) → IfOk result (P slice)
      → (HasCleanDisk (state g new) → (mid : Held S) × Shown sql params (state g (begun old)) (state g mid) rows) → Answers g old new sql params result P
  answered sql params rows slice same result P made shown clean =
      let asked = shown clean in
      if_ok result (P slice) _ (λ x is. (asked.0, rows, asked.1, subst (λ rs. P rs x) same is)) made

  -- the result of a read, from what its query shows of the rows of the tables
  pub answered_by : (sql : List ℕ) (params : Row) (result : Result T Error) (W : List Row → T → Type 0) (P : Tables → T → Type 0) → Answers g old new sql params result W
      → ((end : State) (rows : List Row) → Shown sql params (state g (begun old)) end rows → (t : Tables) → IsImage t (state g (begun old)).now → (x : T) → W rows x → P t x)
      → ReadsRows (state g old) (state g new) result P
  answered_by sql params result W P answers law clean =
      if_ok result _ _ (λ x it. (shown_open (state g (begun old)) (state g it.0) sql params it.1 it.2, λ t image. law (state g it.0) it.1 it.2 t image x it.3)) (answers clean)

  -- for a list computed from the rows
  pub list_answered : {V : Type 0} (view : T → V) (value : List Row → V) (sql : List ℕ) (params : Row) (result : Result T Error) (P : Tables → V → Type 0)
      → Answers g old new sql params result (λ rows x. view x ≡ value rows)
      → ((end : State) (rows : List Row) → Shown sql params (state g (begun old)) end rows → (t : Tables) → IsImage t (state g (begun old)).now → P t (value rows))
      → ReadsRows (state g old) (state g new) result (λ t x. P t (view x))
  list_answered view value sql params result P answers law =
      answered_by sql params result (λ rows x. view x ≡ value rows) (λ t x. P t (view x)) answers (λ end rows shown t image x is. subst (P t) (sym is) (law end rows shown t image))
