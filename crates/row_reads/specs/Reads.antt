-- The results of reads, and their effects.
use Rattle.std.specs.Prelude.{ℕ, true, IfOk, IsTrue, List, Result}
use Rattle.sqlite.specs.Held.{Held, state}
use Rattle.sqlite.specs.Order.{Row}
use Rattle.sqlite.specs.State.{HasCleanDisk, Shown, State}
use Rattle.sqlite.specs.Store.{Ghosts}
use Rattle.sqlite.specs.declared.error.Error.{Error}
pub use Rattle.sql_base.specs.Unchanged.{Looks}
use Rattle.table_rows.specs.Tables.{Tables}
use Rattle.sql_rows.specs.Image.{IsImage}

-- On a correct device, a result has the property `P` for the rows that the query returns in a
-- transaction of its own.
abbrev pub Answers : {S T : Type 0} → Ghosts S → Held S → Held S → List ℕ → Row → Result T Error → (List Row → T → Type 0) → Type 0
Answers g old new sql params result P =
    HasCleanDisk (state g new) → IfOk result
    (λ answer. (mid : Held _) × (rows : List Row) × Shown sql params (state g (record old { in_transaction = true })) (state g mid) rows × P rows answer)

-- On a correct device, if the call succeeds, the connection was open, and the result has the
-- property `P` for any rows that the database contains.
abbrev pub ReadsRows : {T : Type 0} → State → State → Result T Error → (Tables → T → Type 0) → Type 0
ReadsRows old new result P = HasCleanDisk new → IfOk result (λ answer. IsTrue old.is_open × ((t : Tables) → IsImage t old.now → P t answer))

-- The result has the property `P` for any rows that the database contains. Nothing is changed, and
-- a crash leaves what it could leave before.
pub record FindsRows {T : Type 0} (old new : State) (result : Result T Error) (P : Tables → T → Type 0) : Type 0 where
  pub found : ReadsRows old new result P
  pub looks : Looks old new
