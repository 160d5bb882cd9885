-- Defines the progress of reading the rows of a record from a batch file (helper definitions).
use Rattle.std.specs.Prelude.{◌≡◌, ◌≤◌, ◌+◌, ℕ, List, [], length, All, Option, Some, None, Ok}
use Rattle.store_data.specs.Ranks.{IsRank}
use Rattle.store_data.specs.Sequence.{IsRow}
use Rattle.store_data.specs.declared.row.Row.{Row}
use Rattle.batch_import.specs.Batch.{Coming}
use Rattle.batch_import.specs.Rows.{Left, row_then}
use Rattle.batch_import.specs.Walks.{rows_then}
use Rattle.import_causes.specs.Causes.{Numbered}
use Rattle.import_causes.specs.Pairs.{rows_named}

-- a read returned the next of the rows to come, or nothing if no row was left
abbrev pub Advances : Coming → Option Row → Left → Type 0
Advances more (Some row) next = (rest : Coming) × (more ≡ row_then row rest) × (next ≡ Ok rest)
Advances more None next = more.rows ≡ []

-- after the rows `taken` of a reader with the rows `first` to come: `number` is the next row's
-- number, and `kept` has the rows of the record `name`
pub record IsWalked (start : Left) (name : List ℕ) (kept : List Numbered) (number : ℕ) (left : Left) : Type 0 where
  pub first : Coming
  pub start_is : start ≡ Ok first
  pub taken : List Row
  pub more : Coming
  pub left_is : left ≡ Ok more
  pub all : first ≡ rows_then taken more
  pub numbered : number ≡ length taken + 2
  pub kept_are : kept ≡ rows_named name taken
  pub each : All IsRow taken

-- the rows of a record have ranks in range, and there are at most 4,096
pub record AreRanked (rows : List Numbered) : Type 0 where
  pub few : length rows ≤ 4096
  pub each : All (λ (e : Numbered). IsRank e.1.rank) rows
