-- Rows that are read one at a time.
use Rattle.std.specs.Prelude.{◌<ℤ◌, ℕ, ℤ, ⊤, List, ◌++◌, Option, Some, None}
use Rattle.std.specs.List.{AllZip}
use Rattle.sqlite.specs.Given.{Returns}
use Rattle.sqlite.specs.Listing.{understood}
use Rattle.sqlite.specs.Order.{Row}
use Rattle.sqlite.specs.Schema.{Schema}
use Rattle.table_reads.specs.Rowids.{AreRising, IsRisingFrom}

-- In no schema does the text have a RETURNING clause. Only a statement with this clause both writes
-- and returns rows.
abbrev pub HasNoReturning : List ℕ → Type 0
HasNoReturning sql = (s : Schema) → Returns (understood s sql) → ⊥

abbrev pub IsAbove : Option ℤ → ℤ → Type 0
IsAbove None rowid = ⊤
IsAbove (Some last) rowid = last <ℤ rowid

-- The rows ascend, and the first rowid is higher than `last`.
abbrev pub AreRisingAfter : Option ℤ → List Row → Type 0
AreRisingAfter None rows = AreRising rows
AreRisingAfter (Some last) rows = IsRisingFrom last rows

-- The rows ascend up to the rowid `last`, and have the values `xs`.
pub record StandSoFar {X : Type 0} (gives : Row → X → Type 0) (rows : List Row) (xs : List X) (last : Option ℤ) : Type 0 where
  pub rising : (more : List Row) → AreRisingAfter last more → AreRising (rows ++ more)
  pub values : AllZip gives rows xs
