-- The values to which the rows of a query for a whole table are converted.
use Rattle.std.specs.Prelude.{ℕ, Bool, List, All, IsTrue, MatchOption, Option}
use Rattle.std.specs.List.{AllZip}
use Rattle.sqlite.specs.Effect.{Database, IsDatabase}
use Rattle.sqlite.specs.Order.{Row}
use Rattle.sqlite.specs.State.{State}
use Rattle.sqlite.specs.Term.{Term}
use Rattle.table_reads.specs.Whole.{AreShown, Asks, with_rowid}
use Rattle.table_reads.specs.declared.reads.TableRows.{TableRows}

-- `xs` has the value of each stored row, in any order. `apart` tells whether all rowids are
-- different.
pub record AreTyped {X : Type 0} (gives : Row → X → Type 0) (columns : List Term) (stored : List Row) (xs : List X) (apart : Bool) : Type 0 where
  pub rows : List Row
  pub shown : AreShown columns stored rows apart
  pub values : AllZip gives rows xs

-- The columns of some stored row don't have the shape `is_row`.
pub record LackShape (is_row : Row → Type 0) (columns : List Term) (stored : List Row) : Type 0 where
  pub rows : List Row
  pub apart : Bool
  pub shown : AreShown columns stored rows apart
  pub lack : All is_row rows → ⊥

-- If the text is a query for the rowid and other columns of every row of a tree, `found` contains
-- the values of these rows, or is `None` because a row doesn't have the shape.
abbrev pub AreConverted : {X : Type 0} → (Row → Type 0) → (Row → X → Type 0) → List ℕ → Database → Option (TableRows X) → Type 0
AreConverted is_row gives sql db found =
    (tree : ℕ) (columns : List Term) → Asks db.schema sql tree (with_rowid columns)
    → MatchOption found (LackShape is_row (with_rowid columns) (db.trees tree)) (λ all. AreTyped gives (with_rowid columns) (db.trees tree) all.rows.items all.apart)

-- The connection was open, and showed a database from which `found` was read.
abbrev pub ReadsConverted : {X : Type 0} → (Row → Type 0) → (Row → X → Type 0) → List ℕ → State → Option (TableRows X) → Type 0
ReadsConverted is_row gives sql old found = IsTrue old.is_open × IsDatabase old.now × AreConverted is_row gives sql old.now found
