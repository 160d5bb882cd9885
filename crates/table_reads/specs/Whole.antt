-- Queries for a whole table, with the rowid of each row first, and the relation between the rows
-- that they return and the stored rows.
use Rattle.std.specs.Prelude.{◌≡◌, ◌↔◌, false, true, ℕ, Bool, List, [], ◌∷◌, map, drop, All, IsPermutation, IsTrue}
use Rattle.sqlite.specs.Command.TheVariants.{Select}
use Rattle.sqlite.specs.Given.{IsPlain}
use Rattle.sqlite.specs.Listing.{reads_listing, understood}
use Rattle.sqlite.specs.Order.{Row}
use Rattle.sqlite.specs.Schema.{Schema}
use Rattle.sqlite.specs.Table.{Table}
use Rattle.sqlite.specs.Term.{Term, col, eval_all}
use Rattle.sqlite.specs.Tree.{Trees}
use Rattle.sqlite.specs.declared.types.Value.TheVariants.{Null}
use Rattle.sqlite.proofs.Callers.{command_of}
use Rattle.sqlite_schema.specs.Rules.{passes}
use Rattle.sqlite_schema.specs.declared.schema.Constraint.TheVariants.{Datatype, NotNull}
use Rattle.sql_base.specs.Queries.{from_tree}
use Rattle.sql_base.specs.Rowids.{AreApart}
use Rattle.sql_tables.specs.Finds.{Finds}

-- In the schema `s`, the text `sql` is a query for the columns `columns` of every row of the tree
-- `tree`.
pub record Asks (s : Schema) (sql : List ℕ) (tree : ℕ) (columns : List Term) : Type 0 where
  pub names : List (List ℕ)
  pub command : command_of (understood s sql) ≡ Select (record { lets = []; body = from_tree tree [] columns }) names
  pub plain : IsPlain (understood s sql)
  pub unlisted : reads_listing s sql ≡ false

-- the rowid of a row, followed by these columns
abbrev pub with_rowid : List Term → List Term
with_rowid columns = col 1 0 ∷ columns

-- the values of these columns in a row
abbrev pub columns_of : List Term → Row → Row
columns_of columns row = eval_all columns ([] ∷ row ∷ [])

-- The rows `shown` are the columns of all stored rows, in any order. `apart` tells whether all
-- rowids are different.
pub record AreShown (columns : List Term) (stored shown : List Row) (apart : Bool) : Type 0 where
  pub rows : IsPermutation (map (columns_of columns) stored) shown
  pub apart_is : IsTrue apart ↔ AreApart stored

-- the stored form of a row that a query returns. If a column is an alias of the rowid, that column
-- is NULL. Otherwise the row is without its rowid.
abbrev pub as_stored : Bool → Row → Row
as_stored true (id ∷ row) = id ∷ Null ∷ row
as_stored false (id ∷ row) = row
as_stored _ [] = []

-- a stored row, with its rowid only if a column is an alias of it
abbrev pub stored_row : Bool → Row → Row
stored_row true row = row
stored_row false row = drop 1 row

-- Under any tree number of the table, the text is a query for the rowid and all columns.
pub record IsWhole (sql : List ℕ) (table : ℕ → Table) (by_rowid : Bool) : Type 0 where
  pub columns : List Term
  pub numbered : (tree : ℕ) → (table tree).tree ≡ tree
  pub asks : (s : Schema) (tree : ℕ) → Finds s (table tree) → Asks s sql tree (with_rowid columns)
  pub shows : (s : Schema) (trees : Trees) (tree : ℕ) (row : Row) → passes Datatype s trees (table tree) row ≡ true → passes NotNull s trees (table tree) row ≡ true
      → as_stored by_rowid (columns_of (with_rowid columns) row) ≡ stored_row by_rowid row

-- No typed rows in range encode to the rows `stored`, in any order.
abbrev pub NoneFit : {X : Type 0} → (X → Row) → (X → Type 0) → List Row → Type 0
NoneFit encode fits stored = (xs : List _) → All fits xs → IsPermutation (map encode xs) stored → ⊥
