-- The same rows in another order fill the same tables.
use Rattle.std.proofs.Common.{Bool, List, map}
use Rattle.std.specs.List.{AllByRecursion}
use Rattle.std.specs.List.Sorted.{IsPermutation}
use Rattle.std.proofs.lemmas.List.Sorted.{IsPermutation-map, IsPermutation-trans}
use Rattle.sqlite.specs.Effect.{Database}
use Rattle.sqlite.specs.Order.{Row}
use Rattle.sqlite.specs.Table.{Table}
use Rattle.sqlite.specs.Tree.{Trees}
use Rattle.table_rows.specs.Tables.{HaveSameRows, Tables}
use Rattle.sql_rows.specs.Image.{IsFilled, IsImage, filled}

-- the rows of one table in another order
reordered : {X : Type 0} {table : Table} {by_rowid : Bool} (encode : X → Row) (xs ys : List X) (trees : Trees) → IsPermutation xs ys
    → IsFilled (record { table = table; by_rowid = by_rowid; rows = map encode ys }) trees → IsFilled (record { table = table; by_rowid = by_rowid; rows = map encode xs }) trees
reordered encode xs ys trees same is = record {
  rows = IsPermutation-trans (map encode xs) (map encode ys) _ (IsPermutation-map encode xs ys same) is.rows;
  apart = is.apart;
}

pub same_rows : (t u : Tables) (db : Database) → HaveSameRows t u → IsImage u db → IsImage t db
same_rows t u db same image =
    let each : AllByRecursion (λ x. IsFilled x db.trees) (filled t) = search reordered in
    record { ours = image.ours; is_database = image.is_database; each = each }
