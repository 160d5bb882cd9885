-- A database with given rows in the tables of the current schema, and nothing else.
use Rattle.std.specs.Prelude.{◌≡◌, Bool, true, false, List, [], ◌∷◌, map, drop, IsPermutation}
use Rattle.std.specs.List.{AllByRecursion}
use Rattle.sqlite.specs.Effect.{Database, IsDatabase}
use Rattle.sqlite.specs.Order.{Row}
use Rattle.sqlite.specs.Table.{Table}
use Rattle.sqlite.specs.Tree.{Trees}
use Rattle.sql_base.specs.Rowids.{AreApart}
use Rattle.sql_tables.specs.Opening.{version_row}
use Rattle.sql_tables.specs.Tables.{batch_table, blank_table, grouping_table, lot_table, mark_table, our_schema, product_table, record_table, remake_table, reply_table, session_table, version_table, word_table}
use Rattle.table_rows.specs.Tables.{Tables}
use Rattle.sql_rows.specs.Encoding.{batch_row, blank_row, grouping_row, lot_row, mark_row, product_row, record_row, remake_row, reply_row, session_row, word_row}

-- a table with its rows, given with or without their rowids
pub record Filled : Type 0 where
  pub table : Table
  pub by_rowid : Bool
  pub rows : List Row

abbrev pub by_rowid : Table → List Row → Filled
by_rowid table rows = record { table = table; by_rowid = true; rows = rows }

-- a table whose rowids were chosen by SQLite
abbrev pub unnumbered : Table → List Row → Filled
unnumbered table rows = record { table = table; by_rowid = false; rows = rows }

-- all tables of the current schema, in their order
abbrev pub filled : Tables → List Filled
filled t =
    by_rowid version_table (version_row ∷ [])
    ∷ unnumbered product_table (map product_row t.products)
    ∷ unnumbered lot_table (map lot_row t.lots)
    ∷ by_rowid batch_table (map batch_row t.batches)
    ∷ unnumbered record_table (map record_row t.records)
    ∷ unnumbered grouping_table (map grouping_row t.groupings)
    ∷ by_rowid session_table (map session_row t.sessions)
    ∷ unnumbered word_table (map word_row t.words)
    ∷ by_rowid blank_table (map blank_row t.blanks)
    ∷ unnumbered remake_table (map remake_row t.remakes)
    ∷ unnumbered reply_table (map reply_row t.replies)
    ∷ unnumbered mark_table (map mark_row t.marks)
    ∷ []

abbrev pub given_rows : Bool → List Row → List Row
given_rows true stored = stored
given_rows false stored = map (drop 1) stored

-- The tree of the table has exactly these rows, in any order, and all rowids are different.
pub record IsFilled (x : Filled) (trees : Trees) : Type 0 where
  pub rows : IsPermutation x.rows (given_rows x.by_rowid (trees x.table.tree))
  pub apart : AreApart (trees x.table.tree)

-- The database has exactly the tables of the current schema, as its catalog lists them, with
-- exactly the rows of `t`.
pub record IsImage (t : Tables) (db : Database) : Type 0 where
  pub ours : db.schema ≡ our_schema
  pub is_database : IsDatabase db
  pub each : AllByRecursion (λ x. IsFilled x db.trees) (filled t)

-- If the old database has the rows of any tables `t`, the new one has the rows of `change t`.
abbrev pub Moves : (Tables → Tables) → Database → Database → Type 0
Moves change old new = (t : Tables) → IsImage t old → IsImage (change t) new
