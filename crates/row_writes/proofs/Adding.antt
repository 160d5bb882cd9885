-- The effect of an INSERT on the rows of each table.
use Rattle.std.proofs.Common.{◌≡◌, ℕ, ◌+◌, ◌/◌, ◌==◌, not, false, true, List, ◌∷◌, ◌++◌, length, map, take, drop, slice_get, Some, Ok}
use Rattle.std.specs.List.{list_all}
use Rattle.sqlite.specs.Cast.{cast_row}
use Rattle.sqlite.specs.Command.TheVariants.{Insert}
use Rattle.sqlite.specs.Effect.{value_rows}
use Rattle.sqlite.specs.Order.{Row}
use Rattle.sqlite.specs.Source.TheVariants.{Values}
use Rattle.sqlite.specs.State.{Executes, State}
use Rattle.sqlite.specs.Table.{Table}
use Rattle.sqlite.specs.Term.{Term}
use Rattle.sql_base.specs.Columns.{no_stamps}
use Rattle.sql_base.specs.Effects.{Inserted}
use Rattle.sql_base.proofs.Inserting.{inserted}
use Rattle.sql_tables.specs.Tables.{our_schema}
use Rattle.sql_tables.proofs.VersionRow.{none_acts}
use Rattle.table_rows.specs.Tables.{Tables}
use Rattle.sql_rows.specs.Image.{Filled, IsFilled, IsImage, filled}
use Rattle.sql_rows.proofs.Filling.{refilled}
use Rattle.row_writes.proofs.Meanings.{Means, read_as}

module _ (text : List ℕ) (values : Row) (at : ℕ) (table : Table) (terms : List Term) (width : ℕ) (means : Means text (Insert at (Values terms width)))
    (listed : slice_get our_schema.tables at ≡ Some table) (uncounted : table.is_counted ≡ false) (unstamped : table.stamps ≡ no_stamps)
    (rows : List Row) (all : value_rows values width (length terms / width) terms ≡ rows) (cast : map (cast_row table) rows ≡ rows)
    (old new : State) (count : ℕ) (ran : Executes text values old new (Ok count)) (t u : Tables) (x y : Filled)
    (left : list_all (λ (z : Filled). not (z.table.tree == table.tree)) (take at (filled t)) ≡ true)
    (right : list_all (λ (z : Filled). not (z.table.tree == table.tree)) (drop (at + 1) (filled t)) ≡ true) where
  -- the table with the rows after the INSERT
  pub added : x.table ≡ table → filled t ≡ take at (filled t) ++ x ∷ drop (at + 1) (filled t) → filled u ≡ take at (filled t) ++ y ∷ drop (at + 1) (filled t)
      → map (λ (z : Filled). z.table) (take at (filled t) ++ x ∷ drop (at + 1) (filled t)) ≡ our_schema.tables
      → (Inserted our_schema table rows old new → IsFilled x old.now.trees → IsFilled y new.now.trees) → IsImage t old.now → IsImage u new.now
  added is_table is_t is_u are_ours put image =
      let meant = read_as text (Insert at (Values terms width)) means in
      let it = inserted text values old new our_schema image.ours at table terms width meant.0 meant.1 listed uncounted unstamped rows rows all cast (none_acts table.tree) count ran in
      refilled (take at (filled t)) (drop (at + 1) (filled t)) table left right t u old new x y is_table is_t is_u are_ours it.kept it.is_database it.others (put it) image
