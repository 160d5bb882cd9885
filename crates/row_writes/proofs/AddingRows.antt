-- The effect of an INSERT on a table whose rowids are chosen by SQLite.
use Rattle.std.proofs.Common.{◌≡◌, ℕ, ◌+◌, ◌/◌, ◌==◌, not, false, true, List, ◌∷◌, ◌++◌, length, map, take, drop, slice_get, Some, Ok, refl, ap, subst, ◌∙◌}
use Rattle.std.proofs.lemmas.List.{map-append}
use Rattle.std.specs.List.{flat_map, list_all}
use Rattle.sqlite.specs.Cast.{cast_row}
use Rattle.sqlite.specs.Command.TheVariants.{Insert}
use Rattle.sqlite.specs.Effect.{value_rows}
use Rattle.sqlite.specs.Order.{Row}
use Rattle.sqlite.specs.Source.TheVariants.{Values}
use Rattle.sqlite.specs.State.{Executes, State}
use Rattle.sqlite.specs.Table.{Table}
use Rattle.sqlite.specs.Term.{Term}
use Rattle.sql_base.specs.Columns.{no_stamps}
use Rattle.sql_base.proofs.Numbering.{unnumbered_row}
use Rattle.sql_base.proofs.Values.{cast_int, cast_null}
use Rattle.sql_tables.specs.Tables.{grouping_table, lot_table, mark_table, our_schema, product_table, record_table, remake_table, reply_table, word_table}
use Rattle.table_rows.specs.Tables.{Tables}
use Rattle.sql_rows.specs.Encoding.{grouping_row, lot_row, mark_row, product_row, record_row, remake_row, reply_row, word_row}
use Rattle.sql_rows.specs.Image.{Filled, Moves, filled, unnumbered}
use Rattle.sql_rows.specs.Many.{with_groupings, with_records}
use Rattle.sql_rows.proofs.Filling.{rows_put}
use Rattle.row_writes.specs.BatchTexts.{row_terms, rows_terms}
use Rattle.row_writes.proofs.Adding.{added}
use Rattle.row_writes.proofs.Many.{all_same, given}
use Rattle.row_writes.proofs.Meanings.{Means}

-- The table, at position `place` of the schema, stores the rows `rows_of t`. Only these change by
-- `with_rows`.
pub record IsUnnumbered {X : Type 0} (encode : X → Row) (rows_of : Tables → List X) (with_rows : List X → Tables → Tables) (place : ℕ) (table : Table) : Type 0 where
  pub listed : slice_get our_schema.tables place ≡ Some table
  pub uncounted : table.is_counted ≡ false
  pub unstamped : table.stamps ≡ no_stamps
  pub left : (t : Tables) → list_all (λ (z : Filled). not (z.table.tree == table.tree)) (take place (filled t)) ≡ true
  pub right : (t : Tables) → list_all (λ (z : Filled). not (z.table.tree == table.tree)) (drop (place + 1) (filled t)) ≡ true
  pub before : (t : Tables) → filled t ≡ take place (filled t) ++ unnumbered table (map encode (rows_of t)) ∷ drop (place + 1) (filled t)
  pub after : (xs : List X) (t : Tables) → filled (with_rows xs t) ≡ take place (filled t) ++ unnumbered table (map encode (xs ++ rows_of t)) ∷ drop (place + 1) (filled t)
  pub ours : (t : Tables) → map (λ (z : Filled). z.table) (take place (filled t) ++ unnumbered table (map encode (rows_of t)) ∷ drop (place + 1) (filled t)) ≡ our_schema.tables
  pub cast : (x : X) → cast_row table (unnumbered_row (encode x)) ≡ unnumbered_row (encode x)

module _ {X : Type 0} {encode : X → Row} {rows_of : Tables → List X} {with_rows : List X → Tables → Tables} {place : ℕ} {table : Table} (is : IsUnnumbered encode rows_of with_rows place table) where
  -- the statement that inserts the rows `xs`
  pub rows_added : (text : List ℕ) (values : Row) (terms : List Term) (width : ℕ) → Means text (Insert place (Values terms width)) → (xs : List X)
      → value_rows values width (length terms / width) terms ≡ map unnumbered_row (map encode xs) → (old new : State) (count : ℕ) → Executes text values old new (Ok count) → Moves (with_rows xs) old.now new.now
  rows_added text values terms width means xs all old new count ran t image =
      let news = map encode xs in
      let rows = map encode (rows_of t) in
      let more = subst (λ rs. filled (with_rows xs t) ≡ take place (filled t) ++ unnumbered table rs ∷ drop (place + 1) (filled t)) (map-append encode xs (rows_of t)) (is.after xs t) in
      added text values place table terms width means is.listed is.uncounted is.unstamped (map unnumbered_row news) all (all_same encode (cast_row table) is.cast xs) old new count ran t (with_rows xs t)
      (unnumbered table rows) (unnumbered table (news ++ rows)) (is.left t) (is.right t) refl (is.before t) more (is.ours t) (rows_put table news rows old new) image

  -- the statement that inserts `count` rows, each value of which is a parameter
  module _ (width : ℕ) (wide : (x : X) → length (encode x) ≡ width)
      (cut : (first : ℕ) (rest : List Term) → (take (1 + width) (row_terms width first ++ rest) ≡ row_terms width first) × (drop (1 + width) (row_terms width first ++ rest) ≡ rest)) where
    pub many_added : (text : List ℕ) (count : ℕ) → ◌≡◌ {A = ℕ} (length (rows_terms width 0 count) / (1 + width)) count → Means text (Insert place (Values (rows_terms width 0 count) (1 + width)))
        → (xs : List X) → length xs ≡ count → (old new : State) (changed : ℕ) → Executes text (flat_map encode xs) old new (Ok changed) → Moves (with_rows xs) old.now new.now
    many_added text count whole means xs many =
        let values = flat_map encode xs in
        rows_added text values (rows_terms width 0 count) (1 + width) means xs
        (ap (λ n. value_rows values (1 + width) n (rows_terms width 0 count)) whole ∙ given encode width wide cut values xs count many refl)

-- ---- the tables

pub products : IsUnnumbered product_row (λ t. t.products) (λ xs t. record t { products = xs ++ t.products }) 1 product_table
products = search (cast_int, cast_null)

pub lots : IsUnnumbered lot_row (λ t. t.lots) (λ xs t. record t { lots = xs ++ t.lots }) 2 lot_table
lots = search (cast_int, cast_null)

pub records : IsUnnumbered record_row (λ t. t.records) with_records 4 record_table
records = search (cast_int, cast_null)

pub groupings : IsUnnumbered grouping_row (λ t. t.groupings) with_groupings 5 grouping_table
groupings = search (cast_int, cast_null)

pub words : IsUnnumbered word_row (λ t. t.words) (λ xs t. record t { words = xs ++ t.words }) 7 word_table
words = search (cast_int, cast_null)

pub remakes : IsUnnumbered remake_row (λ t. t.remakes) (λ xs t. record t { remakes = xs ++ t.remakes }) 9 remake_table
remakes = search (cast_int, cast_null)

pub replies : IsUnnumbered reply_row (λ t. t.replies) (λ xs t. record t { replies = xs ++ t.replies }) 10 reply_table
replies = search (cast_int, cast_null)

pub marks : IsUnnumbered mark_row (λ t. t.marks) (λ xs t. record t { marks = xs ++ t.marks }) 11 mark_table
marks = search (cast_int, cast_null)
