-- Lemmas about reads of lots, and about the numbers of lots and products.
use Rattle.std.proofs.Common.{◌≡◌, ℕ, ◌&&◌, nat_le, pos, Bool, true, false, List, [], ◌∷◌, length, map, Option, refl, sym, subst, ap, ◌∙◌}
use Rattle.std.specs.Prelude.{filter, find, option_map}
use Rattle.std.specs.List.Sorted.{IsPermutation}
use Rattle.sqlite.specs.Collation.TheVariants.{Binary}
use Rattle.sqlite.specs.declared.types.Value.TheVariants.{Int, Text}
use Rattle.sqlite.specs.Ops.{binary, is_true}
use Rattle.sqlite.specs.Order.{Row}
use Rattle.sqlite.specs.State.{Shown, State}
use Rattle.sqlite.specs.Term.{col}
use Rattle.sqlite_keyed.proofs.ListLemmas.{filter-map}
use Rattle.sqlite_sql.specs.declared.ops.BinaryOp.TheVariants.{Compare}
use Rattle.sqlite_sql.specs.declared.ops.CompareOp.TheVariants.{Le}
use Rattle.job_facts.specs.declared.facts.Lot.{Lot}
use Rattle.sql_base.proofs.Selecting.{all_pass}
use Rattle.sql_base.proofs.Tests.{alone, same_most}
use Rattle.sql_rows.specs.Encoding.{lot_row, product_row}
use Rattle.sql_rows.specs.Image.{IsImage}
use Rattle.table_rows.specs.Keys.{is_lot_for, is_lot_named}
use Rattle.table_rows.specs.Tables.{PassesOnce, StoredLot, Tables}
use Rattle.row_reads.specs.declared.lots.LotRow.{LotRow}
use Rattle.row_reads.specs.Decoding.{IsFirst, lot_in, lot_row_in}
use Rattle.row_reads.specs.CardTexts.{limit_one}
use Rattle.row_reads.specs.Extremes.{IsGreatestBy, IsLastBegun, begins_by}
use Rattle.row_reads.specs.NameTexts.{by_low_serial, last_lot_text, more_lot_columns, first_column, lot_names_text, products_text, by_second_column, lot_columns, lot_row_columns, lot_text, lots_of_text, lots_text}
use Rattle.row_reads.specs.RowValues.{lot_row_of}
use Rattle.row_reads.specs.Texts.{by_first_column}
use Rattle.row_reads.proofs.Answering.{text_key}
use Rattle.row_reads.proofs.Asking.{all_found, asked, count_found, one_found, shown_row}
use Rattle.row_reads.proofs.Sorting.{asked_sorted, last_found}
use Rattle.row_reads.proofs.NameMeanings.{last_lot_asks, lot_names_asks, products_asks, lot_asks, lots_asks, lots_of_asks}

pub lot_found : (name : List ℕ) (old new : State) (rows : List Row) → Shown lot_text (Text name ∷ []) old new rows → (t : Tables) → IsImage t old.now
    → (found : Option LotRow) → IsFirst (map lot_row_in rows) found → PassesOnce (is_lot_named name) t.lots → found ≡ option_map lot_row_of (find (is_lot_named name) t.lots)
lot_found name old new rows h t image found first once =
    let params = Text name ∷ [] in
    one_found (is_lot_named name) (λ l. shown_row false lot_row_columns params (lot_row l)) t.lots rows
    (asked false lot_row by_first_column lot_row_columns params (is_lot_named name) refl (λ v r. refl) (λ l. text_key name l.lot.name) lot_text 3 lot_asks old new rows h image.ours t.lots
    image.each.1.1.0.rows)
    lot_row_in lot_row_of once (λ l is. refl) found first

begins_key : (n first : ℕ) → (is_true (binary (Compare Le Binary) (Int (pos first)) (Int (pos n))) && true) ≡ nat_le first n
begins_key n first = alone (is_true (binary (Compare Le Binary) (Int (pos first)) (Int (pos n)))) ∙ same_most first n

pub lots_of_found : (product : List ℕ) (old new : State) (rows : List Row) → Shown lots_of_text (Text product ∷ []) old new rows → (t : Tables) → IsImage t old.now
    → IsPermutation (map lot_row_of (filter (is_lot_for product) t.lots)) (map lot_row_in rows)
lots_of_found product old new rows h t image =
    let params = Text product ∷ [] in
    all_found (is_lot_for product) (λ l. shown_row false lot_row_columns params (lot_row l)) t.lots rows
    (asked false lot_row by_second_column lot_row_columns params (is_lot_for product) refl (λ v r. refl) (λ l. text_key product l.lot.product) lots_of_text 3 lots_of_asks old new rows h image.ours t.lots
    image.each.1.1.0.rows)
    lot_row_in lot_row_of (λ l. refl)

pub lots_found : (old new : State) (rows : List Row) → Shown lots_text [] old new rows → (t : Tables) → IsImage t old.now
    → IsPermutation (map (λ (l : StoredLot). l.lot) t.lots) (map lot_in rows)
lots_found old new rows h t image =
    subst (λ ls. IsPermutation (map (λ (l : StoredLot). l.lot) ls) (map lot_in rows)) (all_pass t.lots)
    (all_found (λ _. true) (λ l. shown_row false lot_columns [] (lot_row l)) t.lots rows
    (asked false lot_row [] lot_columns [] (λ _. true) refl (λ v r. refl) (λ l. refl) lots_text 3 lots_asks old new rows h image.ours t.lots image.each.1.1.0.rows)
    lot_in (λ l. l.lot) (λ l. refl))

pub product_count_found : (old new : State) (rows : List Row) → Shown products_text [] old new rows → (t : Tables) → IsImage t old.now → length rows ≡ length t.products
product_count_found old new rows h t image =
    count_found (λ _. true) (λ p. shown_row false first_column [] (product_row p)) t.products rows
    (asked false product_row [] first_column [] (λ _. true) refl (λ v r. refl) (λ p. refl) products_text 1 products_asks old new rows h image.ours t.products image.each.1.0.rows)
    ∙ ap length (all_pass t.products)

pub lot_count_found : (old new : State) (rows : List Row) → Shown lot_names_text [] old new rows → (t : Tables) → IsImage t old.now → length rows ≡ length t.lots
lot_count_found old new rows h t image =
    count_found (λ _. true) (λ l. shown_row false first_column [] (lot_row l)) t.lots rows
    (asked false lot_row [] first_column [] (λ _. true) refl (λ v r. refl) (λ l. refl) lot_names_text 3 lot_names_asks old new rows h image.ours t.lots image.each.1.1.0.rows)
    ∙ ap length (all_pass t.lots)

pub last_lot_found : (blank : ℕ) (old new : State) (rows : List Row) → Shown last_lot_text (Int (pos blank) ∷ []) old new rows → (t : Tables) → IsImage t old.now
    → (found : Option Lot) → IsFirst (map lot_in rows) found → IsLastBegun blank (map (λ (l : StoredLot). l.lot) t.lots) found
last_lot_found blank old new rows h t image found first =
    let params = Int (pos blank) ∷ [] in
    let key : StoredLot → Bool = λ l. begins_by blank l.lot in
    let view : StoredLot → Row = λ l. shown_row false lot_columns params (lot_row l) in
    let it = asked_sorted false lot_row by_low_serial (col 1 3) more_lot_columns params key refl (λ v r. refl) (λ l. begins_key blank l.lot.first) true limit_one last_lot_text 3 last_lot_asks old new rows h image.ours t.lots
    image.each.1.1.0.rows in
    subst (λ ls. IsGreatestBy (λ (l : Lot). l.first) ls found) (sym (filter-map (begins_by blank) (λ (l : StoredLot). l.lot) t.lots))
    (last_found key view t.lots it.0 it.1 it.2 (λ l. refl) lot_in (λ l. l.lot) (λ l. refl) (λ (l : Lot). l.first) (λ r. refl) rows it.3 found first)
