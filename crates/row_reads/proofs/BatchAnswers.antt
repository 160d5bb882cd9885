-- Lemmas about reads of batches and of charged blanks.
use Rattle.std.proofs.Common.{◌≡◌, ℕ, ◌&&◌, ◌==◌, nat_le, int_cmp, inl, inr, Bool, true, false, List, [], ◌∷◌, map, Option, Some, pos, refl, ap, ◌∙◌, subst, arith}
use Rattle.std.proofs.lemmas.Bool.{cases_Bool}
use Rattle.std.proofs.lemmas.Bool.Decides.{nat_tests}
use Rattle.std.specs.Ordering.{is_eq}
use Rattle.std.specs.Prelude.{filter, find, option_map}
use Rattle.std.specs.List.{list_any}
use Rattle.std.specs.List.Sorted.{IsPermutation}
use Rattle.sqlite.specs.declared.types.Value.TheVariants.{Blob, Int, Text}
use Rattle.sqlite.specs.Collation.TheVariants.{Binary}
use Rattle.sqlite.specs.Ops.{binary, from_truth, is_true}
use Rattle.sqlite.specs.Order.{Row}
use Rattle.sqlite.specs.State.{Shown, State}
use Rattle.sqlite.specs.Term.{Term, col}
use Rattle.sqlite_sql.specs.declared.ops.BinaryOp.TheVariants.{Compare}
use Rattle.sqlite_sql.specs.declared.ops.CompareOp.TheVariants.{Eq, Le}
use Rattle.sql_base.proofs.Selecting.{all_pass}
use Rattle.sqlite_value.proofs.OrderLemmas.{value_cmp-Int}
use Rattle.sql_base.proofs.Tests.{alone, same_blob, same_int, same_most, same_text}
use Rattle.sql_rows.specs.Encoding.{batch_row, blank_row}
use Rattle.sql_rows.specs.Image.{IsImage}
use Rattle.sql_rows.proofs.OneImage.{flag_back}
use Rattle.table_rows.specs.Keys.{is_batch, is_batch_for, is_batch_named, is_batch_with, is_blank}
use Rattle.table_rows.specs.Tables.{PassesOnce, StoredBatch, Tables}
use Rattle.row_reads.specs.declared.batches.BatchHead.{BatchHead}
use Rattle.row_reads.specs.declared.batches.BatchAt.{BatchAt}
use Rattle.row_reads.specs.Decoding.{IsFirst, batch_at_in, first_number, has_rows, head_in, id_in, name_in}
use Rattle.row_reads.specs.CardTexts.{limit_one}
use Rattle.row_reads.specs.Extremes.{IsGreatest}
use Rattle.row_reads.specs.NameTexts.{last_batch_text, batches_of_text, by_batch_product, charged_text, batch_has_text, batch_head_text, batch_by_name_text, id_columns, batch_id_text, batch_name_columns, batch_name_text, by_batch_name, by_bytes, by_id, by_id_in_order, head_columns, batch_at_columns}
use Rattle.row_reads.specs.RowValues.{batch_at, head_of}
use Rattle.row_reads.proofs.Answering.{int_key, text_key}
use Rattle.row_reads.proofs.Asking.{Asks, all_found, any_found, asked, one_found, shown_row}
use Rattle.row_reads.proofs.Sorting.{asked_sorted, first_of_one, greatest_found}
use Rattle.row_reads.proofs.NameMeanings.{last_batch_asks, batches_of_asks, charged_asks, batch_has_asks, batch_head_asks, batch_id_asks, batch_name_asks, batch_by_name_asks}

-- the rows with the name `name`
named : (text : List ℕ) (project : List Term) → Asks text 5 by_batch_name project → (name : List ℕ) (old new : State) (rows : List Row) → Shown text (Text name ∷ []) old new rows
    → (t : Tables) → IsImage t old.now → IsPermutation (map (λ b. shown_row true project (Text name ∷ []) (batch_row b)) (filter (is_batch_named name) t.batches)) rows
named text project asks name old new rows h t image =
    asked true batch_row by_batch_name project (Text name ∷ []) (is_batch_named name) refl (λ v r. refl) (λ b. text_key name b.name) text 5 asks old new rows h image.ours t.batches image.each.1.1.1.0.rows

pub batch_id_found : (name : List ℕ) (old new : State) (rows : List Row) → Shown batch_id_text (Text name ∷ []) old new rows → (t : Tables) → IsImage t old.now
    → (found : Option ℕ) → IsFirst (map id_in rows) found → PassesOnce (is_batch_named name) t.batches → found ≡ option_map (λ (b : StoredBatch). b.id) (find (is_batch_named name) t.batches)
batch_id_found name old new rows h t image found first once =
    one_found (is_batch_named name) (λ b. shown_row true id_columns (Text name ∷ []) (batch_row b)) t.batches rows (named batch_id_text id_columns batch_id_asks name old new rows h t image)
    id_in (λ b. b.id) once (λ b is. refl) found first

head_back : (params : Row) (b : StoredBatch) → head_in (shown_row true head_columns params (batch_row b)) ≡ head_of b
head_back params b = rw (flag_back b.closed) refl

pub batch_head_found : (name : List ℕ) (old new : State) (rows : List Row) → Shown batch_head_text (Text name ∷ []) old new rows → (t : Tables) → IsImage t old.now
    → (found : Option BatchHead) → IsFirst (map head_in rows) found → PassesOnce (is_batch_named name) t.batches → found ≡ option_map head_of (find (is_batch_named name) t.batches)
batch_head_found name old new rows h t image found first once =
    one_found (is_batch_named name) (λ b. shown_row true head_columns (Text name ∷ []) (batch_row b)) t.batches rows (named batch_head_text head_columns batch_head_asks name old new rows h t image)
    head_in head_of once (λ b is. head_back (Text name ∷ []) b) found first

batch_at_back : (params : Row) (b : StoredBatch) → batch_at_in (shown_row true batch_at_columns params (batch_row b)) ≡ batch_at b
batch_at_back params b = rw (flag_back b.closed) refl

pub batch_by_name_found : (name : List ℕ) (old new : State) (rows : List Row) → Shown batch_by_name_text (Text name ∷ []) old new rows → (t : Tables) → IsImage t old.now
    → (found : Option BatchAt) → IsFirst (map batch_at_in rows) found → PassesOnce (is_batch_named name) t.batches → found ≡ option_map batch_at (find (is_batch_named name) t.batches)
batch_by_name_found name old new rows h t image found first once =
    one_found (is_batch_named name) (λ b. shown_row true batch_at_columns (Text name ∷ []) (batch_row b)) t.batches rows (named batch_by_name_text batch_at_columns batch_by_name_asks name old new rows h t image)
    batch_at_in batch_at once (λ b is. batch_at_back (Text name ∷ []) b) found first

same_number : (m n : ℕ) → is_eq (int_cmp (pos m) (pos n)) ≡ (m == n)
same_number m n = grind (arith, nat_tests)

equal_tested : (m n : ℕ) → binary (Compare Eq Binary) (Int (pos m)) (Int (pos n)) ≡ from_truth (Some (m == n))
unfolding binary
equal_tested m n = ap (λ is. from_truth (Some is)) (ap is_eq (value_cmp-Int (pos m) (pos n)) ∙ same_number m n)

truth_tested : (is : Bool) → is_true (binary (Compare Eq Binary) (from_truth (Some is)) (Int (pos 1))) ≡ is
truth_tested true = same_int 1 1
truth_tested false = same_int 0 1

least_or_equal : (m n : ℕ) → (nat_le m n && (n == m)) ≡ (n == m)
least_or_equal m n = elim (cases_Bool (nat_le m n)) [
  | inl low ↦ rw low refl
  | inr past ↦ rw past (grind (arith, nat_tests))
]

id_key : (key n : ℕ)
    → (is_true (binary (Compare Le Binary) (Int (pos key)) (Int (pos n))) && (is_true (binary (Compare Eq Binary) (binary (Compare Eq Binary) (Int (pos n)) (Int (pos key))) (Int (pos 1))) && true)) ≡ (n == key)
id_key key n = rw (same_most key n, equal_tested n key, truth_tested (n == key), alone (n == key)) (least_or_equal key n)

pub batch_name_found : (id : ℕ) (old new : State) (rows : List Row) → Shown batch_name_text (Int (pos id) ∷ []) old new rows → (t : Tables) → IsImage t old.now
    → (found : Option (List ℕ)) → IsFirst (map name_in rows) found → PassesOnce (is_batch id) t.batches → found ≡ option_map (λ (b : StoredBatch). b.name) (find (is_batch id) t.batches)
batch_name_found id old new rows h t image found first once =
    let params = Int (pos id) ∷ [] in
    let view : StoredBatch → Row = λ b. shown_row true (col 1 0 ∷ batch_name_columns) params (batch_row b) in
    let it = asked_sorted true batch_row by_id_in_order (col 1 0) batch_name_columns params (is_batch id) refl (λ v r. refl) (λ b. id_key id b.id) false limit_one batch_name_text 5 batch_name_asks old new rows h image.ours t.batches
    image.each.1.1.1.0.rows in
    one_found (is_batch id) view t.batches it.0 it.1 name_in (λ b. b.name) once (λ b is. refl) found
    (first_of_one name_in it.0 found (subst (λ rs. IsFirst (map name_in rs) found) it.3 first))

bytes_key : (name raw : List ℕ) (b : StoredBatch)
    → (is_true (binary (Compare Eq Binary) (Text b.name) (Text name)) && (is_true (binary (Compare Eq Binary) (Blob b.raw) (Blob raw)) && true)) ≡ is_batch_with name raw b
bytes_key name raw b = rw (same_text b.name name, alone (is_true (binary (Compare Eq Binary) (Blob b.raw) (Blob raw))), same_blob b.raw raw) refl

pub batch_has_found : (name raw : List ℕ) (old new : State) (rows : List Row) → Shown batch_has_text (Text name ∷ Blob raw ∷ []) old new rows → (t : Tables) → IsImage t old.now
    → has_rows rows ≡ list_any (is_batch_with name raw) t.batches
batch_has_found name raw old new rows h t image =
    let params = Text name ∷ Blob raw ∷ [] in
    any_found (is_batch_with name raw) (λ b. shown_row true id_columns params (batch_row b)) t.batches rows
    (asked true batch_row by_bytes id_columns params (is_batch_with name raw) refl (λ v r. refl) (bytes_key name raw) batch_has_text 5 batch_has_asks old new rows h image.ours t.batches
    image.each.1.1.1.0.rows)

pub batches_of_found : (product : List ℕ) (old new : State) (rows : List Row) → Shown batches_of_text (Text product ∷ []) old new rows → (t : Tables) → IsImage t old.now
    → IsPermutation (map head_of (filter (is_batch_for product) t.batches)) (map head_in rows)
batches_of_found product old new rows h t image =
    let params = Text product ∷ [] in
    all_found (is_batch_for product) (λ b. shown_row true head_columns params (batch_row b)) t.batches rows
    (asked true batch_row by_batch_product head_columns params (is_batch_for product) refl (λ v r. refl) (λ b. text_key product b.product) batches_of_text 5 batches_of_asks old new rows h image.ours t.batches
    image.each.1.1.1.0.rows)
    head_in head_of (head_back params)

pub is_charged_found : (serial : ℕ) (old new : State) (rows : List Row) → Shown charged_text (Int (pos serial) ∷ []) old new rows → (t : Tables) → IsImage t old.now
    → has_rows rows ≡ list_any (is_blank serial) t.blanks
is_charged_found serial old new rows h t image =
    let params = Int (pos serial) ∷ [] in
    any_found (is_blank serial) (λ b. shown_row true id_columns params (blank_row b)) t.blanks rows
    (asked true blank_row by_id id_columns params (is_blank serial) refl (λ v r. refl) (λ b. int_key serial b.serial) charged_text 16 charged_asks old new rows h image.ours t.blanks
    image.each.1.1.1.1.1.1.1.1.0.rows)

pub last_batch_found : (old new : State) (rows : List Row) → Shown last_batch_text [] old new rows → (t : Tables) → IsImage t old.now
    → IsGreatest (map (λ (b : StoredBatch). b.id) t.batches) (first_number rows)
last_batch_found old new rows h t image =
    let view : StoredBatch → Row = λ b. shown_row true (col 1 0 ∷ []) [] (batch_row b) in
    let it = asked_sorted true batch_row [] (col 1 0) [] [] (λ _. true) refl (λ v r. refl) (λ b. refl) true limit_one last_batch_text 5 last_batch_asks old new rows h image.ours t.batches
    image.each.1.1.1.0.rows in
    greatest_found view (λ b. refl) t.batches it.0 (subst (λ xs. IsPermutation (map view xs) it.0) (all_pass t.batches) it.1) it.2 (λ (b : StoredBatch). b.id) (λ b. refl) rows it.3
