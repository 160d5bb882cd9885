-- Lemmas about reads of products and release marks.
use Rattle.std.proofs.Common.{◌≡◌, ◌==◌, ℕ, pos, ◌&&◌, Bool, true, false, List, [], ◌∷◌, map, Option, Some, None, refl, ap, ◌∙◌}
use Rattle.std.specs.Prelude.{bytes_eq, find, option_map, unwrap_or}
use Rattle.std.specs.Option.{option_to_list}
use Rattle.sqlite.specs.declared.types.Value.TheVariants.{Int, Text}
use Rattle.sqlite.specs.Collation.TheVariants.{Binary}
use Rattle.sqlite.specs.Ops.{binary, is_true}
use Rattle.sqlite.specs.Order.{Row}
use Rattle.sqlite.specs.State.{Shown, State}
use Rattle.sqlite_sql.specs.declared.ops.BinaryOp.TheVariants.{Compare}
use Rattle.sqlite_sql.specs.declared.ops.CompareOp.TheVariants.{Eq}
use Rattle.store_data.specs.declared.row.Product.{Product}
use Rattle.job_facts.specs.Contents.{Mark, has_mark, mark_of}
use Rattle.job_facts.specs.Sound.{AreNamedOnce}
use Rattle.job_facts.specs.States.{product_named}
use Rattle.step_laws.proofs.BlankSums.{named_once}
use Rattle.sql_base.proofs.Tests.{alone, same_int, same_text}
use Rattle.table_rows.specs.Tables.{Tables}
use Rattle.sql_rows.specs.Encoding.{mark_row, product_row}
use Rattle.sql_rows.specs.Image.{IsImage}
use Rattle.sql_rows.proofs.OneImage.{flag_back}
use Rattle.row_reads.specs.Decoding.{IsFirst, first_number, product_in}
use Rattle.row_reads.specs.Texts.{by_first_column, mark_columns, mark_text, product_columns, product_text}
use Rattle.row_reads.proofs.Asking.{asked, one_found, shown_row}
use Rattle.row_reads.proofs.Looking.{one_answered}
use Rattle.row_reads.proofs.Meanings.{mark_asks, product_asks}

-- the only condition: a text is equal to the parameter
pub text_key : (key name : List ℕ) → (is_true (binary (Compare Eq Binary) (Text name) (Text key)) && true) ≡ bytes_eq name key
text_key key name = alone (is_true (binary (Compare Eq Binary) (Text name) (Text key))) ∙ same_text name key

-- the only condition: a number is equal to the parameter
pub int_key : (key n : ℕ) → (is_true (binary (Compare Eq Binary) (Int (pos n)) (Int (pos key))) && true) ≡ (n == key)
int_key key n = alone (is_true (binary (Compare Eq Binary) (Int (pos n)) (Int (pos key)))) ∙ same_int n key

option_same : {X : Type 0} (o : Option X) → option_map (λ x. x) o ≡ o
option_same None = refl
option_same (Some x) = refl

-- ---- products

product_back : (params : Row) (p : Product) → product_in (shown_row false product_columns params (product_row p)) ≡ p
product_back params p = rw (flag_back p.check) refl

pub product_found : (key : List ℕ) (old new : State) (rows : List Row) → Shown product_text (Text key ∷ []) old new rows → (t : Tables) → IsImage t old.now
    → (found : Option Product) → IsFirst (map product_in rows) found → AreNamedOnce (map (λ (p : Product). p.code) t.products) → found ≡ product_named t.products key
product_found key old new rows h t image found first once =
    let params = Text key ∷ [] in
    let has : Product → Bool = λ p. bytes_eq p.code key in
    one_found has (λ p. shown_row false product_columns params (product_row p)) t.products rows
    (asked false product_row by_first_column product_columns params has refl (λ v r. refl) (λ p. text_key key p.code) product_text 1 product_asks old new rows h image.ours t.products image.each.1.0.rows)
    product_in (λ p. p) (named_once (λ (p : Product). p.code) t.products key once) (λ p is. product_back params p) found first
    ∙ option_same (product_named t.products key)

-- ---- marks

pub mark_found : (key : List ℕ) (old new : State) (rows : List Row) → Shown mark_text (Text key ∷ []) old new rows → (t : Tables) → IsImage t old.now
    → AreNamedOnce (map (λ (m : Mark). m.client) t.marks) → first_number rows ≡ mark_of t.marks key
mark_found key old new rows h t image once =
    let params = Text key ∷ [] in
    let view : Mark → Row = λ m. shown_row false mark_columns params (mark_row m) in
    ap first_number (one_answered (has_mark key) view t.marks rows (named_once (λ (m : Mark). m.client) t.marks key once)
    (asked false mark_row by_first_column mark_columns params (has_mark key) refl (λ v r. refl) (λ m. text_key key m.client) mark_text 21 mark_asks old new rows h image.ours t.marks
    image.each.1.1.1.1.1.1.1.1.1.1.1.0.rows))
    ∙ from (find (has_mark key) t.marks)
  where
    from : (o : Option Mark) → first_number (map (λ (m : Mark). shown_row false mark_columns (Text key ∷ []) (mark_row m)) (option_to_list o)) ≡ unwrap_or (option_map (λ (m : Mark). m.upto) o) 0
    from None = refl
    from (Some m) = refl
