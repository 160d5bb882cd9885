-- No two batches of an image have the same id.
use Rattle.std.proofs.Common.{◌≡◌, ◌==◌, ℕ, pos, false, List, [], ◌∷◌, map, int_cmp, sym, ap, ◌∙◌, arith}
use Rattle.std.proofs.lemmas.Bool.Decides.{nat_tests}
use Rattle.std.specs.List.{AllByRecursion}
use Rattle.std.specs.Ordering.{is_eq}
use Rattle.std.proofs.lemmas.List.Sorted.{IsPermutation-sym}
use Rattle.sqlite.specs.declared.types.Value.TheVariants.{Int}
use Rattle.sqlite.specs.Tree.{Trees}
use Rattle.sqlite_value.specs.Order.{value_cmp}
use Rattle.sqlite_value.proofs.OrderLemmas.{value_cmp-Int}
use Rattle.sql_base.specs.Rowids.{Apart}
use Rattle.sql_base.proofs.Changing.{apart_permuted}
use Rattle.sql_tables.specs.Tables.{batch_table}
use Rattle.table_rows.specs.Tables.{StoredBatch}
use Rattle.sql_rows.specs.Encoding.{batch_row}
use Rattle.sql_rows.specs.Image.{IsFilled, by_rowid}

same_number : (m n : ℕ) → is_eq (int_cmp (pos m) (pos n)) ≡ (n == m)
same_number m n = grind (arith, nat_tests)

differs : (m n : ℕ) → is_eq (value_cmp (Int (pos m)) (Int (pos n))) ≡ false → (n == m) ≡ false
differs m n apart = sym (same_number m n) ∙ ap is_eq (sym (value_cmp-Int (pos m) (pos n))) ∙ apart

differ : (b : StoredBatch) (bs : List StoredBatch) → AllByRecursion (Apart (batch_row b)) (map batch_row bs) → AllByRecursion (λ (x : StoredBatch). (x.id == b.id) ≡ false) bs
differ b [] apart = tt
differ b (x ∷ bs) apart = (differs b.id x.id apart.0, differ b bs apart.1)

-- All batches after the first have other ids.
pub others_differ : (b : StoredBatch) (bs : List StoredBatch) (trees : Trees) → IsFilled (by_rowid batch_table (map batch_row (b ∷ bs))) trees
    → AllByRecursion (λ (x : StoredBatch). (x.id == b.id) ≡ false) bs
others_differ b bs trees is = differ b bs ((apart_permuted _ _ (IsPermutation-sym _ _ is.rows) is.apart).apart.0)
