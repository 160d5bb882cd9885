-- Batches that are inserted without their bytes, which are set at the end.
use Rattle.std.proofs.Common.{◌≡◌, ◌==◌, ℕ, false, List, [], ◌∷◌, ◌++◌, map, refl, ap, subst, ◌∙◌, arith}
use Rattle.std.proofs.lemmas.Bool.Decides.{nat_tests}
use Rattle.std.proofs.lemmas.List.Sorted.{IsPermutation-refl, IsPermutation-sym}
use Rattle.std.specs.List.{AllByRecursion, fold}
use Rattle.sqlite.specs.Effect.{Database}
use Rattle.sqlite.specs.Tree.{IsAscending}
use Rattle.sql_base.specs.Rowids.{AreApart}
use Rattle.sql_base.proofs.Changing.{apart_permuted}
use Rattle.sql_rows.specs.Encoding.{batch_row}
use Rattle.sql_rows.specs.Image.{IsImage, Moves}
use Rattle.sql_rows.proofs.OneId.{others_differ}
use Rattle.table_rows.specs.Tables.{StoredBatch, Tables}
use Rattle.row_writes.specs.Raw.{raw_set}
use Rattle.row_writes.proofs.RawLemmas.{itself, stay}
use Rattle.remaking.specs.Rows.{bare, with_all, with_bytes, with_each, without_bytes}

abbrev Differ : StoredBatch → StoredBatch → Type 0
Differ a b = (b.id == a.id) ≡ false

other_way : (m n : ℕ) → (m == n) ≡ false → (n == m) ≡ false
other_way m n other = grind (arith, nat_tests)

-- Batches with different rowids have different ids.
ids_differ : (bs : List StoredBatch) → AreApart (map batch_row bs) → IsAscending Differ bs
ids_differ [] apart = tt
ids_differ (b ∷ bs) apart = (
  others_differ b bs (λ _. map batch_row (b ∷ bs)) (record { rows = IsPermutation-refl _; apart = apart }),
  ids_differ bs (record { apart = apart.apart.1; ints = apart.ints.1 }),
)

bare_differ : (b : StoredBatch) (bs ts : List StoredBatch) → AllByRecursion (Differ b) (map bare bs ++ ts) → AllByRecursion (Differ b) bs
bare_differ b [] ts differ = tt
bare_differ b (c ∷ bs) ts differ = (differ.0, bare_differ b bs ts differ.1)

-- the batches `xs`, after each batch with the id of one of `bs` gets its bytes
abbrev given : List StoredBatch → List StoredBatch → List StoredBatch
given bs xs = fold (λ ys b. map (raw_set b.id b.raw) ys) xs bs

given_in : (bs : List StoredBatch) (t : Tables) → with_each with_bytes bs t ≡ record t { batches = given bs t.batches }
given_in [] t = refl
given_in (b ∷ bs) t = given_in bs (with_bytes b t)

given_first : (b : StoredBatch) (xs : List StoredBatch) → AllByRecursion (Differ b) xs → map (raw_set b.id b.raw) (bare b ∷ xs) ≡ b ∷ xs
given_first b xs differ = rw (itself b.id, stay b.id b.raw xs differ) refl

-- A batch that has its bytes keeps them.
kept_first : (b : StoredBatch) (bs xs : List StoredBatch) → AllByRecursion (Differ b) bs → given bs (b ∷ xs) ≡ b ∷ given bs xs
kept_first b [] xs differ = refl
kept_first b (c ∷ bs) xs differ =
    let stays : raw_set c.id c.raw b ≡ b = rw (other_way c.id b.id differ.0) refl in
    ap (λ y. given bs (y ∷ map (raw_set c.id c.raw) xs)) stays ∙ kept_first b bs (map (raw_set c.id c.raw) xs) differ.1

all_given : (bs ts : List StoredBatch) → IsAscending Differ (map bare bs ++ ts) → given bs (map bare bs ++ ts) ≡ bs ++ ts
all_given [] ts differ = refl
all_given (b ∷ bs) ts differ =
    let rest = map bare bs ++ ts in
    ap (given bs) (given_first b rest differ.0) ∙ kept_first b bs rest (bare_differ b bs ts differ.0) ∙ ap (λ ys. b ∷ ys) (all_given bs ts differ.1)

-- The result is the same as if the batches had been inserted with their bytes.
pub bytes_last : (rows : Tables) (a b c : Database) → Moves (with_all (without_bytes rows)) a b → Moves (with_each with_bytes rows.batches) b c → Moves (with_all rows) a c
bytes_last rows a b c first then t image =
    let put = with_all (without_bytes rows) t in
    let held = first t image in
    let filled = held.each.1.1.1.0 in
    let differ = ids_differ put.batches (apart_permuted _ _ (IsPermutation-sym _ _ filled.rows) filled.apart) in
    subst (λ bs. IsImage (record put { batches = bs }) c) (all_given rows.batches t.batches differ) (subst (λ u. IsImage u c) (given_in rows.batches put) (then put held))
