-- The only row of `version`, as a query returns it and as it is stored.
use Rattle.std.proofs.Common.{◌≡◌, ◌↔◌, ◌<◌, IsTrue, Bool, ℕ, zero, suc, true, List, [], ◌∷◌, map, length, All, slice_index_or, refl, sym, ap, ap₂, subst, ◌∙◌, arith}
use Rattle.std.specs.List.Sorted.{IsPermutation}
use Rattle.std.proofs.lemmas.List.Sorted.{All-permutation, IsPermutation-sym, IsPermutation-trans, length_permutation}
use Rattle.sqlite.specs.Order.{Row, column}
use Rattle.sql_rows.specs.Encoding.{number}
use Rattle.table_reads.specs.Version.{IsVersionAlone, IsVersionRow, numbered_row}
use Rattle.table_reads.specs.Whole.{as_stored}
use Rattle.table_reads.specs.Encoded.{taken, without_null}
use Rattle.table_reads.proofs.Shapes.{rebuilt}

stored : (version : ℕ) (row : Row) → IsVersionRow version row → as_stored true row ≡ numbered_row version
unfolding IsVersionRow
stored version row is = ap (as_stored true) (rebuilt 2 row is.0 ∙ ap₂ (λ a b. a ∷ b ∷ []) is.1 is.2)

shown : (version : ℕ) (row : Row) → as_stored true row ≡ numbered_row version → IsVersionRow version row
unfolding IsVersionRow
shown version row e = subst (λ r. (length r ≡ 2) × (column r 0 ≡ number 1) × (column r 1 ≡ number version)) (sym (taken row ∙ ap without_null e)) (refl, refl, refl)

single : (version : ℕ) (rows : List Row) → IsPermutation (numbered_row version ∷ []) (map (as_stored true) rows) → IsVersionAlone version rows
single version [] same = absurd (let e = length_permutation _ _ same in cc)
single version (row ∷ []) same =
    let v = numbered_row version in
    let itself : All (λ x. x ≡ v) (v ∷ []) = at in
    shown version row (All-permutation (λ x. x ≡ v) _ _ same itself 0 v (omega arith))
  where
    at : (k : ℕ) (d : Row) → k < 1 → slice_index_or (numbered_row version ∷ []) k d ≡ numbered_row version
    at zero d low = refl
    at (suc k) d low = absurd (omega arith)
single version (row ∷ other ∷ rows) same = absurd (let e = length_permutation _ _ same in omega arith)

alone : (version : ℕ) (rows : List Row) → IsVersionAlone version rows → map (as_stored true) rows ≡ numbered_row version ∷ []
alone version [] is = absurd is
alone version (row ∷ []) is = ap (λ r. r ∷ []) (stored version row is)
alone version (row ∷ other ∷ rows) is = absurd is

pub says : (version : ℕ) (rows all : List Row) → IsPermutation (map (as_stored true) rows) all → (result : Bool) → IsTrue result ↔ IsVersionAlone version rows
    → IsTrue result ↔ IsPermutation (numbered_row version ∷ []) all
says version rows all same result is = (
  (λ h. subst (λ rs. IsPermutation rs all) (alone version rows (is.0 h)) same),
  (λ p. is.1 (single version rows (IsPermutation-trans _ all _ p (IsPermutation-sym _ _ same)))),
)
