-- A list has no two equal items if and only if the set of its items is as large as the list. Items
-- are also compared by what a function reads of them.
use Rattle.std.proofs.Common.{Ordering, ◌≡◌, ℕ, Bool, true, false, Bor, List, Result, length, map, sym, ◌∙◌, subst, arith}
use Rattle.std.specs.Prelude.{◌==◌, AllPairs, IfOk}
use Rattle.std.specs.Cmp.{IsTotalOrder}
use Rattle.std.specs.Ordering.{eq_by_cmp}
use Rattle.std.specs.Set.{distinct_count}
use Rattle.std.proofs.lemmas.Bool.Decides.{nat_tests}
use Rattle.std.proofs.lemmas.Cmp.{eq_by_cmp_equiv}
use Rattle.std.proofs.lemmas.Map.Keys.{apart_from_distinct, IsDistinct-from_apart}
use Rattle.std.proofs.lemmas.Map.Made.{IsDistinct-from_count, distinct_count-from_IsDistinct}
use Rattle.row_laws.proofs.Finding.{AllPairs-from_map, AllPairs-map}
use Rattle.audit_order.proofs.Tested.{test_as}

abbrev pub name_in : Bor (List ℕ) → List ℕ
name_in name = name.now

module _ {K : Type 0} {R : K → K → Ordering} (order : IsTotalOrder R) (eq : K → K → Bool) (tied : (x y : K) → eq x y ≡ eq_by_cmp R x y) (xs : List K) where
  abbrev test : K → K → Bool
  test = eq_by_cmp R

  turned : (x y : K) → test x y ≡ eq y x
  turned x y = (eq_by_cmp_equiv order).symm x y ∙ sym (tied y x)

  pub once_by_count : (n : ℕ) → n ≡ distinct_count test xs
      → ((n == length xs) ≡ true → AllPairs (λ x y. eq y x ≡ false) xs) × (AllPairs (λ x y. eq y x ≡ false) xs → (n == length xs) ≡ true)
  once_by_count n is = (
    λ same i j d before within.
        sym (turned _ _) ∙ apart_from_distinct test xs i j d (IsDistinct-from_count (eq_by_cmp_equiv order) xs (grind (arith, nat_tests))) before within,
    λ pairs.
        let count = distinct_count-from_IsDistinct (eq_by_cmp_equiv order) xs (IsDistinct-from_apart test xs (λ i j d before within. turned _ _ ∙ pairs i j d before within)) in
        grind (arith, nat_tests),
  )

-- `read` takes the items of `xs` to those of `ys`. A relation of what it reads holds for every two
-- items of `xs` if and only if it holds for every two of `ys`.
module _ {X Y : Type 0} (R : Y → Y → Type 0) (read : X → Y) (xs : List X) (ys : List Y) (is : map read xs ≡ ys) where
  pub pairs_read : AllPairs (λ x y. R (read x) (read y)) xs → AllPairs R ys
  pairs_read pairs = subst (AllPairs R) is (AllPairs-map R read xs pairs)

  pub read_pairs : AllPairs R ys → AllPairs (λ x y. R (read x) (read y)) xs
  read_pairs pairs = AllPairs-from_map R read xs (subst (AllPairs R) (sym is) pairs)

  -- The check that no two items of `xs` are equal is a check of a condition on `ys`.
  pub checks_read : {E P : Type 0} (r : Result Bool E) → (AllPairs R ys → P) → (P → AllPairs R ys)
      → IfOk r (λ once. (once ≡ true → AllPairs (λ x y. R (read x) (read y)) xs) × (AllPairs (λ x y. R (read x) (read y)) xs → once ≡ true))
      → IfOk r (λ once. (once ≡ true → P) × (P → once ≡ true))
  checks_read r to back = test_as r (λ pairs. to (pairs_read pairs)) (λ p. read_pairs (back p))
