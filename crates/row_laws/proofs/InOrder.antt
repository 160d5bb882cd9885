-- A permutation of a list with strictly increasing numbers whose numbers never decrease is the list
-- itself.
use Rattle.std.proofs.Common.{◌≡◌, ℕ, suc, ◌<◌, ◌≤◌, ◌==◌, Bool, true, false, cond, List, [], ◌∷◌, All, Some, inl, inr, refl, sym, ap, ◌∙◌, subst, arith, IsPermutation}
use Rattle.std.specs.Prelude.{AllPairs, count_by, find}
use Rattle.std.proofs.lemmas.Bool.{cases_Bool, cond-false, cond-true}
use Rattle.std.proofs.lemmas.Bool.Decides.{nat_tests}
use Rattle.std.proofs.lemmas.List.Elements.{All-weaker}
use Rattle.std.proofs.lemmas.List.Sums.{sum_by-cons}
use Rattle.std.proofs.lemmas.Option.{same_Some}
use Rattle.std.proofs.lemmas.List.Folds.{list_any_none}
use Rattle.job_facts.proofs.Lists.{count_by_none, find-All}
use Rattle.step_laws.proofs.Permuted.{at_most_one, count_moved, find_moved}
use Rattle.table_rows.proofs.Found.{find_none}
use Rattle.row_laws.proofs.Finding.{none_counted}
use Rattle.row_laws.proofs.RecordRows.{equal_self}

module _ {X : Type 0} (key : X → ℕ) where
  abbrev at : ℕ → X → Bool
  at k x = key x == k

  -- Both lists have each number equally often, and a look-up of a number finds the same element in
  -- both.
  record AreAlike (xs ys : List X) : Type 0 where
    counts : (k : ℕ) → count_by (at k) xs ≡ count_by (at k) ys
    finds : (k : ℕ) → find (at k) xs ≡ find (at k) ys

  first_counts : (x : X) (xs : List X) → 1 ≤ count_by (at (key x)) (x ∷ xs)
  first_counts x xs =
      let one : cond {A = ℕ} (key x == key x) 1 0 ≡ 1 = ap (λ b. cond {A = ℕ} b 1 0) (equal_self (key x)) in
      omega (arith, sum_by-cons (λ y. cond {A = ℕ} (at (key x) y) 1 0) x xs, one)

  first_same : (x y : X) (xs ys : List X) → AreAlike (x ∷ xs) (y ∷ ys) → All (λ z. key x ≤ key z) xs → All (λ z. key y < key z) ys → x ≡ y
  first_same x y xs ys alike least less =
      let found_x : find (at (key x)) (y ∷ ys) ≡ Some x = sym (alike.finds (key x)) ∙ cond-true (key x == key x) (Some x) (find (at (key x)) xs) (equal_self (key x)) in
      let found_y : find (at (key y)) (x ∷ xs) ≡ Some y = alike.finds (key y) ∙ cond-true (key y == key y) (Some y) (find (at (key y)) ys) (equal_self (key y)) in
      elim (cases_Bool (key y == key x)) [
        | inl hit ↦ sym (same_Some y x (sym (cond-true (key y == key x) (Some y) (find (at (key x)) ys) hit) ∙ found_x))
        | inr miss ↦
            let below : key y < key x = find-All (at (key x)) (λ z. key y < key z) ys x less (sym (cond-false (key y == key x) (Some y) (find (at (key x)) ys) miss) ∙ found_x) in
            let other : (key x == key y) ≡ false = grind (arith, nat_tests) in
            let above : key x ≤ key y = find-All (at (key y)) (λ z. key x ≤ key z) xs y least (sym (cond-false (key x == key y) (Some x) (find (at (key y)) xs) other) ∙ found_y) in
            absurd (omega (arith, below, above))
      ]

  -- No later element has the number of the first one.
  later_apart : (y : X) (ys : List X) (k : ℕ) → All (λ z. key y < key z) ys → (key y == k) ≡ true → All (λ z. at k z ≡ false) ys
  later_apart y ys k less hit = All-weaker (λ z. key y < key z) (λ z. at k z ≡ false) (λ z below. grind (arith, nat_tests)) ys less

  rest_alike : (x : X) (xs ys : List X) → AreAlike (x ∷ xs) (x ∷ ys) → All (λ z. key x < key z) ys → AreAlike xs ys
  rest_alike x xs ys alike less =
      let counts : (k : ℕ) → count_by (at k) xs ≡ count_by (at k) ys =
      λ k. omega (arith, alike.counts k, sum_by-cons (λ z. cond {A = ℕ} (at k z) 1 0) x xs, sum_by-cons (λ z. cond {A = ℕ} (at k z) 1 0) x ys) in
      record {
        counts = counts;
        finds = λ k. elim (cases_Bool (key x == k)) [
          | inl hit ↦
              let apart = later_apart x ys k less hit in
              let none : count_by (at k) xs ≡ 0 = counts k ∙ none_count k ys apart in
              find_none (at k) xs (none_counted (at k) xs none) ∙ sym (find_none (at k) ys apart)
          | inr miss ↦
              sym (cond-false (key x == k) (Some x) (find (at k) xs) miss) ∙ alike.finds k ∙ cond-false (key x == k) (Some x) (find (at k) ys) miss
        ];
      }
    where
      none_count : (k : ℕ) (zs : List X) → All (λ z. at k z ≡ false) zs → count_by (at k) zs ≡ 0
      none_count k zs apart = count_by_none (at k) zs (list_any_none (at k) zs apart)

  alike_same : (xs ys : List X) → AreAlike xs ys → AllPairs (λ x y. key x ≤ key y) xs → AllPairs (λ x y. key x < key y) ys → xs ≡ ys
  alike_same [] [] alike least less = refl
  alike_same [] (y ∷ ys) alike least less = absurd (omega (arith, first_counts y ys, alike.counts (key y)))
  alike_same (x ∷ xs) [] alike least less = absurd (omega (arith, first_counts x xs, alike.counts (key x)))
  alike_same (x ∷ xs) (y ∷ ys) alike least less =
      let below : All (λ z. key y < key z) ys = λ k d within. less 0 (suc k) d (omega arith) (omega arith) in
      let same : x ≡ y = first_same x y xs ys alike (λ k d within. least 0 (suc k) d (omega arith) (omega arith)) below in
      let rest : AreAlike xs ys = rest_alike x xs ys (subst (λ z. AreAlike (x ∷ xs) (z ∷ ys)) (sym same) alike) (subst (λ z. All (λ w. key z < key w) ys) (sym same) below) in
      ap (λ zs. x ∷ zs) (alike_same xs ys rest (λ i j d before within. least (suc i) (suc j) d (omega arith) (omega arith)) (λ i j d before within. less (suc i) (suc j) d (omega arith) (omega arith)))
      ∙ ap (λ z. z ∷ ys) same

  alone : (k : ℕ) (x y : X) → key x < key y → at k x ≡ true → at k y ≡ false
  alone k x y less hit = grind (arith, nat_tests)

  pub in_order : (xs ys : List X) → IsPermutation xs ys → AllPairs (λ x y. key x ≤ key y) xs → AllPairs (λ x y. key x < key y) ys → xs ≡ ys
  in_order xs ys moved least less =
      let once : (k : ℕ) → count_by (at k) ys ≤ 1 = λ k. at_most_one (at k) ys (λ i j d before within. alone k _ _ (less i j d before within)) in
      alike_same xs ys (record {
        counts = λ k. count_moved (at k) xs ys moved;
        finds = λ k. find_moved (at k) xs ys moved (omega (arith, once k, count_moved (at k) xs ys moved));
      }) least less
