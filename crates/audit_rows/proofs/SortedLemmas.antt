-- Sorted numbers: equal multisets are equal lists, and the numbers of a range are contiguous.
use Rattle.std.proofs.Common.{◌≡◌, ℕ, suc, ◌+◌, ◌-◌, ◌<◌, ◌≤◌, Bool, true, false, cond, ◌&&◌, eqb, leb, ltb, List, [], ◌∷◌, ◌++◌, length, take, drop, get_or, All, refl, sym, ap, ◌∙◌, arith, inl, inr}
use Rattle.std.specs.Prelude.{IsPermutation, count_by, filter}
use Rattle.std.specs.List.Sorted.{IsNonDecreasing, IsPartitionPoint}
use Rattle.std.proofs.lemmas.Bool.{and_left, and_right, cases_Bool}
use Rattle.std.proofs.lemmas.Bool.Decides.{nat_tests}
use Rattle.std.proofs.lemmas.List.{get_or-drop, get_or-take, length-drop, length-take, take-append-drop}
use Rattle.std.proofs.lemmas.List.Sorted.{sum_by-IsPermutation}
use Rattle.std.proofs.lemmas.List.Sums.{length-filter, sum_by-cons}
use Rattle.audit_order.proofs.RangeLemmas.{filter_middle}

-- the number of occurrences of `v` in `xs`
abbrev often : ℕ → List ℕ → ℕ
often v xs = count_by (eqb v) xs

often-cons : (v x : ℕ) (xs : List ℕ) → often v (x ∷ xs) ≡ cond (eqb v x) 1 0 + often v xs
often-cons v x xs = sum_by-cons (λ y. cond (eqb v y) 1 0) x xs

rising_tail : (x : ℕ) (xs : List ℕ) → IsNonDecreasing (x ∷ xs) → IsNonDecreasing xs
rising_tail x xs rising = λ i j d before within. rising (suc i) (suc j) d (omega arith) (omega arith)

-- A number below the first element doesn't occur in the list.
none_below : (v x : ℕ) (xs : List ℕ) → IsNonDecreasing (x ∷ xs) → v < x → often v (x ∷ xs) ≡ 0
none_below v x [] rising below = let here = often-cons v x [] in let other : eqb v x ≡ false = grind (arith, nat_tests) in here ∙ rw other refl
none_below v x (y ∷ xs) rising below =
    let up = rising 0 1 x (omega arith) (omega arith) in
    let rest = none_below v y xs (rising_tail x (y ∷ xs) rising) (omega arith) in
    let other : eqb v x ≡ false = grind (arith, nat_tests) in
    often-cons v x (y ∷ xs) ∙ ap (λ b. cond b 1 0 + often v (y ∷ xs)) other ∙ ap (λ n. 0 + n) rest

same_by_count : (xs ys : List ℕ) → IsNonDecreasing xs → IsNonDecreasing ys → ((v : ℕ) → often v xs ≡ often v ys) → xs ≡ ys
same_by_count [] [] up_x up_y same = refl
same_by_count [] (y ∷ ys) up_x up_y same =
    let yes_ : eqb y y ≡ true = grind (arith, nat_tests) in
    let here = often-cons y y ys ∙ ap (λ b. cond b 1 0 + often y ys) yes_ in
    let none = same y in absurd (omega arith)
same_by_count (x ∷ xs) [] up_x up_y same =
    let yes_ : eqb x x ≡ true = grind (arith, nat_tests) in
    let here = often-cons x x xs ∙ ap (λ b. cond b 1 0 + often x xs) yes_ in
    let none = same x in absurd (omega arith)
same_by_count (x ∷ xs) (y ∷ ys) up_x up_y same =
    let x_there = often-cons x x xs in
    let y_there = often-cons y y ys in
    let x_yes : eqb x x ≡ true = grind (arith, nat_tests) in
    let y_yes : eqb y y ≡ true = grind (arith, nat_tests) in
    let x_some = x_there ∙ ap (λ b. cond b 1 0 + often x xs) x_yes in
    let y_some = y_there ∙ ap (λ b. cond b 1 0 + often y ys) y_yes in
    let same_x = same x in
    let same_y = same y in
    let firsts : x ≡ y = elim (cases_Bool (ltb x y)) [
      | inl below ↦ let less : x < y = grind (arith, nat_tests) in let none = none_below x y ys up_y less in absurd (omega arith)
      | inr up ↦ elim (cases_Bool (ltb y x)) [
        | inl above ↦ let more : y < x = grind (arith, nat_tests) in let none = none_below y x xs up_x more in absurd (omega arith)
        | inr down ↦ grind (arith, nat_tests)
      ]
    ] in
    let rests : (v : ℕ) → often v xs ≡ often v ys = λ v.
    let left = often-cons v x xs in
    let right = often-cons v y ys ∙ ap (λ z. cond (eqb v z) 1 0 + often v ys) (sym firsts) in
    let both = same v in
    let sum : cond (eqb v x) 1 0 + often v xs ≡ cond (eqb v x) 1 0 + often v ys = sym left ∙ both ∙ right in
    omega arith in
    ap (λ z. z ∷ xs) firsts ∙ ap (λ zs. y ∷ zs) (same_by_count xs ys (rising_tail x xs up_x) (rising_tail y ys up_y) rests)

pub sorted_same : (xs ys : List ℕ) → IsNonDecreasing xs → IsNonDecreasing ys → IsPermutation xs ys → xs ≡ ys
sorted_same xs ys up_x up_y same = same_by_count xs ys up_x up_y (λ v. sym (sum_by-IsPermutation (λ y. cond (eqb v y) 1 0) xs ys same))

-- ---- the numbers of a range

module _ (xs : List ℕ) (low end : ℕ) where
  abbrev inside : ℕ → Bool
  inside x = leb low x && ltb x end

  pub count_inside : (first last : ℕ) → low ≤ end → first ≤ length xs → IsPartitionPoint (λ x. ltb x low ≡ true) (λ x. ltb x low ≡ false) xs first
      → last ≤ length xs → IsPartitionPoint (λ x. ltb x end ≡ true) (λ x. ltb x end ≡ false) xs last → (first ≤ last) × (count_by inside xs ≡ last - first)
  count_inside first last order first_in from last_in upto =
      let before : first ≤ last = elim (cases_Bool (leb first last)) [
        | inl up ↦ grind (arith, nat_tests)
        | inr down ↦
            let less : last < first = grind (arith, nat_tests) in
            let low_there = from.0 last 0 (omega arith) less in
            let end_there = upto.1 last 0 (omega arith) (omega arith) in
            absurd (let a : get_or xs last 0 < low = grind (arith, nat_tests) in let b : end ≤ get_or xs last 0 = grind (arith, nat_tests) in omega arith)
      ] in
      let count : ℕ = last - first in
      let rest : List ℕ = drop first xs in
      let front : All (λ x. inside x ≡ false) (take first xs) = λ k d k_in.
      let small : k < first = omega (arith, length-take first xs) in
      rw (get_or-take first xs k d small) (let there = from.0 k d (omega arith) small in and_left (leb low (get_or xs k d)) (ltb (get_or xs k d) end) (grind (arith, nat_tests))) in
      let here : All (λ x. inside x ≡ true) (take count rest) = λ k d k_in.
      let small : k < count = omega (arith, length-take count rest) in
      rw (get_or-take count rest k d small) (rw (get_or-drop first xs k d)
      (let least = from.1 (first + k) d (omega arith) (omega (arith, length-take count rest, length-drop first xs)) in let most = upto.0 (first + k) d (omega arith) (omega arith) in grind (arith, nat_tests))) in
      let behind : All (λ x. inside x ≡ false) (drop count rest) = λ k d k_in.
      rw (get_or-drop count rest k d) (rw (get_or-drop first xs (count + k) d)
      (let past = upto.1 (first + (count + k)) d (omega arith) (omega (arith, length-drop count rest, length-drop first xs)) in
      and_right (leb low (get_or xs (first + (count + k)) d)) (ltb (get_or xs (first + (count + k)) d) end) (grind (arith, nat_tests)))) in
      let kept : filter inside xs ≡ take count rest =
      ap (filter inside) (sym (take-append-drop first xs) ∙ ap (λ ys. take first xs ++ ys) (sym (take-append-drop count rest)))
      ∙ filter_middle inside (take first xs) (take count rest) (drop count rest) front here behind in
      (before, sym (length-filter inside xs) ∙ ap length kept ∙ omega (arith, length-take count rest, length-drop first xs))
