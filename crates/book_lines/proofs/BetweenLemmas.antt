-- Lemmas: in sorted rows, the rows of a range are adjacent.
use Rattle.std.proofs.Common.{◌≡◌, ℕ, ◌+◌, ◌<◌, ◌≤◌, Bool, true, false, ◌&&◌, leb, ltb, List, ◌++◌, length, take, drop, get_or, All, sym, ap, ◌∙◌, subst, arith}
use Rattle.std.specs.Prelude.{filter}
use Rattle.std.specs.List.Sorted.{IsPartitionPoint}
use Rattle.std.proofs.lemmas.Bool.{and_left, and_right}
use Rattle.std.proofs.lemmas.Bool.Decides.{nat_tests}
use Rattle.std.proofs.lemmas.List.{get_or-drop, get_or-take, length-drop, length-take, take-append-drop}
use Rattle.audit_order.proofs.RangeLemmas.{filter_middle}

module _ {X : Type 0} (n : X → ℕ) (low end : ℕ) (xs : List X) where
  abbrev inside : X → Bool
  inside x = leb low (n x) && ltb (n x) end

  -- the rows between the two partition points are the rows of the range
  rest_is : (first count : ℕ) → first ≤ length xs → IsPartitionPoint (λ y. ltb (n y) low ≡ true) (λ y. ltb (n y) low ≡ false) xs first
      → count ≤ length (drop first xs) → IsPartitionPoint (λ y. ltb (n y) end ≡ true) (λ y. ltb (n y) end ≡ false) (drop first xs) count
      → take count (drop first xs) ≡ filter inside xs
  rest_is first count within from few upto =
      let rest : List X = drop first xs in
      let before : All (λ x. inside x ≡ false) (take first xs) = λ k d k_in.
      let small : k < first = omega (arith, length-take first xs) in
      rw (get_or-take first xs k d small) (let there = from.0 k d (omega arith) small in and_left (leb low (n (get_or xs k d))) (ltb (n (get_or xs k d)) end) (grind (arith, nat_tests))) in
      let here : All (λ x. inside x ≡ true) (take count rest) = λ k d k_in.
      let small : k < count = omega (arith, length-take count rest) in
      let at : get_or rest k d ≡ get_or xs (first + k) d = get_or-drop first xs k d in
      let most = upto.0 k d (omega arith) small in
      let least = rw (sym at) at (from.1 (first + k) d (omega arith) (omega (arith, length-drop first xs))) in
      rw (get_or-take count rest k d small) (grind (arith, nat_tests)) in
      let behind : All (λ x. inside x ≡ false) (drop count rest) = λ k d k_in.
      let past = upto.1 (count + k) d (omega arith) (omega (arith, length-drop count rest)) in
      rw (get_or-drop count rest k d) (and_right (leb low (n (get_or rest (count + k) d))) (ltb (n (get_or rest (count + k) d)) end) (grind (arith, nat_tests))) in
      sym (ap (filter inside) (sym (take-append-drop first xs) ∙ ap (λ ys. take first xs ++ ys) (sym (take-append-drop count rest)))
      ∙ filter_middle inside (take first xs) (take count rest) (drop count rest) before here behind)

  pub between_is : (first count : ℕ) (ys : List X) → ys ≡ drop first xs → first ≤ length xs → IsPartitionPoint (λ y. ltb (n y) low ≡ true) (λ y. ltb (n y) low ≡ false) xs first
      → count ≤ length ys → IsPartitionPoint (λ y. ltb (n y) end ≡ true) (λ y. ltb (n y) end ≡ false) ys count → take count ys ≡ filter inside xs
  between_is first count ys is within from few there =
      let same : IsPartitionPoint (λ y. ltb (n y) end ≡ true) (λ y. ltb (n y) end ≡ false) (drop first xs) count
      = subst (λ (zs : List X). IsPartitionPoint (λ y. ltb (n y) end ≡ true) (λ y. ltb (n y) end ≡ false) zs count) is there in
      ap (take count) is ∙ rest_is first count within from (subst (λ (zs : List X). count ≤ length zs) is few) same
