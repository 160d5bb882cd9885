-- Among sorted rows, the rows with one number are a range.
use Rattle.std.proofs.Common.{◌≡◌, ℕ, ◌+◌, ◌<◌, ◌≤◌, Bool, true, false, eqb, leb, ltb, List, [], ◌∷◌, ◌++◌, length, take, drop, get_or, All, sym, ap, ◌∙◌, subst, arith, inl, inr}
use Rattle.std.specs.Prelude.{filter}
use Rattle.std.specs.List.Sorted.{IsPartitionPoint}
use Rattle.std.proofs.lemmas.Bool.{cases_Bool, cond-true, cond-false}
use Rattle.std.proofs.lemmas.Bool.Decides.{nat_tests}
use Rattle.std.proofs.lemmas.List.{append-nil, get_or-drop, get_or-take, length-drop, length-take, take-append-drop}
use Rattle.table_rows.proofs.Found.{filter_none}
use Rattle.row_laws.proofs.Finding.{filter_all}
use Rattle.std.proofs.lemmas.List.Elements.{All-cons, All-nil, filter-append}

module _ {X : Type 0} (p : X → Bool) where
  pub filter_middle : (xs ys zs : List X) → All (λ x. p x ≡ false) xs → All (λ x. p x ≡ true) ys → All (λ x. p x ≡ false) zs → filter p (xs ++ (ys ++ zs)) ≡ ys
  filter_middle xs ys zs before here behind =
      filter-append p xs (ys ++ zs)
      ∙ ap (λ ws. ws ++ filter p (ys ++ zs)) (filter_none p xs before)
      ∙ filter-append p ys zs
      ∙ ap (λ ws. ws ++ filter p zs) (filter_all p ys here)
      ∙ ap (λ ws. ys ++ ws) (filter_none p zs behind)
      ∙ append-nil ys

  pub none_passes : (xs : List X) → filter p xs ≡ [] → All (λ x. p x ≡ false) xs
  none_passes [] e = All-nil (λ x. p x ≡ false)
  none_passes (x ∷ xs) e = elim (cases_Bool (p x)) [
    | inl hit ↦ absurd (cc (cond-true (p x) (x ∷ filter p xs) (filter p xs) hit))
    | inr miss ↦ All-cons (λ y. p y ≡ false) x xs miss (none_passes xs (sym (cond-false (p x) (x ∷ filter p xs) (filter p xs) miss) ∙ e))
  ]

module _ {X : Type 0} (n : X → ℕ) (v : ℕ) (xs : List X) where
  abbrev below : X → Bool
  below y = ltb (n y) v

  abbrev upto : X → Bool
  upto y = leb (n y) v

  -- The range is between the partition points of `<` and `<=`.
  rest_is : (first count : ℕ) → first ≤ length xs → IsPartitionPoint (λ y. below y ≡ true) (λ y. below y ≡ false) xs first
      → count ≤ length (drop first xs) → IsPartitionPoint (λ y. upto y ≡ true) (λ y. upto y ≡ false) (drop first xs) count
      → take count (drop first xs) ≡ filter (λ x. eqb (n x) v) xs
  rest_is first count within from few upto_there =
      let rest : List X = drop first xs in
      let before : All (λ x. eqb (n x) v ≡ false) (take first xs) = λ k d k_in.
      let small : k < first = omega (arith, length-take first xs) in
      rw (get_or-take first xs k d small) (let low = from.0 k d (omega arith) small in grind (arith, nat_tests)) in
      let here : All (λ x. eqb (n x) v ≡ true) (take count rest) = λ k d k_in.
      let small : k < count = omega (arith, length-take count rest) in
      let at : get_or rest k d ≡ get_or xs (first + k) d = get_or-drop first xs k d in
      let most = upto_there.0 k d (omega arith) small in
      let least = rw (sym at) at (from.1 (first + k) d (omega arith) (omega (arith, length-drop first xs))) in
      rw (get_or-take count rest k d small) (grind (arith, nat_tests)) in
      let behind : All (λ x. eqb (n x) v ≡ false) (drop count rest) = λ k d k_in.
      let past = upto_there.1 (count + k) d (omega arith) (omega (arith, length-drop count rest)) in
      rw (get_or-drop count rest k d) (grind (arith, nat_tests)) in
      sym (ap (filter (λ x. eqb (n x) v)) (sym (take-append-drop first xs) ∙ ap (λ ys. take first xs ++ ys) (sym (take-append-drop count rest)))
      ∙ filter_middle (λ x. eqb (n x) v) (take first xs) (take count rest) (drop count rest) before here behind)

  pub range_is : (first count : ℕ) (ys : List X) → ys ≡ drop first xs → first ≤ length xs → IsPartitionPoint (λ y. below y ≡ true) (λ y. below y ≡ false) xs first
      → count ≤ length ys → IsPartitionPoint (λ y. upto y ≡ true) (λ y. upto y ≡ false) ys count → take count ys ≡ filter (λ x. eqb (n x) v) xs
  range_is first count ys is within from few there =
      let same : IsPartitionPoint (λ y. upto y ≡ true) (λ y. upto y ≡ false) (drop first xs) count
      = subst (λ (zs : List X). IsPartitionPoint (λ y. upto y ≡ true) (λ y. upto y ≡ false) zs count) is there in
      ap (take count) is ∙ rest_is first count within from (subst (λ (zs : List X). count ≤ length zs) is few) same
