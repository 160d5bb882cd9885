-- Lists in which each element occurs equally often are permutations of each other.
use Rattle.std.proofs.Common.{◌≡◌, ◌⊎◌, ℕ, ◌+◌, ◌*◌, ◌<◌, ◌≤◌, Bool, true, false, cond, List, [], ◌∷◌, ◌++◌, get_or, replicate, All, AllPairs, count_by, inl, inr, sym, ap, subst, ◌∙◌, arith, mul-one, mul-zero, zero-mul, one-mul, add-mul, IsPermutation}
use Rattle.std.specs.List.{flat_map, list_any}
use Rattle.std.proofs.Math.Nat.{eq-zero-or-pos}
use Rattle.std.proofs.lemmas.Bool.{both_ways, cases_Bool, cond-true, cond-false, false_from_ne_true}
use Rattle.std.proofs.lemmas.List.Folds.{sum_by-replicate}
use Rattle.std.proofs.lemmas.List.Sorted.{IsPermutation-cons, IsPermutation-middle, IsPermutation-refl, IsPermutation-sym, IsPermutation-trans}
use Rattle.std.proofs.lemmas.List.Sums.{sum_by-append, sum_by-cons}
use Rattle.job_facts.proofs.Lists.{All-there, count_by-at, count_by_any, count_by_none}
use Rattle.step_laws.proofs.Permuted.{PassAlone, at_most_one}

abbrev one : Bool → ℕ
one b = cond {A = ℕ} b 1 0

-- the names of the elements, each repeated `many` times
abbrev pub spread : {X K : Type 0} → (X → K) → (K → ℕ) → List X → List K
spread name many xs = flat_map (λ x. replicate (many (name x)) (name x)) xs

module _ {K : Type 0} (same : K → K → Bool) (exact : (x y : K) → same x y ≡ true → x ≡ y) (itself : (x : K) → same x x ≡ true) where
  -- An element that is counted at least once is at some index.
  split_at : (x : K) (ys : List K) → 1 ≤ count_by (same x) ys → (before : List K) × (after : List K) × (ys ≡ before ++ x ∷ after)
  split_at x [] some = absurd (omega arith)
  split_at x (y ∷ ys) some = elim (cases_Bool (same x y)) [
    | inl hit ↦ ([], ys, ap (λ z. z ∷ ys) (sym (exact x y hit)))
    | inr miss ↦
        let none : one (same x y) ≡ 0 = ap one miss in
        let rest = split_at x ys (omega (arith, some, sum_by-cons (λ z. one (same x z)) y ys, none)) in
        (y ∷ rest.0, rest.1, ap (λ zs. y ∷ zs) rest.2)
  ]

  pub counted_alike : (xs ys : List K) → ((z : K) → count_by (same z) xs ≡ count_by (same z) ys) → IsPermutation xs ys
  counted_alike [] [] alike = IsPermutation-refl []
  counted_alike [] (y ∷ ys) alike =
      let here : one (same y y) ≡ 1 = ap one (itself y) in
      absurd (omega (arith, alike y, sum_by-cons (λ z. one (same y z)) y ys, here))
  counted_alike (x ∷ xs) ys alike =
      let here : one (same x x) ≡ 1 = ap one (itself x) in
      let there = split_at x ys (omega (arith, alike x, sum_by-cons (λ z. one (same x z)) x xs, here)) in
      let others : (z : K) → count_by (same z) xs ≡ count_by (same z) (there.0 ++ there.1) = λ z.
      let whole : count_by (same z) (x ∷ xs) ≡ count_by (same z) (there.0 ++ x ∷ there.1) = alike z ∙ ap (count_by (same z)) there.2 in
      omega (arith, whole, sum_by-cons (λ y. one (same z y)) x xs, count_by-at (same z) there.0 there.1 x, sum_by-append (λ y. one (same z y)) there.0 there.1) in
      subst (IsPermutation (x ∷ xs)) (sym there.2)
      (IsPermutation-trans _ _ _ (IsPermutation-cons x xs (there.0 ++ there.1) (counted_alike xs (there.0 ++ there.1) others))
      (IsPermutation-sym _ _ (IsPermutation-middle there.0 x there.1)))

  -- ---- lists without duplicates

  pub once_or_none : (xs : List K) → AllPairs (λ x y. same y x ≡ false) xs → (z : K) → count_by (same z) xs ≡ cond (list_any (same z) xs) 1 0
  once_or_none xs once z = elim (cases_Bool (list_any (same z) xs)) [
    | inl there ↦ let least = count_by_any (same z) xs there in few_is (omega (arith, few, least)) there
    | inr missing ↦ count_by_none (same z) xs missing ∙ sym (cond-false {A = ℕ} (list_any (same z) xs) 1 0 missing)
  ]
    where
      alone : (x y : K) → same y x ≡ false → PassAlone (same z) x y
      alone x y differ hit = false_from_ne_true (same z y) (λ also. both_ways (same y x) differ (ap (λ k. same k x) (sym (exact z y also)) ∙ hit))

      few : count_by (same z) xs ≤ 1
      few = at_most_one (same z) xs (λ i j d before within. alone (get_or xs i d) (get_or xs j d) (once i j d before within))

      few_is : count_by (same z) xs ≡ 1 → list_any (same z) xs ≡ true → count_by (same z) xs ≡ cond (list_any (same z) xs) 1 0
      few_is is there = is ∙ sym (cond-true {A = ℕ} (list_any (same z) xs) 1 0 there)

  -- ---- repeated names

  module _ {X : Type 0} (name : X → K) (many : K → ℕ) where
    counted_in : (z : K) (xs : List X) → count_by (same z) (spread name many xs) ≡ count_by (λ x. same z (name x)) xs * many z
    counted_in z [] = sym (zero-mul (many z))
    counted_in z (x ∷ xs) =
        let rest = counted_in z xs in
        let m : ℕ = many (name x) in
        let joined = sum_by-append (λ k. one (same z k)) (replicate m (name x)) (spread name many xs) in
        let each = sum_by-replicate (λ k. one (same z k)) m (name x) in
        let more = sum_by-cons (λ y. one (same z (name y))) x xs in
        joined ∙ ap (λ n. n + count_by (same z) (spread name many xs)) each ∙ ap (λ n. m * one (same z (name x)) + n) rest
        ∙ here (cases_Bool (same z (name x))) ∙ sym (add-mul (one (same z (name x))) (count_by (λ y. same z (name y)) xs) (many z)) ∙ ap (λ n. n * many z) (sym more)
      where
        here : (same z (name x) ≡ true) ⊎ (same z (name x) ≡ false)
            → many (name x) * one (same z (name x)) + count_by (λ y. same z (name y)) xs * many z ≡ one (same z (name x)) * many z + count_by (λ y. same z (name y)) xs * many z
        here (inl hit) =
            let is : one (same z (name x)) ≡ 1 = ap one hit in
            let named : name x ≡ z = sym (exact z (name x) hit) in
            ap (λ n. n + count_by (λ y. same z (name y)) xs * many z)
            (ap (λ n. many (name x) * n) is ∙ mul-one (many (name x)) ∙ ap many named ∙ sym (one-mul (many z)) ∙ ap (λ n. n * many z) (sym is))
        here (inr miss) =
            let is : one (same z (name x)) ≡ 0 = ap one miss in
            ap (λ n. n + count_by (λ y. same z (name y)) xs * many z)
            (ap (λ n. many (name x) * n) is ∙ mul-zero (many (name x)) ∙ sym (zero-mul (many z)) ∙ ap (λ n. n * many z) (sym is))

    -- If each name is repeated as often as it occurs in `zs`, and each element of `zs` is the name
    -- of exactly one element of `xs`, the repeated names are a permutation of `zs`.
    pub spreads : (xs : List X) (zs : List K) → ((z : K) → many z ≡ count_by (same z) zs) → All (λ z. count_by (λ x. same z (name x)) xs ≡ 1) zs
        → IsPermutation (spread name many xs) zs
    spreads xs zs counts once = counted_alike (spread name many xs) zs (λ z. counted_in z xs ∙ at z (eq-zero-or-pos (count_by (same z) zs)))
      where
        at : (z : K) → (count_by (same z) zs ≡ 0) ⊎ (0 < count_by (same z) zs) → count_by (λ x. same z (name x)) xs * many z ≡ count_by (same z) zs
        at z (inl none) = ap (λ n. count_by (λ x. same z (name x)) xs * n) (counts z ∙ none) ∙ mul-zero (count_by (λ x. same z (name x)) xs) ∙ sym none
        at z (inr some) =
            let there = split_at z zs (omega (arith, some)) in
            let is : count_by (λ x. same z (name x)) xs ≡ 1 = All-there (λ k. count_by (λ x. same k (name x)) xs ≡ 1) there.0 there.1 z (subst (All (λ k. count_by (λ x. same k (name x)) xs ≡ 1)) there.2 once) in
            ap (λ n. n * many z) is ∙ one-mul (many z) ∙ counts z
