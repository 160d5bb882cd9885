-- Permuted lists: the results of filters, and of a search if at most one element passes.
use Rattle.std.proofs.Common.{◌≡◌, ℕ, zero, suc, ◌<◌, ◌≤◌, Bool, true, false, cond, List, [], ◌∷◌, length, get_or, set, swap, Option, Some, refl, sym, ap, ◌∙◌, subst, inl, inr, arith, IsPermutation}
use Rattle.std.specs.Prelude.{All, AllPairs, count_by, filter, find}
use Rattle.std.proofs.lemmas.Bool.{cases_Bool, cond-true, cond-false}
use Rattle.std.proofs.lemmas.List.Elements.{All-head, All-tail, All-weaker}
use Rattle.std.proofs.lemmas.List.Sorted.{IsPermutation-cons, IsPermutation-keeps, IsPermutation-refl, IsPermutation-swap, IsPermutation-trans, sum_by-IsPermutation}
use Rattle.std.proofs.lemmas.List.Sums.{sum_by-cons}

-- A relation between lists is true of all permutations if it is reflexive and transitive, is kept
-- when an element is prepended to both lists, and is true when the first two elements are swapped.
module _ {X : Type 0} (R : List X → List X → Type 0) (same : (xs : List X) → R xs xs) (under : (x : X) (xs ys : List X) → R xs ys → R (x ∷ xs) (x ∷ ys))
    (turn : (x y : X) (xs : List X) → R (x ∷ y ∷ xs) (y ∷ x ∷ xs)) (chain : (xs ys zs : List X) → R xs ys → R ys zs → R xs zs) where
  first_for : (xs : List X) (j : ℕ) (x d : X) → j < length xs → R (x ∷ xs) (get_or xs j d ∷ set xs j x)
  first_for [] j x d within = absurd (omega arith)
  first_for (y ∷ xs) zero x d within = turn x y xs
  first_for (y ∷ xs) (suc j) x d within =
      chain _ _ _ (turn x y xs) (chain _ _ _ (under y _ _ (first_for xs j x d (omega arith))) (turn y (get_or xs j d) (set xs j x)))

  two_for : (xs : List X) (i j : ℕ) (d : X) → i < length xs → j < length xs → R xs (set (set xs i (get_or xs j d)) j (get_or xs i d))
  two_for [] i j d low high = absurd (omega arith)
  two_for (x ∷ xs) zero zero d low high = same (x ∷ xs)
  two_for (x ∷ xs) zero (suc j) d low high = first_for xs j x d (omega arith)
  two_for (x ∷ xs) (suc i) zero d low high = first_for xs i x d (omega arith)
  two_for (x ∷ xs) (suc i) (suc j) d low high = under x _ _ (two_for xs i j d (omega arith) (omega arith))

  swap_for : (xs : List X) (i j : ℕ) → i < length xs → j < length xs → R xs (swap xs i j)
  swap_for [] i j low high = same []
  swap_for (x ∷ xs) i j low high = two_for (x ∷ xs) i j x low high

  pub in_any_order : (xs ys : List X) → IsPermutation xs ys → R xs ys
  in_any_order xs = IsPermutation-keeps xs (R xs) (same xs) (λ l i j low high before. chain xs l (swap l i j) before (swap_for l i j low high))

module _ {X : Type 0} (p : X → Bool) where
  filter_turn : (x y : X) (xs : List X) → IsPermutation (filter p (x ∷ y ∷ xs)) (filter p (y ∷ x ∷ xs))
  filter_turn x y xs =
      let kept : List X = filter p xs in
      elim (p x) as (λ b. IsPermutation (cond b (x ∷ cond (p y) (y ∷ kept) kept) (cond (p y) (y ∷ kept) kept)) (cond (p y) (y ∷ cond b (x ∷ kept) kept) (cond b (x ∷ kept) kept))) [
        | true ↦ elim (p y) as (λ c. IsPermutation (x ∷ cond c (y ∷ kept) kept) (cond c (y ∷ x ∷ kept) (x ∷ kept))) [
          | true ↦ IsPermutation-swap (x ∷ y ∷ kept) (y ∷ x ∷ kept) 0 1 (omega arith) (omega arith) refl
          | false ↦ IsPermutation-refl (x ∷ kept)
        ]
        | false ↦ IsPermutation-refl (cond (p y) (y ∷ kept) kept)
      ]

  pub IsPermutation-filter : (xs ys : List X) → IsPermutation xs ys → IsPermutation (filter p xs) (filter p ys)
  IsPermutation-filter = in_any_order (λ xs ys. IsPermutation (filter p xs) (filter p ys))
      (λ xs. IsPermutation-refl (filter p xs))
      (λ x xs ys moved. elim (p x) as (λ b. IsPermutation (cond b (x ∷ filter p xs) (filter p xs)) (cond b (x ∷ filter p ys) (filter p ys))) [
        | true ↦ IsPermutation-cons x (filter p xs) (filter p ys) moved
        | false ↦ moved
      ])
      filter_turn
      (λ xs ys zs. IsPermutation-trans (filter p xs) (filter p ys) (filter p zs))

  pub count_moved : (xs ys : List X) → IsPermutation xs ys → count_by p xs ≡ count_by p ys
  count_moved xs ys moved = sym (sum_by-IsPermutation (λ x. cond (p x) 1 0) xs ys moved)

  count_here : (x : X) (xs : List X) → p x ≡ true → count_by p (x ∷ xs) ≡ suc (count_by p xs)
  count_here x xs hit = let one : cond {A = ℕ} (p x) 1 0 ≡ 1 = cond-true {A = ℕ} (p x) 1 0 hit in omega (arith, one, sum_by-cons (λ z. cond (p z) 1 0) x xs)

  count_there : (x : X) (xs : List X) → p x ≡ false → count_by p (x ∷ xs) ≡ count_by p xs
  count_there x xs miss = let none : cond {A = ℕ} (p x) 1 0 ≡ 0 = cond-false {A = ℕ} (p x) 1 0 miss in omega (arith, none, sum_by-cons (λ z. cond (p z) 1 0) x xs)

  -- If at most one element passes, a search finds the same element in any order.
  abbrev FindsAlike : List X → List X → Type 0
  FindsAlike xs ys = count_by p xs ≤ 1 → (find p xs ≡ find p ys) × (count_by p xs ≡ count_by p ys)

  finds_turn : (x y : X) (xs : List X) → FindsAlike (x ∷ y ∷ xs) (y ∷ x ∷ xs)
  finds_turn x y xs few =
      let rest : Option X = find p xs in
      let counts = count_moved (x ∷ y ∷ xs) (y ∷ x ∷ xs) (IsPermutation-swap (x ∷ y ∷ xs) (y ∷ x ∷ xs) 0 1 (omega arith) (omega arith) refl) in
      let found : cond (p x) (Some x) (cond (p y) (Some y) rest) ≡ cond (p y) (Some y) (cond (p x) (Some x) rest) =
      elim (cases_Bool (p x)) [
        | inl hit ↦ elim (cases_Bool (p y)) [
          | inl also ↦ absurd (omega (arith, count_here x (y ∷ xs) hit, count_here y xs also))
          | inr miss ↦ rw (hit, miss) refl
        ]
        | inr miss ↦ rw miss refl
      ] in
      (found, counts)

  finds_alike : (xs ys : List X) → IsPermutation xs ys → FindsAlike xs ys
  finds_alike = in_any_order FindsAlike
      (λ xs few. (refl, refl))
      (λ x xs ys alike few. elim (cases_Bool (p x)) [
        | inl hit ↦
            let more = alike (omega (arith, count_here x xs hit)) in
            (cond-true (p x) (Some x) (find p xs) hit ∙ sym (cond-true (p x) (Some x) (find p ys) hit), count_here x xs hit ∙ ap suc more.1 ∙ sym (count_here x ys hit))
        | inr miss ↦
            let more = alike (omega (arith, count_there x xs miss)) in
            (ap (cond (p x) (Some x)) more.0, count_there x xs miss ∙ more.1 ∙ sym (count_there x ys miss))
      ])
      finds_turn
      (λ xs ys zs first then few.
      let one = first few in
      let two = then (subst (λ n. n ≤ 1) one.1 few) in
      (one.0 ∙ two.0, one.1 ∙ two.1))

  pub find_moved : (xs ys : List X) → IsPermutation xs ys → count_by p xs ≤ 1 → find p xs ≡ find p ys
  find_moved xs ys moved few = (finds_alike xs ys moved few).0

  none_pass : (xs : List X) → All (λ x. p x ≡ false) xs → count_by p xs ≡ 0
  none_pass [] none = refl
  none_pass (x ∷ xs) none = count_there x xs (All-head (λ x. p x ≡ false) x xs none) ∙ none_pass xs (All-tail (λ x. p x ≡ false) x xs none)

  -- If one of two elements passes, the other doesn't.
  abbrev pub PassAlone : X → X → Type 0
  PassAlone x y = p x ≡ true → p y ≡ false

  pub at_most_one : (xs : List X) → AllPairs PassAlone xs → count_by p xs ≤ 1
  at_most_one [] alone = omega arith
  at_most_one (x ∷ xs) alone = elim (cases_Bool (p x)) [
    | inl hit ↦
        let others : All (PassAlone x) xs = λ k d within. alone 0 (suc k) d (omega arith) (omega arith) in
        omega (arith, count_here x xs hit, none_pass xs (All-weaker (PassAlone x) (λ y. p y ≡ false) (λ y before. before hit) xs others))
    | inr miss ↦ omega (arith, count_there x xs miss, at_most_one xs (λ i j d before within. alone (suc i) (suc j) d (omega arith) (omega arith)))
  ]
