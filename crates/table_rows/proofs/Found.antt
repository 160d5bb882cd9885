-- Lemmas about the elements of a list that pass a test.
use Rattle.std.proofs.Common.{◌≡◌, Bool, true, false, cond, List, [], ◌∷◌, All, Some, None, inl, inr, refl, sym, ap, ◌∙◌}
use Rattle.std.specs.Prelude.{filter, find}
use Rattle.std.proofs.lemmas.Bool.{cases_Bool, cond-false, cond-true}
use Rattle.std.proofs.lemmas.List.Elements.{All-head, All-tail}

module _ {X : Type 0} (p : X → Bool) where
  -- If no element passes, nothing is found.
  pub find_none : (xs : List X) → All (λ x. p x ≡ false) xs → find p xs ≡ None
  find_none [] none = refl
  find_none (x ∷ xs) none =
      let miss : p x ≡ false = All-head (λ y. p y ≡ false) x xs none in
      cond-false (p x) (Some x) (find p xs) miss ∙ find_none xs (All-tail (λ y. p y ≡ false) x xs none)

  pub filter_none : (xs : List X) → All (λ x. p x ≡ false) xs → filter p xs ≡ []
  filter_none [] none = refl
  filter_none (x ∷ xs) none =
      let miss : p x ≡ false = All-head (λ y. p y ≡ false) x xs none in
      cond-false (p x) (x ∷ filter p xs) (filter p xs) miss ∙ filter_none xs (All-tail (λ y. p y ≡ false) x xs none)

  -- An element that is found passes the test.
  pub find_passes : (xs : List X) (x : X) → find p xs ≡ Some x → p x ≡ true
  find_passes [] x is = absurd (cc)
  find_passes (y ∷ xs) x is = elim (cases_Bool (p y)) [
    | inl hit ↦ let same : y ≡ x = cc (cond-true (p y) (Some y) (find p xs) hit) in ap p (sym same) ∙ hit
    | inr miss ↦ find_passes xs x (sym (cond-false (p y) (Some y) (find p xs) miss) ∙ is)
  ]

  -- Two tests that agree on every element keep the same elements.
  pub filter_alike : (q : X → Bool) (xs : List X) → All (λ x. p x ≡ q x) xs → filter p xs ≡ filter q xs
  filter_alike q [] alike = refl
  filter_alike q (x ∷ xs) alike =
      ap (λ b. cond b (x ∷ filter p xs) (filter p xs)) (All-head (λ y. p y ≡ q y) x xs alike)
      ∙ ap (λ ys. cond (q x) (x ∷ ys) ys) (filter_alike q xs (All-tail (λ y. p y ≡ q y) x xs alike))
