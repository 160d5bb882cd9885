-- Lemmas about the position of the first element of a list that passes a test.
use Rattle.std.proofs.Common.{◌≡◌, ℕ, suc, ◌+◌, ◌<◌, ◌≤◌, Bool, true, false, cond, List, [], ◌∷◌, length, Some, None, get_or, inl, inr, refl, sym, ap, ◌∙◌, arith}
use Rattle.std.specs.Prelude.{◌||◌, not, nat_lt, position}
use Rattle.std.specs.List.{list_any, position_or_len, prefix_len}
use Rattle.std.proofs.lemmas.Bool.{cases_Bool, ltb-false, ltb-true}
use Rattle.std.proofs.lemmas.Option.{none-some, same_Some}

passes_at : {X : Type 0} (p : X → Bool) (xs : List X) (d : X) → prefix_len (λ x. not (p x)) xs < length xs → p (get_or xs (prefix_len (λ x. not (p x)) xs) d) ≡ true
passes_at p [] d within = absurd (omega arith)
passes_at p (x ∷ xs) d within =
    elim (p x) as (λ (b : Bool). p x ≡ b → cond (not b) (1 + prefix_len (λ x. not (p x)) xs) 0 < suc (length xs) → p (get_or (x ∷ xs) (cond (not b) (1 + prefix_len (λ x. not (p x)) xs) 0) d) ≡ true) [
      | true ↦ λ here _. here
      | false ↦ λ _ few.
          let next : 1 + prefix_len (λ x. not (p x)) xs ≡ suc (prefix_len (λ x. not (p x)) xs) = omega arith in
          ap (λ (n : ℕ). p (get_or (x ∷ xs) n d)) next ∙ passes_at p xs d (omega (arith, few))
    ] refl within

none_passes : {X : Type 0} (p : X → Bool) (xs : List X) → length xs ≤ prefix_len (λ x. not (p x)) xs → list_any p xs ≡ false
none_passes p [] all = refl
none_passes p (x ∷ xs) all =
    elim (p x) as (λ (b : Bool). p x ≡ b → suc (length xs) ≤ cond (not b) (1 + prefix_len (λ x. not (p x)) xs) 0 → list_any p (x ∷ xs) ≡ false) [
      | true ↦ λ _ few. absurd (omega (arith, few))
      | false ↦ λ here more. ap (λ (b : Bool). b || list_any p xs) here ∙ none_passes p xs (omega (arith, more))
    ] refl all

-- `position_or_len` returns the position that was found, and it is within the list
found_is : {X : Type 0} (p : X → Bool) (xs : List X) (i : ℕ) → position p xs ≡ Some i → (position_or_len p xs ≡ i) × (position_or_len p xs < length xs)
found_is p xs i found = elim (cases_Bool (nat_lt (position_or_len p xs) (length xs))) [
  | inl within ↦ (same_Some (position_or_len p xs) i (sym (ap (λ (b : Bool). cond b (Some (position_or_len p xs)) None) within) ∙ found), ltb-true (position_or_len p xs) (length xs) within)
  | inr past ↦ absurd (none-some i (sym (ap (λ (b : Bool). cond b (Some (position_or_len p xs)) None) past) ∙ found))
]

-- the element at the position that was found passes
pub found_passes : {X : Type 0} (p : X → Bool) (xs : List X) (i : ℕ) (d : X) → position p xs ≡ Some i → p (get_or xs i d) ≡ true
found_passes p xs i d found = let is = found_is p xs i found in ap (λ (n : ℕ). p (get_or xs n d)) (sym is.0) ∙ passes_at p xs d is.1

-- if no position is found, no element passes
pub none_found : {X : Type 0} (p : X → Bool) (xs : List X) → position p xs ≡ None → list_any p xs ≡ false
none_found p xs none = elim (cases_Bool (nat_lt (position_or_len p xs) (length xs))) [
  | inl within ↦ absurd (none-some (position_or_len p xs) (sym none ∙ ap (λ (b : Bool). cond b (Some (position_or_len p xs)) None) within))
  | inr past ↦ none_passes p xs (ltb-false (position_or_len p xs) (length xs) past)
]
