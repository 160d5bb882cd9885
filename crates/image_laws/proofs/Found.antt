-- Elements that satisfy a predicate: exactly one, none, or one at its index.
use Rattle.std.proofs.Common.{◌≡◌, suc, ◌+◌, Bool, true, not, cond, List, [], ◌∷◌, ◌++◌, length, get_or, All, Option, Some, None, inl, inr, refl, sym, ap, subst, ◌∙◌, arith}
use Rattle.std.specs.Prelude.{AllPairs, IsSome, find}
use Rattle.std.specs.List.{position_or_len}
use Rattle.std.proofs.lemmas.Bool.{both_ways, cases_Bool, cond-false, cond-true, false≢true}
use Rattle.std.proofs.lemmas.List.{get_or_append_left, get_or_push, length_push}
use Rattle.std.proofs.lemmas.List.Elements.{All-cons}
use Rattle.std.proofs.lemmas.Option.{none-some, same_Some}
use Rattle.step_laws.proofs.Permuted.{PassAlone}

pub some_there : {X : Type 0} (o : Option X) → IsSome o → (x : X) × (o ≡ Some x)
some_there None is = absurd (false≢true is)
some_there (Some x) is = (x, refl)

module _ {X : Type 0} (p : X → Bool) where
  -- The element that a look-up finds satisfies `p`, and no other element does.
  pub found_alone : (xs : List X) (x : X) → AllPairs (PassAlone p) xs → find p xs ≡ Some x → (p x ≡ true) × All (λ y. p y ≡ true → y ≡ x) xs
  found_alone [] x once is = absurd (none-some x is)
  found_alone (y ∷ xs) x once is = elim (cases_Bool (p y)) [
    | inl hit ↦
        let same : y ≡ x = same_Some y x (sym (cond-true (p y) (Some y) (find p xs) hit) ∙ is) in (
          ap p (sym same) ∙ hit,
          All-cons (λ z. p z ≡ true → z ≡ x) y xs (λ passes. same)
              (λ k d within also. absurd (both_ways (p (get_or xs k d)) (once 0 (suc k) d (omega arith) (omega arith) hit) also)),
        )
    | inr miss ↦
        let rest = found_alone xs x (λ i j d before within. once (suc i) (suc j) d (omega arith) (omega arith)) (sym (cond-false (p y) (Some y) (find p xs) miss) ∙ is) in
        (rest.0, All-cons (λ z. p z ≡ true → z ≡ x) y xs (λ hit. absurd (both_ways (p y) miss hit)) rest.1)
  ]

-- If all pairs are in the relation, every other element is in the relation to the last one.
pub to_last : {X : Type 0} (R : X → X → Type 0) (xs : List X) (x : X) → AllPairs R (xs ++ x ∷ []) → All (λ y. R y x) xs
to_last R xs x pairs k d within =
    let there = pairs k (length xs) d within (omega (arith, length_push xs x)) in
    subst (λ y. R y x) (get_or_append_left xs (x ∷ []) d k within) (subst (R (get_or (xs ++ x ∷ []) k d)) (get_or_push xs x d (length xs) refl) there)

-- The index of the element that a look-up finds doesn't change if elements are appended.
pub place_kept : {X : Type 0} (p : X → Bool) (xs ys : List X) (x : X) → find p xs ≡ Some x → position_or_len p (xs ++ ys) ≡ position_or_len p xs
place_kept p [] ys x is = absurd (none-some x is)
place_kept p (y ∷ xs) ys x is = elim (cases_Bool (p y)) [
  | inl hit ↦ ap (λ b. cond (not b) (1 + position_or_len p (xs ++ ys)) 0) hit ∙ sym (ap (λ b. cond (not b) (1 + position_or_len p xs) 0) hit)
  | inr miss ↦
      let rest : find p xs ≡ Some x = sym (cond-false (p y) (Some y) (find p xs) miss) ∙ is in
      ap (λ n. cond (not (p y)) (1 + n) 0) (place_kept p xs ys x rest)
]
