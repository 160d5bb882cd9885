-- A list that is a concatenation of pieces, which are removed from the front one by one.
use Rattle.std.proofs.Common.{◌≡◌, ℕ, ◌+◌, ◌<◌, ◌≤◌, List, [], ◌∷◌, ◌++◌, length, take, drop, get_or, sym, ap, ◌∙◌, append_assoc, append-nil}
use Rattle.std.specs.Prelude.{flat_map}
use Rattle.std.proofs.lemmas.List.{append_cancel_left, drop_more, take-append-drop, take_all, take_more}
use Rattle.std.proofs.lemmas.List.Concat.{flat_map-append}

module _ {X A : Type 0} (f : X → List A) (xs : List X) (all : List A) where
  -- After the first `i` pieces are removed, `rest` is left.
  abbrev pub Leaves : ℕ → List A → Type 0
  Leaves i rest = all ≡ flat_map f (take i xs) ++ rest

  module _ (i : ℕ) (x : X) (within : i < length xs) (at : x ≡ get_or xs i x) where
    pub one_taken : (rest more : List A) → Leaves i rest → rest ≡ f x ++ more → Leaves (i + 1) more
    one_taken rest more left is =
        left ∙ ap (λ ys. flat_map f (take i xs) ++ ys) is ∙ sym (append_assoc (flat_map f (take i xs)) (f x) more)
        ∙ ap (λ ys. ys ++ more)
        (ap (λ ys. flat_map f (take i xs) ++ ys) (sym (append-nil (f x))) ∙ sym (flat_map-append f (take i xs) (x ∷ []))
        ∙ ap (flat_map f) (sym (take_more xs i x within ∙ ap (λ y. take i xs ++ y ∷ []) (sym at))))

    pub cannot_take : (rest : List A) → Leaves i rest → ((more : List A) → rest ≡ f x ++ more → ⊥) → all ≡ flat_map f xs → ⊥
    cannot_take rest left other whole =
        let split : flat_map f xs ≡ flat_map f (take i xs) ++ (f x ++ flat_map f (drop (i + 1) xs)) =
        ap (flat_map f) (sym (take-append-drop i xs)) ∙ flat_map-append f (take i xs) (drop i xs)
        ∙ ap (λ ys. flat_map f (take i xs) ++ flat_map f ys) (drop_more xs i x within ∙ ap (λ y. y ∷ drop (i + 1) xs) (sym at)) in
        other (flat_map f (drop (i + 1) xs)) (append_cancel_left (flat_map f (take i xs)) rest (f x ++ flat_map f (drop (i + 1) xs)) (sym left ∙ whole ∙ split))

  pub none_left : (i : ℕ) (rest : List A) → length xs ≤ i → Leaves i rest → all ≡ flat_map f xs → rest ≡ []
  none_left i rest end left whole =
      append_cancel_left (flat_map f xs) rest [] (ap (λ ys. flat_map f ys ++ rest) (sym (take_all i xs end)) ∙ sym left ∙ whole ∙ sym (append-nil (flat_map f xs)))
