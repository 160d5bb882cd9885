-- Lemmas about rows sorted by a key.
use Rattle.std.proofs.Common.{◌≡◌, ◌==◌, ℕ, Bool, List, [], ◌∷◌, map, refl, sym, ap, ◌∙◌}
use Rattle.std.specs.Prelude.{filter, option_map, slice_get}
use Rattle.std.proofs.Math.Bool.{and-true}
use Rattle.std.proofs.lemmas.List.Elements.{filter_agree}
use Rattle.audit_laws.specs.Audited.{AreOrderedBy}
use Rattle.audit_order.specs.Order.{has_key}
use Rattle.audit_order.proofs.OrderLemmas.{first_rising}
use Rattle.audit_order.proofs.Pieces.{filter-map}
use Rattle.book_lines.specs.Keyed.{AreKeyed}

module _ {X : Type 0} where
  abbrev number_key : ℕ × X → List ℕ
  number_key k = k.0 ∷ 0 ∷ 0 ∷ []

  key_is : (v : ℕ) (k : ℕ × X) → (k.0 == v) ≡ has_key number_key (v ∷ 0 ∷ 0 ∷ []) k
  key_is v k = sym (and-true (k.0 == v))

  pub keyed_of : (number : X → ℕ) (rows : List X) (xs ys : List (ℕ × X)) → xs ≡ map (λ (x : X). (number x, x)) rows
      → AreOrderedBy number_key ys → ((key : List ℕ) → filter (has_key number_key key) ys ≡ filter (has_key number_key key) xs) → AreKeyed number rows ys
  keyed_of number rows xs ys is ordered stable = record {
    rising = first_rising (λ (k : ℕ × X). k.0) (λ (k : ℕ × X). 0 ∷ 0 ∷ []) ys ordered;
    found = λ v.
        let key : List ℕ = v ∷ 0 ∷ 0 ∷ [] in
        let here : ℕ × X → Bool = λ k. k.0 == v in
        let under : X → ℕ × X = λ x. (number x, x) in
        filter_agree here (has_key number_key key) (key_is v) ys ∙ stable key ∙ ap (filter (has_key number_key key)) is
        ∙ sym (filter_agree here (has_key number_key key) (key_is v) (map under rows)) ∙ filter-map here under rows;
  }

  -- the first row with a key
  pub first_under : (number : X → ℕ) (xs : List X) → option_map (λ (k : ℕ × X). k.1) (slice_get (map (λ (x : X). (number x, x)) xs) 0) ≡ slice_get xs 0
  first_under number [] = refl
  first_under number (x ∷ xs) = refl
