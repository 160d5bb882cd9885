-- Lemmas about rows with ascending numbers: reads in the order of numbers, and reads of the first
-- row.
use Rattle.std.proofs.Common.{◌≡◌, ℕ, zero, suc, ◌<◌, ◌≤◌, Bool, cond, true, false, List, [], ◌∷◌, map, length, get_or, Option, Some, None, refl, sym, ap, arith}
use Rattle.std.specs.Prelude.{AllPairs, filter, find, option_map}
use Rattle.std.proofs.lemmas.List.Elements.{at_from_Contains}
use Rattle.std.proofs.lemmas.List.Sorted.{IsPermutation-sym}
use Rattle.row_reads.specs.Extremes.{AreSorted, IsLeastBy}
use Rattle.row_laws.proofs.Finding.{AllPairs-map}
use Rattle.row_laws.proofs.InOrder.{in_order}

abbrev pub first_of : {X : Type 0} → List X → Option X
first_of [] = None
first_of (x ∷ xs) = Some x

-- `find` returns the first element that satisfies `p`
pub first_passing : {X : Type 0} (p : X → Bool) (xs : List X) → first_of (filter p xs) ≡ find p xs
first_passing p [] = refl
first_passing p (x ∷ xs) = elim (p x) as (λ b. first_of (cond b (x ∷ filter p xs) (filter p xs)) ≡ cond b (Some x) (find p xs)) [
  | true ↦ refl
  | false ↦ first_passing p xs
]

module _ {X Y : Type 0} (view : X → Y) (rank : Y → ℕ) where
  abbrev pub Rises : List X → Type 0
  Rises xs = AllPairs (λ x y. rank (view x) < rank (view y)) xs

  -- a read sorted by number returns the rows in their order
  pub read_in_order : (xs : List X) → Rises xs → (ys : List Y) → AreSorted rank (map view xs) ys → ys ≡ map view xs
  read_in_order xs rising ys sorted =
      in_order rank ys (map view xs) (IsPermutation-sym (map view xs) ys sorted.0) (λ i j d before within. sorted.1 i j d (omega (arith, before)) within)
      (AllPairs-map (λ x y. rank x < rank y) view xs rising)

  -- the row with the lowest number is the first one
  pub first_read : (xs : List X) → Rises xs → (found : Option Y) → IsLeastBy rank (map view xs) found → found ≡ option_map view (first_of xs)
  first_read [] rising None none = refl
  first_read [] rising (Some y) least = absurd (omega (arith, least.0.1))
  first_read (x ∷ xs) rising None none = absurd cc
  first_read (x ∷ xs) rising (Some y) least =
      let at = at_from_Contains (map view (x ∷ xs)) y least.0 in
      let rises : AllPairs (λ v w. rank v < rank w) (map view (x ∷ xs)) = AllPairs-map (λ v w. rank v < rank w) view (x ∷ xs) rising in
      let first : rank y ≤ rank (view x) = least.1 0 y (omega arith) in
      here at.0 at.1 (at.2 y) rises first
    where
      here : (k : ℕ) → k < length (map view (x ∷ xs)) → get_or (map view (x ∷ xs)) k y ≡ y → AllPairs (λ v w. rank v < rank w) (map view (x ∷ xs)) → rank y ≤ rank (view x) → Some y ≡ Some (view x)
      here zero within is rises first = ap (λ z. Some z) (sym is)
      here (suc k) within is rises first = absurd (omega (arith, first, ap rank is, rises 0 (suc k) y (omega arith) within))
