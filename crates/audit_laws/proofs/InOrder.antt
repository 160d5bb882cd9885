-- A permutation of a list with strictly increasing keys whose keys never decrease is the list
-- itself.
use Rattle.std.proofs.Common.{◌≡◌, ◌≢◌, ◌⊎◌, ℕ, zero, suc, ◌<◌, ◌==◌, ◌&&◌, ◌||◌, Bool, true, List, [], ◌∷◌, length, get_or, All, Contains, inl, inr, refl, sym, ap, ◌∙◌, subst, arith, IsPermutation}
use Rattle.std.specs.Prelude.{AllPairs, nat_lt}
use Rattle.std.proofs.lemmas.Bool.{and_from, and_parts, eq-eqb, eqb-true, false≢true, or_cases, or_left, or_right}
use Rattle.std.proofs.lemmas.Bool.Decides.{nat_tests}
use Rattle.std.proofs.lemmas.List.Elements.{All-contains, All-cons, All-head, All-tail}
use Rattle.std.proofs.lemmas.List.Kept.{AllPairs-cons}
use Rattle.std.proofs.lemmas.List.Sorted.{Contains-permutation, IsPermutation-sym}
use Rattle.step_laws.proofs.Permuted.{in_any_order}
use Rattle.audit_laws.specs.Audited.{AreOrderedBy, is_up_to}

-- ---- a property of all pairs, in another order of the list

module _ {X : Type 0} (R : X → X → Type 0) (turn : (x y : X) → R x y → R y x) where
  abbrev AreMoved : List X → List X → Type 0
  AreMoved xs ys = (AllPairs R xs → AllPairs R ys) × ((z : X) → All (R z) xs → All (R z) ys)

  first_with : (x : X) (xs : List X) → AllPairs R (x ∷ xs) → All (R x) xs
  first_with x xs pairs = λ k d within. pairs 0 (suc k) d (omega arith) (omega arith)

  others_with : (x : X) (xs : List X) → AllPairs R (x ∷ xs) → AllPairs R xs
  others_with x xs pairs = λ i j d before within. pairs (suc i) (suc j) d (omega arith) (omega arith)

  turned_first : (x y : X) (xs : List X) → AllPairs R (x ∷ y ∷ xs) → AllPairs R (y ∷ x ∷ xs)
  turned_first x y xs pairs =
      let first = first_with x (y ∷ xs) pairs in
      let rest = others_with x (y ∷ xs) pairs in
      AllPairs-cons R y (x ∷ xs) (All-cons (R y) x xs (turn x y (All-head (R x) y xs first)) (first_with y xs rest))
      (AllPairs-cons R x xs (All-tail (R x) y xs first) (others_with y xs rest))

  moved : (xs ys : List X) → IsPermutation xs ys → AreMoved xs ys
  moved = in_any_order AreMoved
      (λ xs. (λ pairs. pairs, λ z each. each))
      (λ x xs ys both. (
        λ pairs. AllPairs-cons R x ys (both.1 x (first_with x xs pairs)) (both.0 (others_with x xs pairs)),
        λ z each. All-cons (R z) x ys (All-head (R z) x xs each) (both.1 z (All-tail (R z) x xs each)),
      ))
      (λ x y xs. (
        turned_first x y xs,
        λ z each. All-cons (R z) y (x ∷ xs) (All-head (R z) y xs (All-tail (R z) x (y ∷ xs) each))
            (All-cons (R z) x xs (All-head (R z) x (y ∷ xs) each) (All-tail (R z) y xs (All-tail (R z) x (y ∷ xs) each))),
      ))
      (λ xs ys zs one two. (λ pairs. two.0 (one.0 pairs), λ z each. two.1 z (one.1 z each)))

  pub pairs_moved : (xs ys : List X) → IsPermutation xs ys → AllPairs R xs → AllPairs R ys
  pairs_moved xs ys same = (moved xs ys same).0

-- ---- lists with the same elements, each element before all later ones

module _ {X : Type 0} (Before : X → X → Type 0) (one_way : (x y : X) → Before x y → Before y x → ⊥) where
  in_rest : (x y : X) (ys : List X) → Contains (y ∷ ys) x → (y ≡ x) ⊎ Contains ys x
  in_rest x y ys there = at there.0 there.1 there.2
    where
      at : (k : ℕ) → k < length (y ∷ ys) → get_or (y ∷ ys) k x ≡ x → (y ≡ x) ⊎ Contains ys x
      at zero within is = inl is
      at (suc k) within is = inr (k, omega arith, is)

  in_more : (x z : X) (xs : List X) → Contains xs z → Contains (x ∷ xs) z
  in_more x z xs there = (suc there.0, omega (arith, there.1), there.2)

  abbrev AreIn : List X → List X → Type 0
  AreIn xs ys = (z : X) → Contains xs z → Contains ys z

  first_same : (x y : X) (xs ys : List X) → AllPairs Before (x ∷ xs) → AllPairs Before (y ∷ ys)
      → AreIn (x ∷ xs) (y ∷ ys) → AreIn (y ∷ ys) (x ∷ xs) → x ≡ y
  first_same x y xs ys left right into back = elim (in_rest x y ys (into x (0, omega arith, refl))) [
    | inl same ↦ sym same
    | inr later ↦ elim (in_rest y x xs (back y (0, omega arith, refl))) [
      | inl same ↦ same
      | inr also ↦ absurd (one_way x y (All-contains (Before x) xs y (λ k d within. left 0 (suc k) d (omega arith) (omega arith)) also)
          (All-contains (Before y) ys x (λ k d within. right 0 (suc k) d (omega arith) (omega arith)) later))
    ]
  ]

  rest_in : (x : X) (xs ys : List X) → All (Before x) xs → AreIn (x ∷ xs) (x ∷ ys) → AreIn xs ys
  rest_in x xs ys before into z there = elim (in_rest z x ys (into z (in_more x z xs there))) [
    | inl same ↦ let low : Before x z = All-contains (Before x) xs z before there in
        absurd (one_way x x (subst (Before x) (sym same) low) (subst (Before x) (sym same) low))
    | inr later ↦ later
  ]

  pub same_members : (xs ys : List X) → AllPairs Before xs → AllPairs Before ys → AreIn xs ys → AreIn ys xs → xs ≡ ys
  same_members [] [] left right into back = refl
  same_members [] (y ∷ ys) left right into back = let none = back y (0, omega arith, refl) in absurd (omega (arith, none.1))
  same_members (x ∷ xs) [] left right into back = let none = into x (0, omega arith, refl) in absurd (omega (arith, none.1))
  same_members (x ∷ xs) (y ∷ ys) left right into back =
      let same : x ≡ y = first_same x y xs ys left right into back in
      let here : All (Before x) xs = λ k d within. left 0 (suc k) d (omega arith) (omega arith) in
      let there : All (Before x) ys =
      subst (λ z. All (Before z) ys) (sym same) (λ k d within. right 0 (suc k) d (omega arith) (omega arith)) in
      let rest =
      same_members xs ys (λ i j d before within. left (suc i) (suc j) d (omega arith) (omega arith))
      (λ i j d before within. right (suc i) (suc j) d (omega arith) (omega arith))
      (rest_in x xs ys here (subst (λ z. AreIn (x ∷ xs) (z ∷ ys)) (sym same) into))
      (rest_in x ys xs there (subst (λ z. AreIn (z ∷ ys) (x ∷ xs)) (sym same) back)) in
      ap (λ zs. x ∷ zs) rest ∙ ap (λ z. z ∷ ys) same

-- ---- keys

-- The first key is less than the second, at the first number in which they differ.
abbrev pub IsBelow : List ℕ → List ℕ → Type 0
IsBelow [] ys = ⊥
IsBelow (x ∷ xs) [] = ⊥
IsBelow (x ∷ xs) (y ∷ ys) = (x < y) ⊎ ((x ≡ y) × IsBelow xs ys)

lower : (x y : ℕ) (rest : Bool) → (nat_lt x y || ((x == y) && rest)) ≡ true → (x < y) ⊎ ((x ≡ y) × (rest ≡ true))
lower x y rest up = elim (or_cases (nat_lt x y) ((x == y) && rest) up) [
  | inl less ↦ inl (grind (arith, nat_tests))
  | inr both ↦ let parts = and_parts (x == y) rest both in inr (eqb-true x y parts.0, parts.1)
]

one_key : (a b : List ℕ) → is_up_to a b ≡ true → is_up_to b a ≡ true → a ≡ b
one_key [] [] up down = refl
one_key [] (y ∷ ys) up down = absurd (false≢true down)
one_key (x ∷ xs) [] up down = absurd (false≢true up)
one_key (x ∷ xs) (y ∷ ys) up down = elim (lower x y (is_up_to xs ys) up) [
  | inl less ↦ elim (lower y x (is_up_to ys xs) down) [
    | inl more ↦ absurd (omega arith)
    | inr same ↦ absurd (omega (arith, same.0))
  ]
  | inr same ↦ elim (lower y x (is_up_to ys xs) down) [
    | inl more ↦ absurd (omega (arith, same.0))
    | inr also ↦ ap (λ z. z ∷ xs) same.0 ∙ ap (λ zs. y ∷ zs) (one_key xs ys same.1 also.1)
  ]
]

below_up : (a b : List ℕ) → IsBelow a b → is_up_to a b ≡ true
below_up [] b below = absurd below
below_up (x ∷ xs) [] below = absurd below
below_up (x ∷ xs) (y ∷ ys) (inl less) = or_left (nat_lt x y) ((x == y) && is_up_to xs ys) (grind (arith, nat_tests))
below_up (x ∷ xs) (y ∷ ys) (inr same) =
    or_right (nat_lt x y) ((x == y) && is_up_to xs ys) (and_from (x == y) (is_up_to xs ys) (eq-eqb x y same.0) (below_up xs ys same.1))

below_apart : (a b : List ℕ) → IsBelow a b → a ≢ b
below_apart a b below same = absurd (itself a (subst (IsBelow a) (sym same) below))
  where
    itself : (a : List ℕ) → IsBelow a a → ⊥
    itself [] below = below
    itself (x ∷ xs) (inl less) = omega arith
    itself (x ∷ xs) (inr same) = itself xs same.1

-- ---- rows

module _ {X : Type 0} (key : X → List ℕ) where
  abbrev IsBefore : X → X → Type 0
  IsBefore x y = (is_up_to (key x) (key y) ≡ true) × (key x ≢ key y)

  pub in_order : (xs ys : List X) → IsPermutation xs ys → AreOrderedBy key xs → AllPairs (λ x y. IsBelow (key x) (key y)) ys → xs ≡ ys
  in_order xs ys same ordered below =
      let apart : AllPairs (λ x y. key x ≢ key y) xs =
      pairs_moved (λ x y. key x ≢ key y) (λ x y differ e. differ (sym e)) ys xs (IsPermutation-sym xs ys same)
      (λ i j d before within. below_apart _ _ (below i j d before within)) in
      same_members IsBefore (λ x y up down. up.1 (one_key (key x) (key y) up.0 down.0)) xs ys
      (λ i j d before within. (ordered i j d before within, apart i j d before within))
      (λ i j d before within. (below_up _ _ (below i j d before within), below_apart _ _ (below i j d before within)))
      (λ z. Contains-permutation xs ys z same) (λ z. Contains-permutation ys xs z (IsPermutation-sym xs ys same))
