-- A list is compared with a mapped list, element by element.
use Rattle.std.proofs.Common.{◌≡◌, ℕ, zero, suc, ◌+◌, ◌<◌, ◌≤◌, Bool, true, cond, List, [], ◌∷◌, ◌++◌, length, take, get_or, map, All, refl, sym, ap, ◌∙◌, subst, arith, inl, inr}
use Rattle.std.specs.Prelude.{AllPairs, filter}
use Rattle.std.proofs.lemmas.Bool.{cases_lt}
use Rattle.std.proofs.lemmas.List.{get_or-take, get_or_default, length-map, length-take, map-append, map-id, same_lists, take_all, take_more}
use Rattle.std.proofs.lemmas.List.Quantifiers.{all_pairs_push}
use Rattle.std.proofs.lemmas.List.Elements.{All-more, filter_more}

-- the element of the mapped list at index `k`
pub get_or-map : {X Y : Type 0} (f : X → Y) (xs : List X) (k : ℕ) (d : X) (e : Y) → k < length xs → get_or (map f xs) k e ≡ f (get_or xs k d)
get_or-map f [] k d e within = absurd (omega arith)
get_or-map f (x ∷ xs) zero d e within = refl
get_or-map f (x ∷ xs) (suc k) d e within = get_or-map f xs k d e (omega arith)

module _ {X Y : Type 0} (f : X → Y) (xs : List X) (ys : List Y) where
  abbrev pub IsSameAt : ℕ → Type 0
  IsSameAt k = (d : X) (e : Y) → f (get_or xs k d) ≡ get_or ys k e

  abbrev pub AreSameBelow : ℕ → Type 0
  AreSameBelow i = (k : ℕ) → k < i → IsSameAt k

  pub same_more : (i : ℕ) → AreSameBelow i → IsSameAt i → AreSameBelow (i + 1)
  same_more i below here = λ k within. elim (cases_lt k i) [
    | inl before ↦ below k before
    | inr after ↦ let is : k ≡ i = omega arith in subst IsSameAt (sym is) here
  ]

  -- equality at index `i`, from the elements there
  pub same_here : (i : ℕ) (x : X) (y : Y) → i < length xs → i < length ys → x ≡ get_or xs i x → y ≡ get_or ys i y → f x ≡ y → IsSameAt i
  same_here i x y in_xs in_ys x_is y_is same = λ d e.
      ap f (get_or_default xs i d x in_xs ∙ sym x_is) ∙ same ∙ y_is ∙ get_or_default ys i y e in_ys

  pub here_same : (i : ℕ) (x : X) (y : Y) → i < length xs → i < length ys → x ≡ get_or xs i x → y ≡ get_or ys i y → map f xs ≡ ys → f x ≡ y
  here_same i x y in_xs in_ys x_is y_is same = ap f x_is ∙ sym (get_or-map f xs i x y in_xs) ∙ ap (λ zs. get_or zs i y) same ∙ sym y_is

  pub all_same : length xs ≡ length ys → AreSameBelow (length xs) → map f xs ≡ ys
  all_same count below =
      same_lists (map f xs) ys (length-map xs f ∙ count) (λ k d within.
      let inside : k < length xs = omega (arith, length-map xs f) in
      get_or-map f xs k (first xs k inside) d inside ∙ below k inside (first xs k inside) d)
    where
      first : (xs : List X) (k : ℕ) → k < length xs → X
      first [] k within = absurd (omega arith)
      first (x ∷ xs) k within = x

  pub same_length : map f xs ≡ ys → length xs ≡ length ys
  same_length same = sym (length-map xs f) ∙ ap length same

-- A property of all elements is a property of the element at index `i`.
pub All-here : {X : Type 0} (P : X → Type 0) (xs : List X) (i : ℕ) (x : X) → i < length xs → x ≡ get_or xs i x → All P xs → P x
All-here P xs i x within is all = subst P (sym is) (all i x within)

-- The property is proved for one more element.
pub All-next : {X : Type 0} (P : X → Type 0) (xs : List X) (i : ℕ) (x : X) → i < length xs → x ≡ get_or xs i x → All P (take i xs) → P x → All P (take (i + 1) xs)
All-next P xs i x within is all here = All-more P xs i x within all (subst P is here)

pub All-done : {X : Type 0} (P : X → Type 0) (xs : List X) (i : ℕ) → length xs ≤ i → All P (take i xs) → All P xs
All-done P xs i end all = subst (All P) (take_all i xs end) all

-- equality of two lists, element by element
module _ {X : Type 0} (xs ys : List X) where
  pub all_equal : length xs ≡ length ys → AreSameBelow (λ x. x) xs ys (length xs) → xs ≡ ys
  all_equal count below = sym (map-id xs) ∙ all_same (λ x. x) xs ys count below

  pub here_equal : (i : ℕ) (x y : X) → i < length xs → i < length ys → x ≡ get_or xs i x → y ≡ get_or ys i y → xs ≡ ys → x ≡ y
  here_equal i x y in_xs in_ys x_is y_is same = here_same (λ x. x) xs ys i x y in_xs in_ys x_is y_is (map-id xs ∙ same)

-- A property of all elements of the mapped list, as a property of the elements before the map.
pub All-unmapped : {X Y : Type 0} (f : X → Y) (P : Y → Type 0) (xs : List X) → All P (map f xs) → All (λ x. P (f x)) xs
All-unmapped f P xs all = λ k d within. subst P (get_or-map f xs k d (f d) within) (all k (f d) (omega (arith, length-map xs f)))

-- ---- pairs

module _ {X : Type 0} (R : X → X → Type 0) (xs : List X) where
  pub pairs_to : (i : ℕ) (y : X) → i < length xs → y ≡ get_or xs i y → AllPairs R xs → All (λ x. R x y) (take i xs)
  pairs_to i y within is pairs = λ k d inside.
      let before : k < i = omega (arith, length-take i xs) in
      let there : get_or xs i d ≡ y = get_or_default xs i d y within ∙ sym is in
      subst (λ x. R x y) (sym (get_or-take i xs k d before)) (subst (R (get_or xs k d)) there (pairs k i d before within))

  pub pairs_more : (i : ℕ) (y : X) → i < length xs → y ≡ get_or xs i y → AllPairs R (take i xs) → All (λ x. R x y) (take i xs) → AllPairs R (take (i + 1) xs)
  pairs_more i y within is pairs to =
      subst (AllPairs R) (sym (take_more xs i y within ∙ ap (λ z. take i xs ++ z ∷ []) (sym is))) (all_pairs_push R (take i xs) y pairs (λ k d inside. to k d inside))

  pub pairs_done : (i : ℕ) → length xs ≤ i → AllPairs R (take i xs) → AllPairs R xs
  pairs_done i end pairs = subst (AllPairs R) (take_all i xs end) pairs

-- ---- a filtered list, mapped

module _ {X Y : Type 0} (f : X → Y) (p : X → Bool) (xs : List X) (i : ℕ) (x : X) (within : i < length xs) (is : x ≡ get_or xs i x) where
  one_more : filter p (take (i + 1) xs) ≡ filter p (take i xs) ++ cond (p x) (x ∷ []) []
  one_more = filter_more p xs i x within ∙ ap (λ z. filter p (take i xs) ++ cond (p z) (z ∷ []) []) (sym is)

  pub kept_more : p x ≡ true → map f (filter p (take i xs)) ++ f x ∷ [] ≡ map f (filter p (take (i + 1) xs))
  kept_more passes = sym (ap (map f) (one_more ∙ ap (λ b. filter p (take i xs) ++ cond b (x ∷ []) []) passes) ∙ map-append f (filter p (take i xs)) (x ∷ []))
