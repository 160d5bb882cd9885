-- Lists and options: lists split at one position, look-ups, lists with appended elements, and
-- mapped options.
use Rattle.std.proofs.Common.{◌≡◌, ℕ, zero, suc, ◌+◌, ◌<◌, ◌≤◌, Bool, true, false, cond, ◌||◌, ◌&&◌, List, [], ◌∷◌, ◌++◌, length, map, All, Option, Some, None, ◌⊎◌, inl, inr, ⊎_elim, refl, sym, ap, take, ◌∙◌, subst, arith}
use Rattle.std.specs.Prelude.{AllPairs, bytes_eq, count_by, filter, find, option_map, slice_get}
use Rattle.std.specs.List.{list_all, list_any}
use Rattle.std.specs.Option.{option_or}
use Rattle.std.proofs.lemmas.Bool.{and_parts, cases_Bool, cond-true, cond-false, false≢true, or_cases, or_left, or_parts, or_right}
use Rattle.std.proofs.lemmas.Bool.Decides.{nat_tests}
use Rattle.std.proofs.lemmas.List.{map-append, take-append-le, take_at}
use Rattle.std.proofs.lemmas.List.Elements.{All-nil, All-append, All-cons, All-head, All-tail, All-map, filter-append}
use Rattle.std.proofs.lemmas.List.Folds.{find-append}
use Rattle.std.proofs.lemmas.List.Kept.{AllPairs-cons}
use Rattle.std.proofs.lemmas.List.Quantifiers.{all_pairs_push}
use Rattle.std.proofs.lemmas.List.Sums.{sum_by-append, sum_by-cons}
use Rattle.std.proofs.lemmas.Option.{none-some, same_Some}
use Rattle.store_data.proofs.GroupLemmas.{bytes_eq-same, same-bytes_eq}

-- ---- a list split at one position

module _ {X : Type 0} (P : X → Type 0) where
  pub All-left : (xs ys : List X) → All P (xs ++ ys) → All P xs
  All-left [] ys all = All-nil P
  All-left (x ∷ xs) ys all = All-cons P x xs (All-head P x (xs ++ ys) all) (All-left xs ys (All-tail P x (xs ++ ys) all))

  pub All-right : (xs ys : List X) → All P (xs ++ ys) → All P ys
  All-right [] ys all = all
  All-right (x ∷ xs) ys all = All-right xs ys (All-tail P x (xs ++ ys) all)

  -- another element at the position
  pub All-at : (xs ys : List X) (x y : X) → All P (xs ++ x ∷ ys) → P y → All P (xs ++ y ∷ ys)
  All-at xs ys x y all there = All-append P xs (y ∷ ys) (All-left xs (x ∷ ys) all) (All-cons P y ys there (All-tail P x ys (All-right xs (x ∷ ys) all)))

  -- an additional element at the position
  pub All-between : (xs ys : List X) (y : X) → All P (xs ++ ys) → P y → All P (xs ++ y ∷ ys)
  All-between xs ys y all there = All-append P xs (y ∷ ys) (All-left xs ys all) (All-cons P y ys there (All-right xs ys all))

  pub All-there : (xs ys : List X) (x : X) → All P (xs ++ x ∷ ys) → P x
  All-there xs ys x all = All-head P x ys (All-right xs (x ∷ ys) all)

module _ {X : Type 0} (R : X → X → Type 0) where
  AllPairs-head : (x : X) (xs : List X) → AllPairs R (x ∷ xs) → All (R x) xs
  AllPairs-head x xs pairs = λ k d within. pairs 0 (suc k) d (omega arith) (omega arith)

  AllPairs-tail : (x : X) (xs : List X) → AllPairs R (x ∷ xs) → AllPairs R xs
  AllPairs-tail x xs pairs = λ i j d before within. pairs (suc i) (suc j) d (omega arith) (omega arith)

  pub AllPairs-between : (xs ys : List X) (y : X) → AllPairs R (xs ++ ys) → All (λ x. R x y) xs → All (R y) ys → AllPairs R (xs ++ y ∷ ys)
  AllPairs-between [] ys y pairs to from = AllPairs-cons R y ys from pairs
  AllPairs-between (x ∷ xs) ys y pairs to from =
      AllPairs-cons R x (xs ++ y ∷ ys)
      (All-between (R x) xs ys y (AllPairs-head x (xs ++ ys) pairs) (All-head (λ z. R z y) x xs to))
      (AllPairs-between xs ys y (AllPairs-tail x (xs ++ ys) pairs) (All-tail (λ z. R z y) x xs to) from)

-- ---- look-ups

module _ {X : Type 0} (p : X → Bool) where
  -- If a property is true of all elements, it is true of the element that is found.
  pub find-All : (P : X → Type 0) (xs : List X) (x : X) → All P xs → find p xs ≡ Some x → P x
  find-All P [] x each e = absurd (none-some x e)
  find-All P (y ∷ xs) x each e = elim (cases_Bool (p y)) [
    | inl hit ↦ subst P (same_Some y x (sym (cond-true (p y) (Some y) (find p xs) hit) ∙ e)) (All-head P y xs each)
    | inr miss ↦ find-All P xs x (All-tail P y xs each) (sym (cond-false (p y) (Some y) (find p xs) miss) ∙ e)
  ]

  -- If nothing is found, all elements fail the test.
  pub find-None : (xs : List X) → find p xs ≡ None → All (λ x. p x ≡ false) xs
  find-None [] e = All-nil (λ x. p x ≡ false)
  find-None (y ∷ xs) e = elim (cases_Bool (p y)) [
    | inl hit ↦ absurd (none-some y (sym e ∙ cond-true (p y) (Some y) (find p xs) hit))
    | inr miss ↦ All-cons (λ x. p x ≡ false) y xs miss (find-None xs (sym (cond-false (p y) (Some y) (find p xs) miss) ∙ e))
  ]

  -- An element that is found is also found after more elements are appended.
  pub find_kept : (xs ys : List X) (x : X) → find p xs ≡ Some x → find p (xs ++ ys) ≡ Some x
  find_kept xs ys x e = find-append p xs ys ∙ ap (λ o. option_or o (find p ys)) e

  -- ---- counts and tests in a list split at one position

  pub count_by-at : (xs ys : List X) (x : X) → count_by p (xs ++ x ∷ ys) ≡ count_by p xs + (cond (p x) 1 0 + count_by p ys)
  count_by-at xs ys x = sum_by-append (λ z. cond (p z) 1 0) xs (x ∷ ys) ∙ ap (λ n. count_by p xs + n) (sum_by-cons (λ z. cond (p z) 1 0) x ys)

  pub count_by_any : (xs : List X) → list_any p xs ≡ true → 1 ≤ count_by p xs
  count_by_any [] some = absurd (false≢true some)
  count_by_any (x ∷ xs) some =
      let sum = sum_by-cons (λ z. cond (p z) 1 0) x xs in
      elim (cases_Bool (p x)) [
        | inl hit ↦
            let one : cond {A = ℕ} (p x) 1 0 ≡ 1 = cond-true {A = ℕ} (p x) 1 0 hit in
            omega arith
        | inr miss ↦
            let rest : 1 ≤ count_by p xs = count_by_any xs (sym (ap (λ b. b || list_any p xs) miss) ∙ some) in
            omega arith
      ]

  pub count_by_none : (xs : List X) → list_any p xs ≡ false → count_by p xs ≡ 0
  count_by_none [] none = refl
  count_by_none (x ∷ xs) none =
      let parts = or_parts (p x) (list_any p xs) none in
      let here : cond {A = ℕ} (p x) 1 0 ≡ 0 = cond-false {A = ℕ} (p x) 1 0 parts.0 in
      omega (arith, sum_by-cons (λ z. cond (p z) 1 0) x xs, here, count_by_none xs parts.1)

  pub list_any-there : (xs ys : List X) (x : X) → p x ≡ true → list_any p (xs ++ x ∷ ys) ≡ true
  list_any-there [] ys x hit = ap (λ b. b || list_any p ys) hit
  list_any-there (z ∷ xs) ys x hit = grind (arith, nat_tests, list_any-there xs ys x hit)

  -- the results of a map and a filter in a list split at one position
  pub map_filter-at : {Y : Type 0} (g : X → Y) (xs ys : List X) (x : X)
      → map g (filter p (xs ++ x ∷ ys)) ≡ map g (filter p xs) ++ cond (p x) (g x ∷ map g (filter p ys)) (map g (filter p ys))
  map_filter-at g xs ys x =
      ap (map g) (filter-append p xs (x ∷ ys)) ∙ map-append g (filter p xs) (filter p (x ∷ ys))
      ∙ elim (cases_Bool (p x)) [ inl hit ↦ rw hit | inr miss ↦ rw miss ]

pub item_there : {X : Type 0} (xs : List X) (i : ℕ) → i < length xs → (x : X) × (slice_get xs i ≡ Some x)
item_there [] i within = absurd (omega arith)
item_there (x ∷ xs) zero within = (x, refl)
item_there (x ∷ xs) (suc i) within = item_there xs i (omega arith)

pub slice_get-append_left : {X : Type 0} (xs ys : List X) (k : ℕ) → k < length xs → slice_get (xs ++ ys) k ≡ slice_get xs k
slice_get-append_left [] ys k within = absurd (omega arith)
slice_get-append_left (x ∷ xs) ys zero within = refl
slice_get-append_left (x ∷ xs) ys (suc k) within = slice_get-append_left xs ys k (omega arith)

-- A name that is found passes the test and is in the list.
pub found_among : (q : List ℕ → Bool) (names : List (List ℕ)) (n : List ℕ) → find q names ≡ Some n → (q n ≡ true) × (list_any (bytes_eq n) names ≡ true)
found_among q [] n found = absurd (none-some n found)
found_among q (m ∷ names) n found = elim (cases_Bool (q m)) [
  | inl hit ↦
      let same : m ≡ n = same_Some m n (sym (cond-true (q m) (Some m) (find q names) hit) ∙ found) in
      (sym (ap q same) ∙ hit, or_left (bytes_eq n m) (list_any (bytes_eq n) names) (ap (λ k. bytes_eq n k) same ∙ bytes_eq-same n))
  | inr miss ↦
      let rest = found_among q names n (sym (cond-false (q m) (Some m) (find q names) miss) ∙ found) in
      (rest.0, or_right (bytes_eq n m) (list_any (bytes_eq n) names) rest.1)
]

-- If all names pass the test, a name in the list passes it.
pub passes_among : (q : List ℕ → Bool) (names : List (List ℕ)) (n : List ℕ) → list_all q names ≡ true → list_any (bytes_eq n) names ≡ true → q n ≡ true
passes_among q [] n all there = absurd (false≢true there)
passes_among q (m ∷ names) n all there =
    let parts = and_parts (q m) (list_all q names) all in
    elim (or_cases (bytes_eq n m) (list_any (bytes_eq n) names) there) [
      | inl here ↦ ap q (same-bytes_eq n m here) ∙ parts.0
      | inr later ↦ passes_among q names n parts.1 later
    ]

-- a new name after names that are all different
pub named_once_push : {X : Type 0} (key : X → List ℕ) (xs : List X) (x : X) → AllPairs (λ m n. bytes_eq m n ≡ false) (map key xs)
    → find (λ y. bytes_eq (key y) (key x)) xs ≡ None → AllPairs (λ m n. bytes_eq m n ≡ false) (map key (xs ++ x ∷ []))
named_once_push key xs x once new =
    let others = All-map (λ m. bytes_eq m (key x) ≡ false) key xs (find-None (λ y. bytes_eq (key y) (key x)) xs new) in
    subst (AllPairs (λ m n. bytes_eq m n ≡ false)) (sym (map-append key xs (x ∷ [])))
    (all_pairs_push (λ m n. bytes_eq m n ≡ false) (map key xs) (key x) once others)

-- ---- functions that are equal for each element

pub map_same : {X Y : Type 0} (f g : X → Y) (xs : List X) → All (λ x. f x ≡ g x) xs → map f xs ≡ map g xs
map_same f g [] same = refl
map_same f g (x ∷ xs) same =
    let head : f x ≡ g x = All-head (λ y. f y ≡ g y) x xs same in
    let tail : map f xs ≡ map g xs = map_same f g xs (All-tail (λ y. f y ≡ g y) x xs same) in
    cc

pub list_all_same : {X : Type 0} (p q : X → Bool) (xs : List X) → All (λ x. p x ≡ q x) xs → list_all p xs ≡ list_all q xs
list_all_same p q [] same = refl
list_all_same p q (x ∷ xs) same =
    let head : p x ≡ q x = All-head (λ y. p y ≡ q y) x xs same in
    let tail : list_all p xs ≡ list_all q xs = list_all_same p q xs (All-tail (λ y. p y ≡ q y) x xs same) in
    ap (λ b. b && list_all p xs) head ∙ ap (λ b. q x && b) tail

pub count_by_same : {X : Type 0} (p q : X → Bool) (xs : List X) → All (λ x. p x ≡ q x) xs → count_by p xs ≡ count_by q xs
count_by_same p q [] same = refl
count_by_same p q (x ∷ xs) same =
    let head : p x ≡ q x = All-head (λ y. p y ≡ q y) x xs same in
    let tail : count_by p xs ≡ count_by q xs = count_by_same p q xs (All-tail (λ y. p y ≡ q y) x xs same) in
    sum_by-cons (λ y. cond (p y) 1 0) x xs ∙ ap (λ b. cond b 1 0 + count_by p xs) head ∙ ap (λ n. cond (q x) 1 0 + n) tail
    ∙ sym (sum_by-cons (λ y. cond (q y) 1 0) x xs)

-- ---- mapped options

-- A mapped value has an original value.
pub mapped : {X Y : Type 0} (h : X → Y) (o : Option X) (y : Y) → option_map h o ≡ Some y → (x : X) × (o ≡ Some x) × (h x ≡ y)
mapped h None y e = absurd (none-some y e)
mapped h (Some x) y e = (x, refl, same_Some (h x) y e)

pub unmapped : {X Y : Type 0} (h : X → Y) (o : Option X) → option_map h o ≡ None → o ≡ None
unmapped h None e = refl
unmapped h (Some x) e = absurd (none-some (h x) (sym e))

-- ---- positions in a list with appended elements

slice_get_push : {X : Type 0} (xs : List X) (x y : X) (i : ℕ) → slice_get (xs ++ x ∷ []) i ≡ Some y → ((i < length xs) × (slice_get xs i ≡ Some y)) ⊎ ((i ≡ length xs) × (x ≡ y))
slice_get_push [] x y zero is = inr (refl, same_Some x y is)
slice_get_push [] x y (suc i) is = absurd (none-some y is)
slice_get_push (z ∷ xs) x y zero is = inl (omega arith, is)
slice_get_push {X = X} (z ∷ xs) x y (suc i) is =
    ⊎_elim (λ (p : (i < length xs) × (slice_get xs i ≡ Some y)). inl (omega (arith, p.0), p.1)) (λ (p : (i ≡ length xs) × (x ≡ y)). inr (ap suc p.0, p.1)) (slice_get_push xs x y i is)

-- A property of each element and the elements before it, after one more element is appended.
pub each_more : {X : Type 0} (P : List X → X → Type 0) (xs : List X) (x : X)
    → ((i : ℕ) (y : X) → slice_get xs i ≡ Some y → P (take i xs) y) → P xs x
    → (i : ℕ) (y : X) → slice_get (xs ++ x ∷ []) i ≡ Some y → P (take i (xs ++ x ∷ [])) y
each_more {X = X} P xs x each last i y is =
    ⊎_elim
    (λ (p : (i < length xs) × (slice_get xs i ≡ Some y)). subst (λ (l : List X). P l y) (sym (take-append-le i xs (x ∷ []) (omega (arith, p.0)))) (each i y p.1))
    (λ (p : (i ≡ length xs) × (x ≡ y)). subst (λ (l : List X). P l y) (sym (take_at xs (x ∷ []) i (sym p.0))) (subst (P xs) p.1 last))
    (slice_get_push xs x y i is)
