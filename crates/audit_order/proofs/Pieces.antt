-- A list that is sorted by a number is the concatenation of one piece for each number.
use Rattle.std.proofs.Common.{◌≡◌, ℕ, zero, suc, ◌+◌, ◌<◌, ◌≤◌, Bool, true, false, cond, not, ◌&&◌, eqb, List, [], ◌∷◌, ◌++◌, length, get_or, map, All, inl, inr, refl, sym, ap, ◌∙◌, subst, arith, append-nil}
use Rattle.std.specs.Prelude.{filter, flat_map}
use Rattle.std.specs.List.{range_with_len}
use Rattle.std.specs.List.Sorted.{IsNonDecreasingBy}
use Rattle.std.proofs.lemmas.Bool.{cases_Bool, cond-false, cond-true, false≢true}
use Rattle.std.proofs.lemmas.Bool.Decides.{nat_tests}
use Rattle.std.proofs.lemmas.List.{map-append}
use Rattle.std.proofs.lemmas.List.Elements.{All-cons, All-head, All-nil, All-tail, All-filter, filter-append, filter_passes}
use Rattle.std.proofs.lemmas.List.Folds.{flat_map-map}
use Rattle.std.proofs.lemmas.List.Kept.{IsNonDecreasingBy-filter}
use Rattle.table_rows.proofs.Found.{filter_none}
use Rattle.row_laws.proofs.Finding.{filter_all}

-- ---- filtered lists

module _ {X : Type 0} (p : X → Bool) where
  -- A property of all elements of the filtered list is a property of each element that satisfies
  -- `p`.
  pub All-passed : (P : X → Type 0) (xs : List X) → All P (filter p xs) → All (λ x. p x ≡ true → P x) xs
  All-passed P [] all = All-nil (λ x. p x ≡ true → P x)
  All-passed P (x ∷ xs) all = elim (cases_Bool (p x)) [
    | inl hit ↦
        let kept : All P (x ∷ filter p xs) = subst (All P) (cond-true (p x) (x ∷ filter p xs) (filter p xs) hit) all in
        All-cons (λ y. p y ≡ true → P y) x xs (λ passes. All-head P x (filter p xs) kept) (All-passed P xs (All-tail P x (filter p xs) kept))
    | inr miss ↦
        let kept : All P (filter p xs) = subst (All P) (cond-false (p x) (x ∷ filter p xs) (filter p xs) miss) all in
        All-cons (λ y. p y ≡ true → P y) x xs (λ passes. absurd (false≢true (sym miss ∙ passes))) (All-passed P xs kept)
  ]

  -- If `q` implies `p`, filtering by `p` before `q` changes nothing.
  pub filter-filter : (q : X → Bool) → ((x : X) → q x ≡ true → p x ≡ true) → (xs : List X) → filter q (filter p xs) ≡ filter q xs
  filter-filter q within [] = refl
  filter-filter q within (x ∷ xs) = elim (cases_Bool (p x)) [
    | inl hit ↦ ap (filter q) (cond-true (p x) (x ∷ filter p xs) (filter p xs) hit) ∙ ap (λ ys. cond (q x) (x ∷ ys) ys) (filter-filter q within xs)
    | inr miss ↦
        let other : q x ≡ false = elim (cases_Bool (q x)) [ inl passes ↦ absurd (false≢true (sym miss ∙ within x passes)) | inr fails ↦ fails ] in
        ap (filter q) (cond-false (p x) (x ∷ filter p xs) (filter p xs) miss) ∙ filter-filter q within xs
        ∙ sym (cond-false (q x) (x ∷ filter q xs) (filter q xs) other)
  ]

  -- Filtering by `q` and then by `p` keeps the elements that satisfy both.
  pub filter-both : (q : X → Bool) (xs : List X) → filter p (filter q xs) ≡ filter (λ x. q x && p x) xs
  filter-both q [] = refl
  filter-both q (x ∷ xs) = elim (q x) as (λ b. filter p (cond b (x ∷ filter q xs) (filter q xs)) ≡ cond (b && p x) (x ∷ filter (λ y. q y && p y) xs) (filter (λ y. q y && p y) xs)) [
    | true ↦ ap (λ ys. cond (p x) (x ∷ ys) ys) (filter-both q xs)
    | false ↦ filter-both q xs
  ]

  pub filter-map : {W : Type 0} (f : W → X) (ws : List W) → filter p (map f ws) ≡ map f (filter (λ w. p (f w)) ws)
  filter-map f [] = refl
  filter-map f (w ∷ ws) = elim (cases_Bool (p (f w))) [
    | inl hit ↦
        cond-true (p (f w)) (f w ∷ filter p (map f ws)) (filter p (map f ws)) hit ∙ ap (λ ys. f w ∷ ys) (filter-map f ws)
        ∙ ap (map f) (sym (cond-true (p (f w)) (w ∷ filter (λ v. p (f v)) ws) (filter (λ v. p (f v)) ws) hit))
    | inr miss ↦
        cond-false (p (f w)) (f w ∷ filter p (map f ws)) (filter p (map f ws)) miss ∙ filter-map f ws
        ∙ ap (map f) (sym (cond-false (p (f w)) (w ∷ filter (λ v. p (f v)) ws) (filter (λ v. p (f v)) ws) miss))
  ]

  pub filter-flat_map : {W : Type 0} (f : W → List X) (ws : List W) → filter p (flat_map f ws) ≡ flat_map (λ w. filter p (f w)) ws
  filter-flat_map f [] = refl
  filter-flat_map f (w ∷ ws) = filter-append p (f w) (flat_map f ws) ∙ ap (λ ys. filter p (f w) ++ ys) (filter-flat_map f ws)

pub map-flat_map : {X Y W : Type 0} (g : X → Y) (f : W → List X) (ws : List W) → map g (flat_map f ws) ≡ flat_map (λ w. map g (f w)) ws
map-flat_map g f [] = refl
map-flat_map g f (w ∷ ws) = map-append g (f w) (flat_map f ws) ∙ ap (λ ys. map g (f w) ++ ys) (map-flat_map g f ws)

-- ---- pieces of a sorted list

module _ {X : Type 0} (n : X → ℕ) where
  abbrev pub of : ℕ → X → Bool
  of v x = eqb (n x) v

  rising_tail : (x : X) (xs : List X) → IsNonDecreasingBy n (x ∷ xs) → IsNonDecreasingBy n xs
  rising_tail x xs rising = λ i j d before within. rising (suc i) (suc j) d (omega arith) (omega arith)

  abbrev pub Within : ℕ → ℕ → X → Type 0
  Within a k x = (a ≤ n x) × (n x < a + k)

  -- The list starts with the elements that have the lowest number.
  front_back : (a : ℕ) (xs : List X) → IsNonDecreasingBy n xs → All (λ x. a ≤ n x) xs → xs ≡ filter (of a) xs ++ filter (λ x. not (of a x)) xs
  front_back a [] rising least = refl
  front_back a (x ∷ xs) rising least = elim (cases_Bool (of a x)) [
    | inl hit ↦
        rw hit (ap (λ ys. x ∷ ys) (front_back a xs (rising_tail x xs rising) (All-tail (λ y. a ≤ n y) x xs least)))
    | inr miss ↦
        let above : a < n x = let here = All-head (λ y. a ≤ n y) x xs least in grind (arith, nat_tests) in
        let none : All (λ y. of a y ≡ false) xs = λ k d within. let later = rising 0 (suc k) d (omega arith) (omega arith) in grind (arith, nat_tests) in
        let all : All (λ y. not (of a y) ≡ true) xs = λ k d within. ap not (none k d within) in
        rw miss (rw (filter_none (of a) xs none) (ap (λ ys. x ∷ ys) (sym (filter_all (λ y. not (of a y)) xs all))))
  ]

  pub in_pieces : (k a : ℕ) (xs : List X) → IsNonDecreasingBy n xs → All (Within a k) xs → xs ≡ flat_map (λ i. filter (of i) xs) (range_with_len a k)
  in_pieces zero a [] rising within = refl
  in_pieces zero a (x ∷ xs) rising within = let here = All-head (Within a 0) x xs within in absurd (omega arith)
  in_pieces (suc k) a xs rising within =
      let least : All (λ x. a ≤ n x) xs = λ j d inside. (within j d inside).0 in
      let rest : List X = filter (λ x. not (of a x)) xs in
      let later : All (Within (a + 1) k) rest = λ j d inside.
      let was = All-filter (λ x. not (of a x)) (Within a (suc k)) xs within j d inside in
      let other = filter_passes (λ x. not (of a x)) xs j d inside in
      (grind (arith, nat_tests), omega arith) in
      front_back a xs rising least
      ∙ ap (λ ys. filter (of a) xs ++ ys)
      (in_pieces k (a + 1) rest (IsNonDecreasingBy-filter n (λ x. not (of a x)) xs rising) later ∙ pieces_kept a k (a + 1) (omega arith) xs)
    where
      pieces_kept : (a k b : ℕ) → a < b → (xs : List X) → flat_map (λ i. filter (of i) (filter (λ x. not (of a x)) xs)) (range_with_len b k) ≡ flat_map (λ i. filter (of i) xs) (range_with_len b k)
      pieces_kept a zero b above xs = refl
      pieces_kept a (suc k) b above xs =
          ap (λ ys. ys ++ flat_map (λ i. filter (of i) (filter (λ x. not (of a x)) xs)) (range_with_len (b + 1) k))
          (filter-filter (λ x. not (of a x)) (of b) (λ x is. grind (arith, nat_tests)) xs)
          ∙ ap (λ ys. filter (of b) xs ++ ys) (pieces_kept a k (b + 1) (omega arith) xs)

-- ---- pieces of owners with consecutive ids

module _ {X B : Type 0} (n : X → ℕ) (id : B → ℕ) where
  -- If every row has an owner, the sorted rows are the concatenation of the pieces of the owners.
  pub by_owner : (bs : List B) (xs : List X) → map id bs ≡ range_with_len 1 (length bs) → IsNonDecreasingBy n xs → All (Within n 1 (length bs)) xs
      → xs ≡ flat_map (λ b. filter (of n (id b)) xs) bs
  by_owner bs xs ids rising within =
      in_pieces n (length bs) 1 xs rising within ∙ ap (flat_map (λ i. filter (of n i) xs)) (sym ids) ∙ flat_map-map (λ i. filter (of n i) xs) id bs

  none_behind : (v : ℕ) (f : B → List X) (bs : List B) → ((b : B) → All (λ x. n x ≡ id b) (f b)) → (k a : ℕ) → map id bs ≡ range_with_len a k → v < a
      → flat_map (λ b. filter (of n v) (f b)) bs ≡ []
  none_behind v f [] own k a ids below = refl
  none_behind v f (b ∷ bs) own zero a ids below = absurd (cc)
  none_behind v f (b ∷ bs) own (suc k) a ids below =
      let first : id b ≡ a = cc in
      let others : map id bs ≡ range_with_len (a + 1) k = cc in
      let none : All (λ x. of n v x ≡ false) (f b) = λ j d inside. let here = own b j d inside in grind (arith, nat_tests) in
      ap (λ ys. ys ++ flat_map (λ b. filter (of n v) (f b)) bs) (filter_none (of n v) (f b) none) ∙ none_behind v f bs own k (a + 1) others (omega arith)

  -- In concatenated pieces, the rows with the id of an owner are the piece of this owner.
  pub own_piece : (f : B → List X) (bs : List B) → ((b : B) → All (λ x. n x ≡ id b) (f b)) → (k a : ℕ) → map id bs ≡ range_with_len a k → (i : ℕ) (d : B) → i < length bs
      → filter (of n (id (get_or bs i d))) (flat_map f bs) ≡ f (get_or bs i d)
  own_piece f bs own k a ids i d inside = filter-flat_map (of n (id (get_or bs i d))) f bs ∙ go bs k a ids i inside
    where
      go : (bs : List B) (k a : ℕ) → map id bs ≡ range_with_len a k → (i : ℕ) → i < length bs → flat_map (λ b. filter (of n (id (get_or bs i d))) (f b)) bs ≡ f (get_or bs i d)
      go [] k a ids i inside = absurd (omega arith)
      go (b ∷ bs) zero a ids i inside = absurd (cc)
      go (b ∷ bs) (suc k) a ids zero inside =
          let first : id b ≡ a = cc in
          let others : map id bs ≡ range_with_len (a + 1) k = cc in
          let all : All (λ x. of n (id b) x ≡ true) (f b) = λ j e within. let here = own b j e within in grind (arith, nat_tests) in
          ap (λ ys. ys ++ flat_map (λ c. filter (of n (id b)) (f c)) bs) (filter_all (of n (id b)) (f b) all)
          ∙ ap (λ ys. f b ++ ys) (none_behind (id b) f bs own k (a + 1) others (omega arith)) ∙ append-nil (f b)
      go (b ∷ bs) (suc k) a ids (suc i) inside =
          let others : map id bs ≡ range_with_len (a + 1) k = cc in
          let there : a < id (get_or bs i d) = let least = id_above bs k (a + 1) others i (omega arith) in omega arith in
          let first : id b ≡ a = cc in
          let none : All (λ x. of n (id (get_or bs i d)) x ≡ false) (f b) = λ j e within. let here = own b j e within in grind (arith, nat_tests) in
          ap (λ ys. ys ++ flat_map (λ c. filter (of n (id (get_or bs i d))) (f c)) bs) (filter_none (of n (id (get_or bs i d))) (f b) none)
          ∙ go bs k (a + 1) others i (omega arith)
        where
          id_above : (bs : List B) (k c : ℕ) → map id bs ≡ range_with_len c k → (i : ℕ) → i < length bs → c ≤ id (get_or bs i d)
          id_above [] k c ids i inside = absurd (omega arith)
          id_above (b ∷ bs) zero c ids i inside = absurd (cc)
          id_above (b ∷ bs) (suc k) c ids zero inside = let first : id b ≡ c = cc in omega arith
          id_above (b ∷ bs) (suc k) c ids (suc i) inside = let others : map id bs ≡ range_with_len (c + 1) k = cc in let later = id_above bs k (c + 1) others i (omega arith) in omega arith
