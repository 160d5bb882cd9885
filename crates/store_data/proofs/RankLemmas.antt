-- Items by rank: appending an item whose rank isn't lower than the ranks before it, and the effect
-- of a stable sort.
use Rattle.std.proofs.Common.{◌≡◌, ◌≢◌, ℕ, zero, suc, ◌+◌, ◌-◌, ◌<◌, ◌≤◌, Bool, true, cond, eqb, not, ◌&&◌, ◌⊎◌, inl, inr, List, [], ◌∷◌, ◌++◌, length, get_or, filter, All, refl, sym, ap, subst, ◌∙◌, arith}
use Rattle.std.specs.List.{flat_map, range_with_len}
use Rattle.std.specs.List.Sorted.{IsNonDecreasingBy, IsPermutation, IsStableBy, ties}
use Rattle.std.specs.Ordering.{is_lt, nat_cmp}
use Rattle.std.proofs.Math.Seq.{get_or-append_seam}
use Rattle.std.proofs.lemmas.Bool.{cases_Bool, cases_lt, eq-eqb, eqb-true, ne_eqb}
use Rattle.std.proofs.lemmas.Bool.Decides.{nat_tests}
use Rattle.std.proofs.lemmas.Grind.{flat_map-append}
use Rattle.std.proofs.lemmas.List.{append-nil, length-append, get_or_append_left}
use Rattle.std.proofs.lemmas.List.Elements.{All-nil, All-cons, All-head, All-tail, All-append, All-push, filter-append, filter_agree}
use Rattle.std.proofs.lemmas.List.FromFn.{length-range_with_len}
use Rattle.std.proofs.lemmas.List.Sorted.{All-permutation}
use Rattle.store_data.specs.declared.row.Row.{Row}
use Rattle.store_data.specs.Groups.{joined_at}
use Rattle.store_data.specs.Ranks.{IsRank, ranks, group_of, of_rank, by_rank}
use Rattle.store_data.specs.Sequence.{rows_of_rank, segment_of, segments_of}

-- ---- joined lists

range_with_len_split : (a n m : ℕ) → range_with_len a (n + m) ≡ range_with_len a n ++ range_with_len (a + n) m
range_with_len_split a zero m = let e : 0 + m ≡ m = omega arith in let b : a + 0 ≡ a = omega arith in rw (e, b) refl
range_with_len_split a (suc n) m =
    let e : suc n + m ≡ suc (n + m) = omega arith in
    let b : a + suc n ≡ a + 1 + n = omega arith in
    rw (e, b) (ap (λ ks. a ∷ ks) (range_with_len_split (a + 1) n m))

flat_map-none : {X : Type 0} (f : ℕ → List X) (a n : ℕ) → ((r : ℕ) → a ≤ r → f r ≡ []) → flat_map f (range_with_len a n) ≡ []
flat_map-none f a zero none = refl
flat_map-none f a (suc n) none = rw (none a (omega arith)) (flat_map-none f (a + 1) n (λ r least. none r (omega arith)))

flat_map-below : {X : Type 0} (f g : ℕ → List X) (a n : ℕ) → ((r : ℕ) → r < a + n → f r ≡ g r) → flat_map f (range_with_len a n) ≡ flat_map g (range_with_len a n)
flat_map-below f g a zero same = refl
flat_map-below f g a (suc n) same =
    let head : f a ≡ g a = same a (omega arith) in
    let tail : flat_map f (range_with_len (a + 1) n) ≡ flat_map g (range_with_len (a + 1) n) = flat_map-below f g (a + 1) n (λ r small. same r (omega arith)) in
    cc

flat_map-same : {A X : Type 0} (f g : A → List X) → ((r : A) → f r ≡ g r) → (rs : List A) → flat_map f rs ≡ flat_map g rs
flat_map-same f g same [] = refl
flat_map-same f g same (r ∷ rs) =
    let head : f r ≡ g r = same r in
    let tail : flat_map f rs ≡ flat_map g rs = flat_map-same f g same rs in
    cc

pub flat_map-flat_map : {A B C : Type 0} (g : B → List C) (f : A → List B) (xs : List A) → flat_map g (flat_map f xs) ≡ flat_map (λ x. flat_map g (f x)) xs
flat_map-flat_map g f [] = refl
flat_map-flat_map g f (x ∷ xs) = flat_map-append g (f x) (flat_map f xs) ∙ ap (λ ys. flat_map g (f x) ++ ys) (flat_map-flat_map g f xs)

pub All-flat_map : {A B : Type 0} (P : B → Type 0) (f : A → List B) → ((x : A) → All P (f x)) → (xs : List A) → All P (flat_map f xs)
All-flat_map P f each [] = All-nil P
All-flat_map P f each (x ∷ xs) = All-append P (f x) (flat_map f xs) (each x) (All-flat_map P f each xs)

pub length-flat_map-le : {A B : Type 0} (f : A → List B) → ((x : A) → length (f x) ≤ 1) → (xs : List A) → length (flat_map f xs) ≤ length xs
length-flat_map-le f one [] = omega arith
length-flat_map-le f one (x ∷ xs) = omega (arith, length-append (f x) (flat_map f xs), one x, length-flat_map-le f one xs)

pub length-ranks : length ranks ≡ 999
unfolding ranks
length-ranks = length-range_with_len 1 999

-- ---- groups

length-group_of : {X : Type 0} (g : List X) → length (group_of g) ≤ 1
length-group_of [] = omega arith
length-group_of (x ∷ g) = omega arith

All-group_of : {X : Type 0} (P : List X → Type 0) (g : List X) → (1 ≤ length g → P g) → All P (group_of g)
All-group_of P [] holds = All-nil P
All-group_of P (x ∷ g) holds = All-cons P (x ∷ g) [] (holds (omega arith)) (All-nil P)

group_of-push : {X : Type 0} (g : List X) (x : X) → group_of (g ++ x ∷ []) ≡ (g ++ x ∷ []) ∷ []
group_of-push [] x = refl
group_of-push (y ∷ g) x = refl

-- An item is appended to the last group, or becomes a new group.
joined_at-last : {X : Type 0} (low : List (List X)) (g : List X) (x : X) → joined_at (low ++ group_of g) (length low) x ≡ low ++ (g ++ x ∷ []) ∷ []
joined_at-last [] [] x = refl
joined_at-last [] (y ∷ g) x = refl
joined_at-last (h ∷ low) g x = ap (λ gs. h ∷ gs) (joined_at-last low g x)

-- ---- the items with a rank

module _ {X : Type 0} (rank : X → ℕ) where
  of_rank-push-here : (xs : List X) (x : X) (r : ℕ) → rank x ≡ r → of_rank rank (xs ++ x ∷ []) r ≡ of_rank rank xs r ++ x ∷ []
  of_rank-push-here xs x r e =
      filter-append (λ y. eqb (rank y) r) xs (x ∷ []) ∙ ap (λ b. of_rank rank xs r ++ cond b (x ∷ []) []) (eq-eqb (rank x) r e)

  of_rank-push-other : (xs : List X) (x : X) (r : ℕ) → rank x ≢ r → of_rank rank (xs ++ x ∷ []) r ≡ of_rank rank xs r
  of_rank-push-other xs x r differ =
      filter-append (λ y. eqb (rank y) r) xs (x ∷ [])
      ∙ ap (λ b. of_rank rank xs r ++ cond b (x ∷ []) []) (ne_eqb (rank x) r differ)
      ∙ append-nil (of_rank rank xs r)

  -- No item has a rank above the highest.
  of_rank-above : (xs : List X) (k r : ℕ) → All (λ x. rank x ≤ k) xs → k < r → of_rank rank xs r ≡ []
  of_rank-above [] k r top above = refl
  of_rank-above (x ∷ xs) k r top above =
      let least : rank x ≤ k = All-head (λ y. rank y ≤ k) x xs top in
      let differ : rank x ≢ r = omega arith in
      rw (ne_eqb (rank x) r differ) (of_rank-above xs k r (All-tail (λ y. rank y ≤ k) x xs top) above)

  of_rank-within : (xs : List X) (k r : ℕ) → All (λ x. rank x ≤ k) xs → 1 ≤ length (of_rank rank xs r) → r ≤ k
  of_rank-within xs k r top some = elim (cases_lt k r) [
    | inl above ↦ absurd (omega (arith, some, ap length (of_rank-above xs k r top above)))
    | inr within ↦ within
  ]

  abbrev groups_below : ℕ → List X → List (List X)
  groups_below k xs = flat_map (λ r. group_of (of_rank rank xs r)) (range_with_len 1 (k - 1))

  -- the groups of items with ranks up to `k`
  by_rank-upto : (xs : List X) (k : ℕ) → IsRank k → All (λ x. rank x ≤ k) xs → by_rank rank xs ≡ groups_below k xs ++ group_of (of_rank rank xs k)
  unfolding by_rank ranks
  by_rank-upto xs k is top =
      let f : ℕ → List (List X) = λ r. group_of (of_rank rank xs r) in
      let whole : 999 ≡ (k - 1) + suc (999 - k) = omega (arith, is.0, is.1) in
      let place : 1 + (k - 1) ≡ k = omega (arith, is.0) in
      let above : flat_map f (range_with_len (k + 1) (999 - k)) ≡ [] = flat_map-none f (k + 1) (999 - k) (λ r least. ap group_of (of_rank-above xs k r top (omega arith))) in
      ap (λ n. flat_map f (range_with_len 1 n)) whole
      ∙ ap (flat_map f) (range_with_len_split 1 (k - 1) (suc (999 - k)))
      ∙ flat_map-append f (range_with_len 1 (k - 1)) (range_with_len (1 + (k - 1)) (suc (999 - k)))
      ∙ ap (λ a. groups_below k xs ++ flat_map f (range_with_len a (suc (999 - k)))) place
      ∙ ap (λ gs. groups_below k xs ++ (f k ++ gs)) above
      ∙ ap (λ gs. groups_below k xs ++ gs) (append-nil (f k))

  -- ---- one more item

  module _ (xs : List X) (x : X) (is : IsRank (rank x)) (top : All (λ y. rank y ≤ rank x) xs) where
    by_rank-push : by_rank rank (xs ++ x ∷ []) ≡ joined_at (by_rank rank xs) (length (groups_below (rank x) xs)) x
    by_rank-push =
        let k : ℕ = rank x in
        let same : groups_below k (xs ++ x ∷ []) ≡ groups_below k xs =
        flat_map-below (λ r. group_of (of_rank rank (xs ++ x ∷ []) r)) (λ r. group_of (of_rank rank xs r)) 1 (k - 1)
        (λ r small. let differ : k ≢ r = omega (arith, is.0) in ap group_of (of_rank-push-other xs x r differ)) in
        by_rank-upto (xs ++ x ∷ []) k is (All-push (λ y. rank y ≤ k) xs x top (omega arith))
        ∙ ap (λ low. low ++ group_of (of_rank rank (xs ++ x ∷ []) k)) same
        ∙ ap (λ g. groups_below k xs ++ group_of g) (of_rank-push-here xs x k refl)
        ∙ ap (λ gs. groups_below k xs ++ gs) (group_of-push (of_rank rank xs k) x)
        ∙ sym (joined_at-last (groups_below k xs) (of_rank rank xs k) x)
        ∙ ap (λ gs. joined_at gs (length (groups_below k xs)) x) (sym (by_rank-upto xs k is top))

  -- `groups` are the groups of `xs`, and `last` is the rank of the last item, or 0 if there are no
  -- items.
  pub record AreByRank (groups : List (List X)) (last : ℕ) (xs : List X) : Type 0 where
    pub each : groups ≡ by_rank rank xs
    pub top : All (λ x. rank x ≤ last) xs
    pub some : 1 ≤ last → 1 ≤ length (of_rank rank xs last)

  module _ (groups : List (List X)) (last : ℕ) (xs : List X) (x : X) (kept : AreByRank groups last xs) (is : IsRank (rank x)) (top : All (λ y. rank y ≤ rank x) xs) where
    many : length groups ≡ length (groups_below (rank x) xs) + length (group_of (of_rank rank xs (rank x)))
    many = ap length (kept.each ∙ by_rank-upto xs (rank x) is top) ∙ length-append (groups_below (rank x) xs) (group_of (of_rank rank xs (rank x)))

    one_there : (g : List X) → 1 ≤ length g → length (group_of g) ≡ 1
    one_there [] some = absurd (omega arith)
    one_there (y ∷ g) some = refl

    last-le : last ≤ rank x
    last-le = elim (cases_lt 0 last) [
      | inl some ↦ of_rank-within xs (rank x) last top (kept.some some)
      | inr none ↦ omega arith
    ]

    pub last_group : rank x ≡ last → length groups ≡ length (groups_below (rank x) xs) + 1
    last_group e =
        let some : 1 ≤ length (of_rank rank xs (rank x)) = subst (λ k. 1 ≤ length (of_rank rank xs k)) (sym e) (kept.some (omega (arith, is.0))) in
        omega (arith, many, one_there (of_rank rank xs (rank x)) some)

    pub new_group : rank x ≢ last → length groups ≡ length (groups_below (rank x) xs)
    new_group differ =
        let none : of_rank rank xs (rank x) ≡ [] = of_rank-above xs last (rank x) kept.top (omega (arith, last-le)) in
        omega (arith, many, ap (λ g. length (group_of g)) none)

    pub AreByRank-more : (place : ℕ) (next : List (List X)) → ((rank x ≡ last) × (place ≡ length groups - 1)) ⊎ ((rank x ≢ last) × (place ≡ length groups))
        → next ≡ joined_at groups place x → AreByRank next (rank x) (xs ++ x ∷ [])
    AreByRank-more place next which e =
        let at : place ≡ length (groups_below (rank x) xs) = elim which [
          | inl same ↦ omega (arith, same.1, last_group same.0)
          | inr other ↦ omega (arith, other.1, new_group other.0)
        ] in
        record {
          each = e ∙ ap (λ gs. joined_at gs place x) kept.each ∙ ap (λ p. joined_at (by_rank rank xs) p x) at ∙ sym (by_rank-push xs x is top);
          top = All-push (λ y. rank y ≤ rank x) xs x top (omega arith);
          some = λ _. omega (arith, ap length (of_rank-push-here xs x (rank x) refl), length-append (of_rank rank xs (rank x)) (x ∷ []));
        }

  pub AreByRank-none : (groups : List (List X)) → groups ≡ [] → AreByRank groups 0 []
  unfolding by_rank ranks
  AreByRank-none groups e = record {
    each = e ∙ sym (flat_map-none (λ r. group_of (of_rank rank [] r)) 1 999 (λ r least. refl));
    top = All-nil (λ x. rank x ≤ 0);
    some = λ some. absurd (omega arith);
  }

  -- ---- a stable sort

  -- In a sorted list, the items before `x` don't have a higher rank than `x`.
  pub sorted_top : (sorted xs : List X) (x : X) (rest : List X) → IsNonDecreasingBy rank sorted → xs ++ x ∷ rest ≡ sorted → All (λ y. rank y ≤ rank x) xs
  sorted_top sorted xs x rest rises e = λ i d within.
      let here : get_or (xs ++ x ∷ rest) (length xs) d ≡ x = get_or-append_seam xs x rest d in
      let there : get_or (xs ++ x ∷ rest) i d ≡ get_or xs i d = get_or_append_left xs (x ∷ rest) d i within in
      let inside : length xs < length (xs ++ x ∷ rest) = omega (arith, length-append xs (x ∷ rest)) in
      let order = subst (IsNonDecreasingBy rank) (sym e) rises i (length xs) d (omega arith) inside in
      rw (← there) (subst (λ y. rank (get_or (xs ++ x ∷ rest) i d) ≤ rank y) here order)

  -- the next item of a sorted list
  pub turn : (items sorted xs : List X) (x : X) (rest : List X) → All (λ y. IsRank (rank y)) items → IsPermutation items sorted → IsNonDecreasingBy rank sorted
      → xs ++ x ∷ rest ≡ sorted → IsRank (rank x) × All (λ y. rank y ≤ rank x) xs
  turn items sorted xs x rest ranked moved rises e =
      let each : All (λ y. IsRank (rank y)) sorted = All-permutation (λ y. IsRank (rank y)) items sorted moved ranked in
      let inside : length xs < length (xs ++ x ∷ rest) = omega (arith, length-append xs (x ∷ rest)) in
      let here : IsRank (rank (get_or (xs ++ x ∷ rest) (length xs) x)) = subst (All (λ y. IsRank (rank y))) (sym e) each (length xs) x inside in
      (subst (λ y. IsRank (rank y)) (get_or-append_seam xs x rest x) here, sorted_top sorted xs x rest rises e)

  passed : (p : X → Bool) (xs : List X) (y : X) (ys : List X) → filter p xs ≡ y ∷ ys → p y ≡ true
  passed p [] y ys e = cc
  passed p (x ∷ xs) y ys e = elim (cases_Bool (p x)) [
    | inl hit ↦ let first : x ∷ filter p xs ≡ y ∷ ys = sym (ap (λ b. cond b (x ∷ filter p xs) (filter p xs)) hit) ∙ e in cc
    | inr miss ↦ passed p xs y ys (sym (ap (λ b. cond b (x ∷ filter p xs) (filter p xs)) miss) ∙ e)
  ]

  abbrev lower : X → X → Bool
  lower x y = is_lt (nat_cmp (rank x) (rank y))

  -- Items with the same rank are equal in the sort order.
  ties-rank : (r s : ℕ) → (not (is_lt (nat_cmp r s)) && not (is_lt (nat_cmp s r))) ≡ eqb s r
  ties-rank r s = grind (arith, nat_tests)

  module _ (items sorted : List X) (stable : IsStableBy lower items sorted) where
    of_rank-of : (r : ℕ) (y : X) → eqb (rank y) r ≡ true → of_rank rank sorted r ≡ of_rank rank items r
    of_rank-of r y e =
        let same : rank y ≡ r = eqb-true (rank y) r e in
        let tie : (x : X) → ties lower y x ≡ eqb (rank x) r = λ x. ties-rank (rank y) (rank x) ∙ ap (eqb (rank x)) same in
        sym (filter_agree (ties lower y) (λ x. eqb (rank x) r) tie sorted) ∙ stable y ∙ filter_agree (ties lower y) (λ x. eqb (rank x) r) tie items

    of_rank-sorted : (r : ℕ) → of_rank rank sorted r ≡ of_rank rank items r
    of_rank-sorted r = by_cases (of_rank rank sorted r) (of_rank rank items r) refl refl
      where
        by_cases : (ys zs : List X) → of_rank rank sorted r ≡ ys → of_rank rank items r ≡ zs → of_rank rank sorted r ≡ of_rank rank items r
        by_cases [] [] e f = e ∙ sym f
        by_cases (y ∷ ys) zs e f = of_rank-of r y (passed (λ x. eqb (rank x) r) sorted y ys e)
        by_cases [] (z ∷ zs) e f = of_rank-of r z (passed (λ x. eqb (rank x) r) items z zs f)

    pub by_rank-sorted : by_rank rank sorted ≡ by_rank rank items
    unfolding by_rank
    by_rank-sorted = flat_map-same (λ r. group_of (of_rank rank sorted r)) (λ r. group_of (of_rank rank items r)) (λ r. ap group_of (of_rank-sorted r)) ranks

  -- ---- the groups

  -- If `P` is true of the items of each rank, it is true of each group.
  pub by_rank-each : (P : List X → Type 0) (items : List X) → ((r : ℕ) → 1 ≤ length (of_rank rank items r) → P (of_rank rank items r)) → All P (by_rank rank items)
  unfolding by_rank
  by_rank-each P items holds =
      All-flat_map P (λ r. group_of (of_rank rank items r)) (λ r. All-group_of P (of_rank rank items r) (holds r)) ranks

  pub length-by_rank : (items : List X) → length (by_rank rank items) ≤ 999
  unfolding by_rank
  length-by_rank items =
      subst (λ (n : ℕ). length (flat_map (λ r. group_of (of_rank rank items r)) ranks) ≤ n) length-ranks
      (length-flat_map-le (λ r. group_of (of_rank rank items r)) (λ r. length-group_of (of_rank rank items r)) ranks)

-- The segments of an application are the segments of its rows grouped by rank.
segment_of-group : (rows : List Row) → flat_map segment_of (group_of rows) ≡ segment_of rows
segment_of-group [] = refl
segment_of-group (row ∷ more) = append-nil (segment_of (row ∷ more))

pub segments_of-by_rank : (rows : List Row) → flat_map segment_of (by_rank (λ (row : Row). row.rank) rows) ≡ segments_of rows
unfolding by_rank segments_of
segments_of-by_rank rows =
    flat_map-flat_map segment_of (λ r. group_of (rows_of_rank rows r)) ranks
    ∙ flat_map-same (λ r. flat_map segment_of (group_of (rows_of_rank rows r))) (λ r. segment_of (rows_of_rank rows r)) (λ r. segment_of-group (rows_of_rank rows r)) ranks
