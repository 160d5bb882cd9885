-- Look-ups by a key in lists that are mapped, numbered or concatenated.
use Rattle.std.proofs.Common.{◌≡◌, ℕ, zero, suc, ◌+◌, ◌<◌, ◌≤◌, ◌==◌, ◌&&◌, ◌||◌, Bool, true, false, cond, List, [], ◌∷◌, ◌++◌, get_or, map, All, Option, Some, None, inl, inr, refl, sym, ap, ◌∙◌, arith}
use Rattle.std.specs.Prelude.{AllPairs, count_by, filter, find, option_map, slice_get, unwrap_or}
use Rattle.std.specs.List.{enumerate_from, flat_map, list_any, position_or_len}
use Rattle.std.specs.Option.{option_or}
use Rattle.std.proofs.Math.Bool.{or-false}
use Rattle.std.proofs.lemmas.Bool.{and_left, both_ways, cases_Bool, cond-false, cond-true}
use Rattle.std.proofs.lemmas.Bool.Decides.{nat_tests}
use Rattle.std.proofs.lemmas.List.{append-nil}
use Rattle.std.proofs.lemmas.List.Elements.{All-append, All-cons, All-head, All-map, All-nil, All-tail, filter-append}
use Rattle.std.proofs.lemmas.List.Folds.{find-append, list_any_none}
use Rattle.std.proofs.lemmas.List.Kept.{AllPairs-cons}
use Rattle.std.proofs.lemmas.List.Sums.{sum_by-cons}
use Rattle.store_data.proofs.FaultLemmas.{All-from_map}
use Rattle.job_facts.proofs.Lists.{find-All}
use Rattle.table_rows.specs.Tables.{PassesOnce}
use Rattle.table_rows.proofs.Found.{filter_none, find_none}
use Rattle.image_laws.proofs.Lists.{All-joined, All-numbered}

pub option_map-map : {X Y Z : Type 0} (g : Y → Z) (h : X → Y) (o : Option X) → option_map g (option_map h o) ≡ option_map (λ x. g (h x)) o
option_map-map g h None = refl
option_map-map g h (Some x) = refl

-- ---- pairs of elements

module _ {X : Type 0} (R : X → X → Type 0) where
  pairs_tail : (x : X) (xs : List X) → AllPairs R (x ∷ xs) → AllPairs R xs
  pairs_tail x xs pairs = λ i j d before within. pairs (suc i) (suc j) d (omega arith) (omega arith)

  pairs_head : (x : X) (xs : List X) → AllPairs R (x ∷ xs) → All (R x) xs
  pairs_head x xs pairs = λ k d within. pairs 0 (suc k) d (omega arith) (omega arith)

  pairs_nil : AllPairs R []
  pairs_nil = λ i j d before within. absurd (omega arith)

  pub AllPairs-append : (xs ys : List X) → AllPairs R xs → AllPairs R ys → All (λ x. All (R x) ys) xs → AllPairs R (xs ++ ys)
  AllPairs-append [] ys left right across = right
  AllPairs-append (x ∷ xs) ys left right across =
      AllPairs-cons R x (xs ++ ys)
      (All-append (R x) xs ys (pairs_head x xs left) (All-head (λ z. All (R z) ys) x xs across))
      (AllPairs-append xs ys (pairs_tail x xs left) right (All-tail (λ z. All (R z) ys) x xs across))

  pub AllPairs-map : {W : Type 0} (f : W → X) (ws : List W) → AllPairs (λ v w. R (f v) (f w)) ws → AllPairs R (map f ws)
  AllPairs-map f [] pairs = pairs_nil
  AllPairs-map f (w ∷ ws) pairs =
      AllPairs-cons R (f w) (map f ws) (All-map (R (f w)) f ws (λ k d within. pairs 0 (suc k) d (omega arith) (omega arith)))
      (AllPairs-map f ws (λ i j d before within. pairs (suc i) (suc j) d (omega arith) (omega arith)))

  pub AllPairs-from_map : {W : Type 0} (f : W → X) (ws : List W) → AllPairs R (map f ws) → AllPairs (λ v w. R (f v) (f w)) ws
  AllPairs-from_map f [] pairs = λ i j d before within. absurd (omega arith)
  AllPairs-from_map f (w ∷ ws) pairs =
      AllPairs-cons (λ v w. R (f v) (f w)) w ws (All-from_map f (R (f w)) ws (pairs_head (f w) (map f ws) pairs)) (AllPairs-from_map f ws (pairs_tail (f w) (map f ws) pairs))

  -- the pairs of concatenated lists, if every element of an earlier list is in relation to every
  -- element of a later one
  pub AllPairs-joined : {W : Type 0} (Q : W → W → Type 0) (g : W → List X) → ((w : W) → AllPairs R (g w)) → ((v w : W) → Q v w → All (λ x. All (R x) (g w)) (g v))
      → (ws : List W) → AllPairs Q ws → AllPairs R (flat_map g ws)
  AllPairs-joined Q g own across [] pairs = pairs_nil
  AllPairs-joined Q g own across (w ∷ ws) pairs =
      AllPairs-append (g w) (flat_map g ws) (own w) (AllPairs-joined Q g own across ws (λ i j d before within. pairs (suc i) (suc j) d (omega arith) (omega arith)))
      (λ k d within. All-joined (R (get_or (g w) k d)) g ws (λ i e inside. across w (get_or ws i e) (pairs 0 (suc i) e (omega arith) (omega arith)) k d within))

  -- the pairs of a numbered list
  pub AllPairs-numbered : (n : ℕ) (xs : List X) → AllPairs R xs → AllPairs (λ (d e : ℕ × X). R d.1 e.1) (enumerate_from n xs)
  AllPairs-numbered n [] pairs = λ i j d before within. absurd (omega arith)
  AllPairs-numbered n (x ∷ xs) pairs =
      AllPairs-cons (λ (d e : ℕ × X). R d.1 e.1) (n, x) (enumerate_from (n + 1) xs) (All-numbered (R x) (n + 1) xs (pairs_head x xs pairs))
      (AllPairs-numbered (n + 1) xs (pairs_tail x xs pairs))

-- ---- filters and look-ups

module _ {X : Type 0} (p : X → Bool) where
  pub filter_all : (xs : List X) → All (λ x. p x ≡ true) xs → filter p xs ≡ xs
  filter_all [] all = refl
  filter_all (x ∷ xs) all =
      let hit : p x ≡ true = All-head (λ y. p y ≡ true) x xs all in
      cond-true (p x) (x ∷ filter p xs) (filter p xs) hit ∙ ap (λ ys. x ∷ ys) (filter_all xs (All-tail (λ y. p y ≡ true) x xs all))

  -- Two predicates that agree on all elements find the same element.
  pub find_alike : (q : X → Bool) (xs : List X) → All (λ x. p x ≡ q x) xs → find p xs ≡ find q xs
  find_alike q [] alike = refl
  find_alike q (x ∷ xs) alike =
      ap (λ b. cond b (Some x) (find p xs)) (All-head (λ y. p y ≡ q y) x xs alike) ∙ ap (cond (q x) (Some x)) (find_alike q xs (All-tail (λ y. p y ≡ q y) x xs alike))

  pub find-filter : (q : X → Bool) (xs : List X) → find p (filter q xs) ≡ find (λ x. q x && p x) xs
  find-filter q [] = refl
  find-filter q (x ∷ xs) = elim (q x) as (λ b. find p (cond b (x ∷ filter q xs) (filter q xs)) ≡ cond (b && p x) (Some x) (find (λ y. q y && p y) xs)) [
    | true ↦ ap (cond (p x) (Some x)) (find-filter q xs)
    | false ↦ find-filter q xs
  ]

  -- An element satisfies `p` and `q` if and only if the only element that satisfies `p` satisfies
  -- `q`.
  pub any_beside : (q : X → Bool) (xs : List X) → PassesOnce p xs → list_any (λ x. p x && q x) xs ≡ unwrap_or (option_map q (find p xs)) false
  any_beside q [] once = refl
  any_beside q (x ∷ xs) once = elim (cases_Bool (p x)) [
    | inl hit ↦
        let none : list_any (λ y. p y && q y) xs ≡ false = list_any_none (λ y. p y && q y) xs (λ k d within. and_left _ _ (once 0 (suc k) d (omega arith) (omega arith) hit)) in
        rw hit (ap (λ b. q x || b) none ∙ or-false (q x))
    | inr miss ↦ rw miss (any_beside q xs (λ i j d before within. once (suc i) (suc j) d (omega arith) (omega arith)))
  ]

  -- If the element that `q` finds is the only one that satisfies `p`, then `p` also finds it.
  pub found_also : (q : X → Bool) (xs : List X) (x : X) → PassesOnce p xs → find q xs ≡ Some x → p x ≡ true → find p xs ≡ Some x
  found_also q [] x once is passes = absurd (cc)
  found_also q (y ∷ xs) x once is passes = elim (cases_Bool (q y)) [
    | inl here ↦
        let same : y ≡ x = cc (cond-true (q y) (Some y) (find q xs) here) in
        cond-true (p y) (Some y) (find p xs) (ap p same ∙ passes) ∙ ap Some same
    | inr other ↦
        let later : find q xs ≡ Some x = sym (cond-false (q y) (Some y) (find q xs) other) ∙ is in
        elim (cases_Bool (p y)) [
          | inl hit ↦
              let none : All (λ z. p z ≡ false) xs = λ k d within. once 0 (suc k) d (omega arith) (omega arith) hit in
              absurd (both_ways (p x) (find-All q (λ z. p z ≡ false) xs x none later) passes)
          | inr miss ↦
              cond-false (p y) (Some y) (find p xs) miss ∙ found_also q xs x (λ i j d before within. once (suc i) (suc j) d (omega arith) (omega arith)) later passes
        ]
  ]

  pub none_counted : (xs : List X) → count_by p xs ≡ 0 → All (λ x. p x ≡ false) xs
  none_counted [] none = All-nil (λ x. p x ≡ false)
  none_counted (x ∷ xs) none =
      let sum = sum_by-cons (λ y. cond {A = ℕ} (p y) 1 0) x xs in
      elim (cases_Bool (p x)) [
        | inl hit ↦ let one : cond {A = ℕ} (p x) 1 0 ≡ 1 = cond-true {A = ℕ} (p x) 1 0 hit in absurd (omega arith)
        | inr miss ↦ All-cons (λ y. p y ≡ false) x xs miss (none_counted xs (omega arith))
      ]

  -- A count of at most 1 means that at most one element satisfies `p`.
  pub once_from_count : (xs : List X) → count_by p xs ≤ 1 → PassesOnce p xs
  once_from_count [] few = λ i j d before within. absurd (omega arith)
  once_from_count (x ∷ xs) few =
      let sum = sum_by-cons (λ y. cond {A = ℕ} (p y) 1 0) x xs in
      let alone : X → X → Type 0 = λ y z. p y ≡ true → p z ≡ false in
      elim (cases_Bool (p x)) [
        | inl hit ↦
            let one : cond {A = ℕ} (p x) 1 0 ≡ 1 = cond-true {A = ℕ} (p x) 1 0 hit in
            let none = none_counted xs (omega arith) in
            AllPairs-cons alone x xs (λ k d within passes. none k d within) (once_from_count xs (omega arith))
        | inr miss ↦ AllPairs-cons alone x xs (λ k d within passes. absurd (both_ways (p x) miss passes)) (once_from_count xs (omega arith))
      ]

-- ---- mapped lists

module _ {X Y : Type 0} (p : Y → Bool) (f : X → Y) where
  pub find-map : (xs : List X) → find p (map f xs) ≡ option_map f (find (λ x. p (f x)) xs)
  find-map [] = refl
  find-map (x ∷ xs) = elim (cases_Bool (p (f x))) [ inl hit ↦ rw hit refl | inr miss ↦ rw miss (find-map xs) ]

-- ---- numbered lists

module _ {X : Type 0} where
  -- a look-up by number
  pub number_found : (m i n : ℕ) (xs : List X) → m ≡ n + i → find (λ (e : ℕ × X). e.0 == m) (enumerate_from n xs) ≡ option_map (λ x. (m, x)) (slice_get xs i)
  number_found m i n [] is = refl
  number_found m zero n (x ∷ xs) is =
      let hit : (n == m) ≡ true = grind (arith, nat_tests) in
      let same : n ≡ m = omega arith in
      cond-true (n == m) (Some (n, x)) (find (λ (e : ℕ × X). e.0 == m) (enumerate_from (n + 1) xs)) hit ∙ ap (λ k. Some (k, x)) same
  number_found m (suc i) n (x ∷ xs) is =
      let miss : (n == m) ≡ false = grind (arith, nat_tests) in
      cond-false (n == m) (Some (n, x)) (find (λ (e : ℕ × X). e.0 == m) (enumerate_from (n + 1) xs)) miss ∙ number_found m i (n + 1) xs (omega arith)

  pub number_before : (m n : ℕ) (xs : List X) → m < n → find (λ (e : ℕ × X). e.0 == m) (enumerate_from n xs) ≡ None
  number_before m n [] less = refl
  number_before m n (x ∷ xs) less =
      let miss : (n == m) ≡ false = grind (arith, nat_tests) in
      cond-false (n == m) (Some (n, x)) (find (λ (e : ℕ × X). e.0 == m) (enumerate_from (n + 1) xs)) miss ∙ number_before m (n + 1) xs (omega arith)

  -- Each number occurs at most once.
  pub number_once : (m n : ℕ) (xs : List X) → PassesOnce (λ (e : ℕ × X). e.0 == m) (enumerate_from n xs)
  number_once m n [] = λ i j d before within. absurd (omega arith)
  number_once m n (x ∷ xs) =
      AllPairs-cons (λ (d e : ℕ × X). (d.0 == m) ≡ true → (e.0 == m) ≡ false) (n, x) (enumerate_from (n + 1) xs)
      (later n m (n + 1) xs (omega arith)) (number_once m (n + 1) xs)
    where
      later : (k m n : ℕ) (xs : List X) → k < n → All (λ (e : ℕ × X). (k == m) ≡ true → (e.0 == m) ≡ false) (enumerate_from n xs)
      later k m n [] less = All-nil (λ (e : ℕ × X). (k == m) ≡ true → (e.0 == m) ≡ false)
      later k m n (x ∷ xs) less =
          All-cons (λ (e : ℕ × X). (k == m) ≡ true → (e.0 == m) ≡ false) (n, x) (enumerate_from (n + 1) xs)
          (λ hit. grind (arith, nat_tests)) (later k m (n + 1) xs (omega arith))

  -- The numbers increase strictly.
  pub numbers_rise : (n : ℕ) (xs : List X) → AllPairs (λ (d e : ℕ × X). d.0 < e.0) (enumerate_from n xs)
  numbers_rise n [] = λ i j d before within. absurd (omega arith)
  numbers_rise n (x ∷ xs) =
      AllPairs-cons (λ (d e : ℕ × X). d.0 < e.0) (n, x) (enumerate_from (n + 1) xs) (later n (n + 1) xs (omega arith)) (numbers_rise (n + 1) xs)
    where
      later : (k n : ℕ) (xs : List X) → k < n → All (λ (e : ℕ × X). k < e.0) (enumerate_from n xs)
      later k n [] less = All-nil (λ (e : ℕ × X). k < e.0)
      later k n (x ∷ xs) less = All-cons (λ (e : ℕ × X). k < e.0) (n, x) (enumerate_from (n + 1) xs) less (later k (n + 1) xs (omega arith))

  pub unnumbered : (n : ℕ) (xs : List X) → map (λ (e : ℕ × X). e.1) (enumerate_from n xs) ≡ xs
  unnumbered n [] = refl
  unnumbered n (x ∷ xs) = ap (λ ys. x ∷ ys) (unnumbered (n + 1) xs)

  pub kept_numbered : (p : X → Bool) (n : ℕ) (xs : List X) → map (λ (e : ℕ × X). e.1) (filter (λ (e : ℕ × X). p e.1) (enumerate_from n xs)) ≡ filter p xs
  kept_numbered p n [] = refl
  kept_numbered p n (x ∷ xs) = elim (p x) as (λ b.
      map (λ (e : ℕ × X). e.1) (cond b ((n, x) ∷ filter (λ (e : ℕ × X). p e.1) (enumerate_from (n + 1) xs)) (filter (λ (e : ℕ × X). p e.1) (enumerate_from (n + 1) xs))) ≡ cond b (x ∷ filter p xs) (filter p xs)) [
        | true ↦ ap (λ ys. x ∷ ys) (kept_numbered p (n + 1) xs)
        | false ↦ kept_numbered p (n + 1) xs
      ]

  -- a look-up by the numbered element
  pub found_numbered : (p : X → Bool) (n : ℕ) (xs : List X) → find (λ (e : ℕ × X). p e.1) (enumerate_from n xs) ≡ option_map (λ x. (n + position_or_len p xs, x)) (find p xs)
  found_numbered p n [] = refl
  found_numbered p n (x ∷ xs) = elim (cases_Bool (p x)) [
    | inl hit ↦
        let here : n ≡ n + 0 = omega arith in
        rw hit (ap (λ k. Some (k, x)) here)
    | inr miss ↦
        let on : n + 1 + position_or_len p xs ≡ n + (1 + position_or_len p xs) = omega arith in
        rw miss (found_numbered p (n + 1) xs ∙ ap (λ k. option_map (λ y. (k, y)) (find p xs)) on)
  ]

-- ---- concatenated lists: each element has rows with its own key

module _ {X Y : Type 0} (p : Y → Bool) (q : X → Bool) (f : X → List Y) (others : (x : X) → q x ≡ false → All (λ y. p y ≡ false) (f x)) where
  none_joined : (xs : List X) → All (λ x. q x ≡ false) xs → All (λ y. p y ≡ false) (flat_map f xs)
  none_joined [] none = All-nil (λ y. p y ≡ false)
  none_joined (x ∷ xs) none =
      All-append (λ y. p y ≡ false) (f x) (flat_map f xs) (others x (All-head (λ z. q z ≡ false) x xs none)) (none_joined xs (All-tail (λ z. q z ≡ false) x xs none))

  pub once_joined : (xs : List X) → PassesOnce q xs → ((x : X) → PassesOnce p (f x)) → PassesOnce p (flat_map f xs)
  once_joined [] once each = λ i j d before within. absurd (omega arith)
  once_joined (x ∷ xs) once each =
      let alone : Y → Y → Type 0 = λ a b. p a ≡ true → p b ≡ false in
      let rest = once_joined xs (λ i j d before within. once (suc i) (suc j) d (omega arith) (omega arith)) each in
      AllPairs-append alone (f x) (flat_map f xs) (each x) rest (elim (cases_Bool (q x)) [
        | inl hit ↦
            let none = none_joined xs (λ k d within. once 0 (suc k) d (omega arith) (omega arith) hit) in
            λ i d within k e inside passes. none k e inside
        | inr miss ↦ λ i d within k e inside passes. absurd (both_ways _ (others x miss i d within) passes)
      ])

  -- A look-up finds a row of the element with this key.
  pub found_joined : (xs : List X) (x : X) → PassesOnce q xs → find q xs ≡ Some x → find p (flat_map f xs) ≡ find p (f x)
  found_joined [] x once is = absurd (cc)
  found_joined (y ∷ xs) x once is = elim (cases_Bool (q y)) [
    | inl hit ↦
        let same : y ≡ x = cc (cond-true (q y) (Some y) (find q xs) hit) in
        let none = none_joined xs (λ k d within. once 0 (suc k) d (omega arith) (omega arith) hit) in
        find-append p (f y) (flat_map f xs) ∙ ap (option_or (find p (f y))) (find_none p (flat_map f xs) none) ∙ alone (find p (f y)) ∙ ap (λ z. find p (f z)) same
    | inr miss ↦
        find-append p (f y) (flat_map f xs) ∙ ap (λ o. option_or o (find p (flat_map f xs))) (find_none p (f y) (others y miss))
        ∙ found_joined xs x (λ i j d before within. once (suc i) (suc j) d (omega arith) (omega arith)) (sym (cond-false (q y) (Some y) (find q xs) miss) ∙ is)
  ]
    where
      alone : (o : Option Y) → option_or o None ≡ o
      alone None = refl
      alone (Some y) = refl

  -- A filter keeps only rows of the element with this key.
  pub kept_joined : (xs : List X) (x : X) → PassesOnce q xs → find q xs ≡ Some x → filter p (flat_map f xs) ≡ filter p (f x)
  kept_joined [] x once is = absurd (cc)
  kept_joined (y ∷ xs) x once is = elim (cases_Bool (q y)) [
    | inl hit ↦
        let same : y ≡ x = cc (cond-true (q y) (Some y) (find q xs) hit) in
        let none = none_joined xs (λ k d within. once 0 (suc k) d (omega arith) (omega arith) hit) in
        filter-append p (f y) (flat_map f xs) ∙ ap (λ ys. filter p (f y) ++ ys) (filter_none p (flat_map f xs) none) ∙ append-nil (filter p (f y)) ∙ ap (λ z. filter p (f z)) same
    | inr miss ↦
        filter-append p (f y) (flat_map f xs) ∙ ap (λ ys. ys ++ filter p (flat_map f xs)) (filter_none p (f y) (others y miss))
        ∙ kept_joined xs x (λ i j d before within. once (suc i) (suc j) d (omega arith) (omega arith)) (sym (cond-false (q y) (Some y) (find q xs) miss) ∙ is)
  ]
