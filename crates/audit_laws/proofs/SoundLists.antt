-- Lists with consecutive ids, filtered lists, and sums in which only one element counts.
use Rattle.std.proofs.Common.{◌≡◌, ◌≢◌, ℕ, zero, suc, ◌+◌, ◌<◌, ◌==◌, ◌&&◌, ◌||◌, Bool, true, false, cond, List, [], ◌∷◌, length, map, drop, get_or, All, Some, inl, inr, refl, sym, ap, subst, ◌∙◌, arith}
use Rattle.std.specs.Prelude.{count_by, filter, find, option_map, slice_get, sum_by, unwrap_or}
use Rattle.std.specs.List.{enumerate_from, list_any, range_with_len}
use Rattle.std.proofs.lemmas.Bool.{cases_Bool, cond-false, cond-true}
use Rattle.std.proofs.lemmas.Bool.Decides.{nat_tests}
use Rattle.std.proofs.lemmas.List.Elements.{All-cons, All-head, All-nil, All-tail}
use Rattle.std.proofs.lemmas.List.FromFn.{get_or-enumerate_from, length-enumerate_from}
use Rattle.std.proofs.lemmas.List.Kept.{AllPairs-cons}
use Rattle.std.proofs.lemmas.List.Sums.{sum_by-cons}
use Rattle.std.proofs.lemmas.Option.{get_or_from_slice_get, none-some, same_Some, slice_get_within}
use Rattle.table_rows.specs.Tables.{PassesOnce}
use Rattle.image_laws.proofs.Places.{found_alone, once_of}
use Rattle.row_laws.proofs.Finding.{any_beside}

-- ---- numbers

pub equal : (a b : ℕ) → a ≡ b → (a == b) ≡ true
equal a b same = grind (arith, nat_tests)

pub differs : (a b : ℕ) → a ≢ b → (a == b) ≡ false
differs a b other = grind (arith, nat_tests)

pub same_number : (a b : ℕ) → (a == b) ≡ true → a ≡ b
same_number a b hit = grind (arith, nat_tests)

-- ---- consecutive ids

module _ {X : Type 0} (id : X → ℕ) where
  abbrev pub CountUp : ℕ → List X → Type 0
  CountUp n xs = map id xs ≡ range_with_len n (length xs)

  first_id : (x : X) (xs : List X) (n : ℕ) → CountUp n (x ∷ xs) → id x ≡ n
  first_id x xs n up = ap (λ ns. get_or ns 0 0) up

  other_ids : (x : X) (xs : List X) (n : ℕ) → CountUp n (x ∷ xs) → CountUp (n + 1) xs
  other_ids x xs n up = ap (drop 1) up

  pub found_at : (xs : List X) (n j : ℕ) → CountUp n xs → find (λ x. id x == n + j) xs ≡ slice_get xs j
  found_at [] n j up = refl
  found_at (x ∷ xs) n zero up =
      let first : id x ≡ n = first_id x xs n up in
      cond-true (id x == n + 0) (Some x) (find (λ y. id y == n + 0) xs) (equal (id x) (n + 0) (omega (arith, first)))
  found_at (x ∷ xs) n (suc j) up =
      let first : id x ≡ n = first_id x xs n up in
      let next : n + suc j ≡ n + 1 + j = omega arith in
      cond-false (id x == n + suc j) (Some x) (find (λ y. id y == n + suc j) xs)
      (differs (id x) (n + suc j) (λ same. omega (arith, first, same)))
      ∙ ap (λ m. find (λ y. id y == m) xs) next ∙ found_at xs (n + 1) j (other_ids x xs n up)

  later_ids : (xs : List X) (n m : ℕ) → CountUp n xs → m < n → All (λ x. (id x == m) ≡ false) xs
  later_ids [] n m up less = All-nil (λ x. (id x == m) ≡ false)
  later_ids (x ∷ xs) n m up less =
      let first : id x ≡ n = first_id x xs n up in
      All-cons (λ y. (id y == m) ≡ false) x xs (differs (id x) m (λ same. omega (arith, first, same, less)))
      (later_ids xs (n + 1) m (other_ids x xs n up) (omega (arith, less)))

  pub ids_once : (xs : List X) (n m : ℕ) → CountUp n xs → PassesOnce (λ x. id x == m) xs
  ids_once [] n m up = λ i j d before within. absurd (omega arith)
  ids_once (x ∷ xs) n m up =
      let first : id x ≡ n = first_id x xs n up in
      AllPairs-cons (λ y z. (id y == m) ≡ true → (id z == m) ≡ false) x xs
      (λ k d within hit.
      let same : id x ≡ m = same_number (id x) m hit in
      later_ids xs (n + 1) m (other_ids x xs n up) (omega (arith, first, same)) k d within)
      (ids_once xs (n + 1) m (other_ids x xs n up))

  -- A look-up of the id of an element finds this element.
  pub found_each : (xs : List X) (n : ℕ) → CountUp n xs → All (λ x. find (λ y. id y == id x) xs ≡ Some x) xs
  found_each xs n up k d within =
      let x = get_or xs k d in
      found_alone (λ y. id y == id x) xs (once_of (λ y. id y == id x) xs (ids_once xs n (id x) up)) k d within (equal (id x) (id x) refl)

  pub numbered_by : {Y : Type 0} (g : X → Y) (xs : List X) (n : ℕ) → CountUp n xs
      → enumerate_from n (map g xs) ≡ map (λ x. let e : ℕ × Y = (id x, g x) in e) xs
  numbered_by g [] n up = refl
  numbered_by {Y} g (x ∷ xs) n up =
      let more : List (ℕ × Y) = enumerate_from (n + 1) (map g xs) in
      ap (λ m. (m, g x) ∷ more) (sym (first_id x xs n up)) ∙ ap (λ es. (id x, g x) ∷ es) (numbered_by g xs (n + 1) (other_ids x xs n up))

-- ---- numbered lists

module _ {X : Type 0} where
  -- If `P` holds for each element with its number, it holds for the element at index `k`.
  pub numbered_at : (P : ℕ × X → Type 0) (n : ℕ) (xs : List X) → All P (enumerate_from n xs) → (k : ℕ) (x : X) → slice_get xs k ≡ Some x
      → P (n + k, x)
  numbered_at P n xs each k x at =
      let within = slice_get_within xs k x at in
      subst P (get_or-enumerate_from n xs k (0, x) within ∙ ap (λ y. let e : ℕ × X = (n + k, y) in e) (get_or_from_slice_get xs k x x at))
      (each k (0, x) (omega (arith, within, length-enumerate_from n xs)))

-- ---- filtered lists

module _ {X : Type 0} (keep at p : X → Bool) where
  abbrev IsAlike : X → Type 0
  IsAlike x = p x ≡ at x

  any_of_kept : (xs : List X) → All IsAlike xs → list_any p (filter keep xs) ≡ list_any (λ x. at x && keep x) xs
  any_of_kept [] alike = refl
  any_of_kept (x ∷ xs) alike =
      let here : p x ≡ at x = All-head IsAlike x xs alike in
      let rest = any_of_kept xs (All-tail IsAlike x xs alike) in
      elim (cases_Bool (keep x)) [
        | inl hit ↦ rw (hit, here) (ap (λ b. b || list_any p (filter keep xs)) (by_true (at x)) ∙ ap (λ b. (at x && true) || b) rest)
        | inr miss ↦ rw miss (rest ∙ ap (λ b. b || list_any (λ y. at y && keep y) xs) (by_false (at x)))
      ]
    where
      by_true : (b : Bool) → b ≡ (b && true)
      by_true true = refl
      by_true false = refl

      by_false : (b : Bool) → false ≡ (b && false)
      by_false true = refl
      by_false false = refl

  -- The filtered list contains an element that satisfies `p` if and only if it contains `x`, the
  -- only one.
  pub any_kept : (xs : List X) (x : X) → All IsAlike xs → PassesOnce at xs → find at xs ≡ Some x → list_any p (filter keep xs) ≡ keep x
  any_kept xs x alike once found = any_of_kept xs alike ∙ any_beside at keep xs once ∙ ap (λ o. unwrap_or (option_map keep o) false) found

-- ---- sums

-- If `p` is `b` for every element of the mapped list, it counts all of them or none of them.
pub count_alike : {X Y : Type 0} (p : Y → Bool) (g : X → Y) (b : Bool) → ((x : X) → p (g x) ≡ b) → (xs : List X)
    → count_by p (map g xs) ≡ cond b (length xs) 0
count_alike p g true same [] = refl
count_alike p g false same [] = refl
count_alike p g true same (x ∷ xs) =
    let here : cond {A = ℕ} (p (g x)) 1 0 ≡ 1 = ap (λ b. cond {A = ℕ} b 1 0) (same x) in
    let rest : count_by p (map g xs) ≡ length xs = count_alike p g true same xs in
    omega (arith, sum_by-cons (λ y. cond {A = ℕ} (p y) 1 0) (g x) (map g xs), here, rest)
count_alike p g false same (x ∷ xs) =
    let here : cond {A = ℕ} (p (g x)) 1 0 ≡ 0 = ap (λ b. cond {A = ℕ} b 1 0) (same x) in
    let rest : count_by p (map g xs) ≡ 0 = count_alike p g false same xs in
    omega (arith, sum_by-cons (λ y. cond {A = ℕ} (p y) 1 0) (g x) (map g xs), here, rest)

module _ {X : Type 0} (at : X → Bool) (h m : X → ℕ) where
  abbrev AddsAlone : X → Type 0
  AddsAlone x = h x ≡ cond (at x) (m x) 0

  pub sum_none : (xs : List X) → All AddsAlone xs → All (λ x. at x ≡ false) xs → sum_by h xs ≡ 0
  sum_none [] adds none = refl
  sum_none (x ∷ xs) adds none =
      let here : h x ≡ 0 = All-head AddsAlone x xs adds ∙ cond-false {A = ℕ} (at x) (m x) 0 (All-head (λ y. at y ≡ false) x xs none) in
      let rest = sum_none xs (All-tail AddsAlone x xs adds) (All-tail (λ y. at y ≡ false) x xs none) in
      omega (arith, sum_by-cons h x xs, here, rest)

  pub sum_alone : (xs : List X) (x : X) → All AddsAlone xs → PassesOnce at xs → find at xs ≡ Some x → sum_by h xs ≡ m x
  sum_alone [] x adds once found = absurd (none-some x found)
  sum_alone (y ∷ xs) x adds once found =
      let sum = sum_by-cons h y xs in
      let here = All-head AddsAlone y xs adds in
      let others = All-tail AddsAlone y xs adds in
      elim (cases_Bool (at y)) [
        | inl hit ↦
            let same : y ≡ x = same_Some y x (sym (cond-true (at y) (Some y) (find at xs) hit) ∙ found) in
            let own : h y ≡ m y = here ∙ cond-true {A = ℕ} (at y) (m y) 0 hit in
            let none = sum_none xs others (λ k d within. once 0 (suc k) d (omega arith) (omega arith) hit) in
            let all : sum_by h (y ∷ xs) ≡ m y = omega (arith, sum, own, none) in
            all ∙ ap m same
        | inr miss ↦
            let none : h y ≡ 0 = here ∙ cond-false {A = ℕ} (at y) (m y) 0 miss in
            let rest =
            sum_alone xs x others (λ i j d before within. once (suc i) (suc j) d (omega arith) (omega arith))
            (sym (cond-false (at y) (Some y) (find at xs) miss) ∙ found) in
            omega (arith, sum, none, rest)
      ]
