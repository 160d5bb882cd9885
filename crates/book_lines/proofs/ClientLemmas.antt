-- Lemmas about clients and their rows: adding the clients of one table after another gives all
-- clients, and the rows that are keyed by the position of a client are the rows of this client.
use Rattle.std.proofs.Common.{◌≡◌, ◌==◌, ◌&&◌, ◌+◌, ℕ, zero, suc, Bool, true, false, cond, List, [], ◌∷◌, ◌++◌, None, Some, fold, is_some, length, map, max, inl, inr, refl, sym, ap, ◌∙◌, arith}
use Rattle.std.specs.Prelude.{bytes_eq, filter, find, option_map, slice_get, unwrap_or}
use Rattle.std.specs.List.{list_any, position_or_len}
use Rattle.std.specs.Map.{update}
use Rattle.std.proofs.lemmas.Bool.{cases_Bool, or_parts}
use Rattle.std.proofs.lemmas.Bool.Decides.{nat_tests}
use Rattle.std.proofs.lemmas.List.{length-map}
use Rattle.std.proofs.lemmas.List.Elements.{filter_agree}
use Rattle.std.proofs.lemmas.List.Sums.{fold-append}
use Rattle.store_data.specs.Groups.{Distinct, first_appearances, with_key}
use Rattle.store_data.proofs.GroupLemmas.{place_at, same-bytes_eq}
use Rattle.step_laws.proofs.BlankSums.{bytes_eq_either}
use Rattle.book_lines.specs.Keyed.{AreKeyed, found_at, place_of}

module _ (ms es rs xs ys zs : List (List ℕ)) where
  pub clients_joined : xs ≡ fold with_key [] ms → ys ≡ fold with_key xs es → zs ≡ fold with_key ys rs → zs ≡ first_appearances (ms ++ es ++ rs)
  clients_joined first second third =
      third ∙ ap (λ ks. fold with_key ks rs) (second ∙ ap (λ ks. fold with_key ks es) first)
      ∙ sym (fold-append with_key [] (ms ++ es) rs ∙ ap (λ ks. fold with_key ks rs) (fold-append with_key [] ms es))

-- ---- positions

-- the first position at which `p` is true isn't a position at which it is false
not_found : {X : Type 0} (p : X → Bool) (xs : List X) (i : ℕ) (x : X) → slice_get xs i ≡ Some x → p x ≡ false → (position_or_len p xs == i) ≡ false
not_found p [] i x here miss = absurd (cc here)
not_found p (y ∷ xs) zero x here miss =
    let same : y ≡ x = ap (λ o. unwrap_or o y) here in
    let fails : p y ≡ false = ap p same ∙ miss in
    rw fails (grind (arith, nat_tests))
not_found p (y ∷ xs) (suc i) x here miss = elim (cases_Bool (p y)) [
  | inl hit ↦ rw hit (grind (arith, nat_tests))
  | inr fails ↦
      let rest : (position_or_len p xs == i) ≡ false = not_found p xs i x here miss in
      rw fails (grind (arith, nat_tests))
]

-- A client is at a position if and only if its name is the name at this position.
pub is_at : (names : List (List ℕ)) (place : ℕ) (name k : List ℕ) → Distinct names → slice_get names place ≡ Some name → (place_of names k == place) ≡ bytes_eq k name
is_at names place name k once here = elim (cases_Bool (bytes_eq k name)) [
  | inl hit ↦
      let same : k ≡ name = same-bytes_eq k name hit in
      let found : place_of names k ≡ place = ap (place_of names) same ∙ place_at names place name once here in
      let so : (place_of names k == place) ≡ true = grind (arith, nat_tests) in
      so ∙ sym hit
  | inr miss ↦ not_found (bytes_eq k) names place name here miss ∙ sym miss
]

none_is_length : (p : List ℕ → Bool) (xs : List (List ℕ)) → list_any p xs ≡ false → position_or_len p xs ≡ length xs
none_is_length p [] none = refl
none_is_length p (x ∷ xs) none =
    let parts = or_parts (p x) (list_any p xs) none in
    let rest : position_or_len p xs ≡ length xs = none_is_length p xs parts.1 in
    rw parts.0 (grind (arith, nat_tests))

-- A client that is appended is at the end, and all others stay.
found_in_rest : (p : List ℕ → Bool) (x : List ℕ) (xs : List (List ℕ))
    → cond (list_any p (x ∷ xs)) (Some (position_or_len p (x ∷ xs))) None ≡ cond (p x) (Some 0) (option_map (λ n. 1 + n) (cond (list_any p xs) (Some (position_or_len p xs)) None))
found_in_rest p x xs = elim (cases_Bool (p x)) [
  | inl hit ↦ rw hit refl
  | inr miss ↦ elim (cases_Bool (list_any p xs)) [
    | inl any ↦ rw (miss, any) refl
    | inr none ↦ rw (miss, none) refl
  ]
]

found_pushed : (p : List ℕ → Bool) (xs : List (List ℕ)) (y : List ℕ)
    → cond (list_any p (xs ++ y ∷ [])) (Some (position_or_len p (xs ++ y ∷ []))) None
    ≡ cond (list_any p xs) (Some (position_or_len p xs)) (cond (p y) (Some (length xs)) None)
found_pushed p [] y = elim (cases_Bool (p y)) [
  | inl hit ↦ rw hit refl
  | inr miss ↦ rw miss refl
]
found_pushed p (x ∷ xs) y =
    found_in_rest p x (xs ++ y ∷ []) ∙ ap (λ o. cond (p x) (Some 0) (option_map (λ n. 1 + n) o)) (found_pushed p xs y) ∙ elim (cases_Bool (p x)) [
      | inl hit ↦ rw hit refl
      | inr miss ↦ elim (cases_Bool (list_any p xs)) [
        | inl any ↦ rw (miss, any) refl
        | inr none ↦ elim (cases_Bool (p y)) [
          | inl last ↦ rw (miss, none, last) (ap Some (omega arith))
          | inr other ↦ rw (miss, none, other) refl
        ]
      ]
    ]

-- the places after `k`, which wasn't among `names`, is appended
pub places_pushed : (names : List (List ℕ)) (k q : List ℕ) → list_any (bytes_eq k) names ≡ false
    → update bytes_eq (found_at names) k (Some (length names)) q ≡ found_at (names ++ k ∷ []) q
places_pushed names k q absent = elim (cases_Bool (bytes_eq k q)) [
  | inl same ↦
      let e : k ≡ q = same-bytes_eq k q same in
      let none : list_any (bytes_eq q) names ≡ false = sym (ap (λ m. list_any (bytes_eq m) names) e) ∙ absent in
      let hit : bytes_eq q k ≡ true = bytes_eq_either q k ∙ same in
      ap (λ b. cond b (Some (length names)) (found_at names q)) same ∙ sym (found_pushed (bytes_eq q) names k ∙ rw (none, hit) refl)
  | inr other ↦
      let miss : bytes_eq q k ≡ false = bytes_eq_either q k ∙ other in
      ap (λ b. cond b (Some (length names)) (found_at names q)) other ∙ sym (found_pushed (bytes_eq q) names k ∙ rw miss refl)
]

pub is_some_found : (names : List (List ℕ)) (k : List ℕ) → is_some (found_at names k) ≡ list_any (bytes_eq k) names
is_some_found names k = elim (cases_Bool (list_any (bytes_eq k) names)) [
  | inl any ↦ ap (λ b. is_some (cond b (Some (place_of names k)) None)) any ∙ sym any
  | inr none ↦ ap (λ b. is_some (cond b (Some (place_of names k)) None)) none ∙ sym none
]

pub place_or_length : (names : List (List ℕ)) (k : List ℕ) → unwrap_or (found_at names k) (length names) ≡ place_of names k
place_or_length names k = elim (cases_Bool (list_any (bytes_eq k) names)) [
  | inl any ↦ ap (λ b. unwrap_or (cond b (Some (place_of names k)) None) (length names)) any
  | inr none ↦ ap (λ b. unwrap_or (cond b (Some (place_of names k)) None) (length names)) none ∙ sym (none_is_length (bytes_eq k) names none)
]

-- ---- the rows of a client

module _ {X : Type 0} (client : X → List ℕ) (names : List (List ℕ)) (place : ℕ) (name : List ℕ) (once : Distinct names) (here : slice_get names place ≡ Some name) where
  abbrev under : X → ℕ × X
  under x = (place_of names (client x), x)

  abbrev is_of : X → Bool
  is_of x = bytes_eq (client x) name

  module _ (rows : List X) (keyed : List (ℕ × X)) (are : AreKeyed (λ (x : X). place_of names (client x)) rows keyed) where
    abbrev own : List (ℕ × X)
    own = filter (λ (k : ℕ × X). k.0 == place) keyed

    pub own_is : own ≡ map under (filter is_of rows)
    own_is = are.found place ∙ ap (map under) (filter_agree (λ (x : X). place_of names (client x) == place) is_of (λ x. is_at names place name (client x) once here) rows)

    pub count_is : length own ≡ length (filter is_of rows)
    count_is = ap length own_is ∙ length-map (filter is_of rows) under

  find_kept : {Y : Type 0} (f : X → Y) (q : X → Bool) (rows : List X)
      → option_map (λ (k : ℕ × X). f k.1) (find (λ (k : ℕ × X). q k.1) (map under (filter is_of rows))) ≡ option_map f (find (λ x. is_of x && q x) rows)
  find_kept f q [] = refl
  find_kept {Y} f q (x ∷ rows) =
      elim (is_of x) as (λ b. option_map (λ (k : ℕ × X). f k.1) (find (λ (k : ℕ × X). q k.1) (map under (cond b (x ∷ filter is_of rows) (filter is_of rows))))
      ≡ option_map f (cond (b && q x) (Some x) (find (λ y. is_of y && q y) rows))) [
        | true ↦
            elim (q x) as (λ b. option_map (λ (k : ℕ × X). f k.1) (cond b (Some (under x)) (find (λ (k : ℕ × X). q k.1) (map under (filter is_of rows))))
            ≡ option_map f (cond b (Some x) (find (λ y. is_of y && q y) rows))) [
              | true ↦ refl
              | false ↦ find_kept f q rows
            ]
        | false ↦ find_kept f q rows
      ]

  first_kept : {Y : Type 0} (f : X → Y) (rows : List X)
      → option_map (λ (k : ℕ × X). f k.1) (slice_get (map under (filter is_of rows)) 0) ≡ option_map f (find is_of rows)
  first_kept f [] = refl
  first_kept {Y} f (x ∷ rows) =
      elim (is_of x) as (λ b. option_map (λ (k : ℕ × X). f k.1) (slice_get (map under (cond b (x ∷ filter is_of rows) (filter is_of rows))) 0)
      ≡ option_map f (cond b (Some x) (find is_of rows))) [
        | true ↦ refl
        | false ↦ first_kept f rows
      ]

  most_kept : (f : X → ℕ) (least : ℕ) (rows : List X)
      → fold (λ last (k : ℕ × X). max last (f k.1)) least (map under (filter is_of rows)) ≡ fold (λ last x. max last (cond (is_of x) (f x) 0)) least rows
  most_kept f least [] = refl
  most_kept f least (x ∷ rows) =
      elim (is_of x) as (λ b. fold (λ last (k : ℕ × X). max last (f k.1)) least (map under (cond b (x ∷ filter is_of rows) (filter is_of rows)))
      ≡ fold (λ last y. max last (cond (is_of y) (f y) 0)) (max least (cond b (f x) 0)) rows) [
        | true ↦ most_kept f (max least (f x)) rows
        | false ↦
            let same : max least 0 ≡ least = omega arith in
            most_kept f least rows ∙ ap (λ n. fold (λ last y. max last (cond (is_of y) (f y) 0)) n rows) (sym same)
      ]

  module _ (rows : List X) (keyed : List (ℕ × X)) (are : AreKeyed (λ (x : X). place_of names (client x)) rows keyed) where
    pub find_is : {Y : Type 0} (f : X → Y) (q : X → Bool)
        → option_map (λ (k : ℕ × X). f k.1) (find (λ (k : ℕ × X). q k.1) (own rows keyed are)) ≡ option_map f (find (λ x. is_of x && q x) rows)
    find_is f q = ap (λ ks. option_map (λ (k : ℕ × X). f k.1) (find (λ (k : ℕ × X). q k.1) ks)) (own_is rows keyed are) ∙ find_kept f q rows

    pub first_is : {Y : Type 0} (f : X → Y) → option_map (λ (k : ℕ × X). f k.1) (slice_get (own rows keyed are) 0) ≡ option_map f (find is_of rows)
    first_is f = ap (λ ks. option_map (λ (k : ℕ × X). f k.1) (slice_get ks 0)) (own_is rows keyed are) ∙ first_kept f rows

    pub most_is : (f : X → ℕ) (least : ℕ)
        → fold (λ last (k : ℕ × X). max last (f k.1)) least (own rows keyed are) ≡ fold (λ last x. max last (cond (is_of x) (f x) 0)) least rows
    most_is f least = ap (fold (λ last (k : ℕ × X). max last (f k.1)) least) (own_is rows keyed are) ∙ most_kept f least rows
