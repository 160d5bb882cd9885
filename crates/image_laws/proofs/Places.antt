-- The only element of a list that satisfies a predicate: its index, and the rows that it adds.
use Rattle.std.proofs.Common.{◌≡◌, ℕ, suc, ◌+◌, ◌<◌, ◌==◌, ◌||◌, Bool, true, false, List, [], ◌∷◌, ◌++◌, All, map, Some, inl, inr, refl, sym, ap, ◌∙◌, subst, arith, IsPermutation}
use Rattle.std.specs.Prelude.{AllPairs, find, ⊤}
use Rattle.std.specs.List.{enumerate_from, flat_map, list_any, position_or_len}
use Rattle.std.proofs.lemmas.Bool.{both_ways, cases_Bool, cond-false, cond-true, or_parts}
use Rattle.std.proofs.lemmas.Bool.Decides.{nat_tests}
use Rattle.std.proofs.lemmas.List.{map-append}
use Rattle.std.proofs.lemmas.List.Elements.{All-cons, All-head, All-nil, All-tail, All-weaker}
use Rattle.std.proofs.lemmas.List.Folds.{list_any_none}
use Rattle.std.proofs.lemmas.List.Sorted.{IsPermutation-append, IsPermutation-append_right, IsPermutation-middle, IsPermutation-trans}
use Rattle.store_data.proofs.IsPlanLemmas.{All-from_list_any}
use Rattle.image_laws.proofs.Lists.{unmoved}

-- ---- its index

module _ {X : Type 0} (p : X → Bool) where
  -- At most one element satisfies `p`.
  abbrev pub Once : List X → Type 0
  Once [] = ⊤
  Once (x ∷ xs) = (p x ≡ true → list_any p xs ≡ false) × Once xs

  pub once_of : (xs : List X) → AllPairs (λ x y. p x ≡ true → p y ≡ false) xs → Once xs
  once_of [] alone = tt
  once_of (x ∷ xs) alone = (
    λ hit. list_any_none p xs (λ k d within. alone 0 (suc k) d (omega arith) (omega arith) hit),
    once_of xs (λ i j d before within. alone (suc i) (suc j) d (omega arith) (omega arith)),
  )

  abbrev pub HasPlace : ℕ → ℕ × X → Type 0
  HasPlace m e = (e.0 == m) ≡ p e.1

  past : (n m : ℕ) (xs : List X) → m < n → list_any p xs ≡ false → All (HasPlace m) (enumerate_from n xs)
  past n m [] low none = All-nil (HasPlace m)
  past n m (x ∷ xs) low none =
      let parts = or_parts (p x) (list_any p xs) none in
      let differ : (n == m) ≡ false = grind (arith, nat_tests) in
      All-cons (HasPlace m) (n, x) (enumerate_from (n + 1) xs) (differ ∙ sym parts.0) (past (n + 1) m xs (omega arith) parts.1)

  -- An element satisfies `p` if and only if its number is `m`.
  pub placed : (n m : ℕ) (xs : List X) → Once xs → m ≡ n + position_or_len p xs → All (HasPlace m) (enumerate_from n xs)
  placed n m [] once is = All-nil (HasPlace m)
  placed n m (x ∷ xs) once is = elim (cases_Bool (p x)) [
    | inl hit ↦
        let first : position_or_len p (x ∷ xs) ≡ 0 = rw hit refl in
        let same : (n == m) ≡ true = grind (arith, nat_tests) in
        All-cons (HasPlace m) (n, x) (enumerate_from (n + 1) xs) (same ∙ sym hit) (past (n + 1) m xs (omega arith) (once.0 hit))
    | inr miss ↦
        let later : position_or_len p (x ∷ xs) ≡ 1 + position_or_len p xs = rw miss refl in
        let differ : (n == m) ≡ false = grind (arith, nat_tests) in
        All-cons (HasPlace m) (n, x) (enumerate_from (n + 1) xs) (differ ∙ sym miss) (placed (n + 1) m xs once.1 (omega arith))
  ]

  -- An element that satisfies `p` is the element that a look-up finds.
  pub found_alone : (xs : List X) → Once xs → All (λ x. p x ≡ true → find p xs ≡ Some x) xs
  found_alone [] once = All-nil (λ x. p x ≡ true → find p [] ≡ Some x)
  found_alone (x ∷ xs) once =
      All-cons (λ y. p y ≡ true → find p (x ∷ xs) ≡ Some y) x xs (λ hit. cond-true (p x) (Some x) (find p xs) hit)
      (elim (cases_Bool (p x)) [
        | inl hit ↦ All-weaker (λ y. p y ≡ false) (λ y. p y ≡ true → find p (x ∷ xs) ≡ Some y) (λ y not_it also. absurd (both_ways (p y) not_it also)) xs
            (All-from_list_any p xs (once.0 hit))
        | inr miss ↦ All-weaker (λ y. p y ≡ true → find p xs ≡ Some y) (λ y. p y ≡ true → find p (x ∷ xs) ≡ Some y)
            (λ y found also. cond-false (p x) (Some x) (find p xs) miss ∙ found also) xs (found_alone xs once.1)
      ])

  -- the list before and after the element that satisfies `p`
  pub record IsAround (xs : List X) : Type 0 where
    pub before : List X
    pub one : X
    pub after : List X
    pub is : xs ≡ before ++ one ∷ after
    pub passes : p one ≡ true
    pub none_before : list_any p before ≡ false
    pub none_after : list_any p after ≡ false

  pub around : (xs : List X) → Once xs → list_any p xs ≡ true → IsAround xs
  around [] once some = absurd (both_ways false refl some)
  around (x ∷ xs) once some = elim (cases_Bool (p x)) [
    | inl hit ↦ record { before = []; one = x; after = xs; is = refl; passes = hit; none_before = refl; none_after = once.0 hit }
    | inr miss ↦
        let rest = around xs once.1 (sym (ap (λ t. t || list_any p xs) miss) ∙ some) in
        record {
          before = x ∷ rest.before;
          one = rest.one;
          after = rest.after;
          is = ap (λ ys. x ∷ ys) rest.is;
          passes = rest.passes;
          none_before = ap (λ t. t || list_any p rest.before) miss ∙ rest.none_before;
          none_after = rest.none_after;
        }
  ]

  -- ---- numbered elements

  abbrev pub numbered_passes : ℕ × X → Bool
  numbered_passes e = p e.1

  pub any_numbered : (n : ℕ) (xs : List X) → list_any numbered_passes (enumerate_from n xs) ≡ list_any p xs
  any_numbered n [] = refl
  any_numbered n (x ∷ xs) = ap (λ t. p x || t) (any_numbered (n + 1) xs)

-- At most one element of the numbered list satisfies `p`.
pub once_numbered : {X : Type 0} (p : X → Bool) (n : ℕ) (xs : List X) → Once p xs → Once (λ (e : ℕ × X). p e.1) (enumerate_from n xs)
once_numbered p n [] once = tt
once_numbered p n (x ∷ xs) once = (λ hit. any_numbered p (n + 1) xs ∙ once.0 hit, once_numbered p (n + 1) xs once.1)

-- ---- the row that it adds

module _ {X Y : Type 0} (p : X → Bool) (h k : X → List Y) (y : Y) where
  abbrev pub StaysBut : X → Type 0
  StaysBut x = p x ≡ false → h x ≡ k x

  abbrev pub AddsOne : X → Type 0
  AddsOne x = p x ≡ true → IsPermutation (h x) (y ∷ k x)

  none_added : (xs : List X) → list_any p xs ≡ false → All StaysBut xs → flat_map h xs ≡ flat_map k xs
  none_added [] none stay = refl
  none_added (x ∷ xs) none stay =
      let parts = or_parts (p x) (list_any p xs) none in
      ap (λ ys. ys ++ flat_map h xs) (All-head StaysBut x xs stay parts.0) ∙ ap (λ ys. k x ++ ys) (none_added xs parts.1 (All-tail StaysBut x xs stay))

  pub one_added : (xs : List X) → Once p xs → list_any p xs ≡ true → All StaysBut xs → All AddsOne xs → IsPermutation (flat_map h xs) (y ∷ flat_map k xs)
  one_added [] once some stay adds = absurd (both_ways false refl some)
  one_added (x ∷ xs) once some stay adds = elim (cases_Bool (p x)) [
    | inl hit ↦
        IsPermutation-append (h x) (y ∷ k x) (flat_map h xs) (flat_map k xs) (All-head AddsOne x xs adds hit)
        (unmoved (flat_map h xs) (flat_map k xs) (none_added xs (once.0 hit) (All-tail StaysBut x xs stay)))
    | inr miss ↦
        let rest = one_added xs once.1 (sym (ap (λ t. t || list_any p xs) miss) ∙ some) (All-tail StaysBut x xs stay) (All-tail AddsOne x xs adds) in
        IsPermutation-trans (h x ++ flat_map h xs) (k x ++ y ∷ flat_map k xs) (y ∷ (k x ++ flat_map k xs))
        (subst (λ ys. IsPermutation (h x ++ flat_map h xs) (ys ++ y ∷ flat_map k xs)) (All-head StaysBut x xs stay miss)
        (IsPermutation-append_right (h x) (flat_map h xs) (y ∷ flat_map k xs) rest))
        (IsPermutation-middle (k x) y (flat_map k xs))
  ]

pub map_joined : {X Y Z : Type 0} (h : Y → Z) (k : X → List Y) (xs : List X) → flat_map (λ x. map h (k x)) xs ≡ map h (flat_map k xs)
map_joined h k [] = refl
map_joined h k (x ∷ xs) = ap (λ zs. map h (k x) ++ zs) (map_joined h k xs) ∙ sym (map-append h (k x) (flat_map k xs))
