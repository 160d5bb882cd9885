-- The order of rows after a sort by up to three numbers.
use Rattle.std.proofs.Common.{◌≡◌, ℕ, ◌≤◌, ◌==◌, true, false, not, ◌&&◌, List, [], ◌∷◌, get_or, All, refl, sym, ap, ◌∙◌, subst, arith, inl, inr}
use Rattle.std.specs.Prelude.{IsPermutation, bytes_eq, filter}
use Rattle.std.specs.Cmp.Lexicographic.{slice_cmp}
use Rattle.std.specs.List.Sorted.{IsNonDecreasingBy, IsSortedByKey, IsStableByKey, ties}
use Rattle.std.specs.Ordering.{is_eq, is_lt, is_le, nat_cmp, ordering_reverse}
use Rattle.std.specs.declared.cmp.Ordering.{Ordering}
use Rattle.std.specs.declared.cmp.Ordering.TheVariants.{Less, Equal, Greater}
use Rattle.std.proofs.lemmas.Bool.{cases_lt}
use Rattle.std.proofs.lemmas.List.Kept.{AllPairs-filter}
use Rattle.std.proofs.lemmas.Bool.Decides.{nat_tests}
use Rattle.std.proofs.lemmas.Cmp.{nat_list_cmp_total, same_from_slice_cmp}
use Rattle.std.proofs.lemmas.List.Elements.{All-head, filter_agree, filter_passes}
use Rattle.std.proofs.lemmas.List.Sorted.{All-permutation, IsPermutation-sym, ranks_by, sorted_far}
use Rattle.store_data.proofs.GroupLemmas.{same-bytes_eq}
use Rattle.step_laws.proofs.BlankSums.{bytes_eq_either}
use Rattle.audit_order.proofs.RangeLemmas.{none_passes}
use Rattle.table_rows.proofs.Found.{filter_none}
use Rattle.audit_laws.specs.Audited.{AreOrderedBy, is_up_to}
use Rattle.audit_order.specs.Order.{has_key}

abbrev key_cmp : List ℕ → List ℕ → Ordering
key_cmp = slice_cmp nat_cmp

up_to_is : (xs ys : List ℕ) (o : Ordering) → o ≡ key_cmp xs ys → is_le o ≡ is_up_to xs ys
up_to_is = same_from_slice_cmp nat_cmp is_le is_up_to refl (λ _ _. refl) (λ _ _. refl) (λ x y xs ys o h. grind (arith, nat_tests))

not_less : (o : Ordering) → is_lt (ordering_reverse o) ≡ false → is_le o ≡ true
not_less Less e = refl
not_less Equal e = refl
not_less Greater e = sym e

up_to : (xs ys : List ℕ) → is_lt (key_cmp ys xs) ≡ false → is_up_to xs ys ≡ true
up_to xs ys e =
    sym (up_to_is xs ys (key_cmp xs ys) refl) ∙ not_less (key_cmp xs ys) (ap is_lt (sym (nat_list_cmp_total.antisymm ys xs)) ∙ e)

module _ {X : Type 0} (key : X → List ℕ) where
  pub ordered_from_sort : (xs : List X) → IsSortedByKey key key_cmp xs → AreOrderedBy key xs
  ordered_from_sort xs sorted = λ i j d before within.
      up_to (key (get_or xs i d)) (key (get_or xs j d)) (sorted_far (λ x y. is_lt (key_cmp (key x) (key y))) (ranks_by nat_list_cmp_total key) xs sorted i j d (omega arith) within)

-- ---- stability of the sort

equal_is : (xs ys : List ℕ) (o : Ordering) → o ≡ key_cmp xs ys → is_eq o ≡ bytes_eq xs ys
equal_is = same_from_slice_cmp nat_cmp is_eq bytes_eq refl (λ _ _. refl) (λ _ _. refl) (λ x y xs ys o h. grind (arith, nat_tests))

neither_less : (o p : Ordering) → p ≡ ordering_reverse o → (not (is_lt o) && not (is_lt p)) ≡ is_eq o
neither_less Less p e = refl
neither_less Equal p e = ap (λ q. not (is_lt q)) e
neither_less Greater p e = ap (λ q. not (is_lt q)) e

module _ {X : Type 0} (key : X → List ℕ) where
  ties_by : (x y : X) → ties (λ x y. is_lt (key_cmp (key x) (key y))) x y ≡ has_key key (key x) y
  ties_by x y =
      neither_less (key_cmp (key x) (key y)) (key_cmp (key y) (key x)) (nat_list_cmp_total.antisymm (key y) (key x))
      ∙ equal_is (key x) (key y) (key_cmp (key x) (key y)) refl
      ∙ bytes_eq_either (key x) (key y)

  stable_at : (xs ys : List X) → IsStableByKey key key_cmp xs ys → (k : List ℕ) (x : X) → has_key key k x ≡ true → filter (has_key key k) ys ≡ filter (has_key key k) xs
  stable_at xs ys stable k x has =
      let same : key x ≡ k = same-bytes_eq (key x) k has in
      let agree : (y : X) → has_key key k y ≡ ties (λ x y. is_lt (key_cmp (key x) (key y))) x y = λ y. sym (ties_by x y ∙ ap (λ j. has_key key j y) same) in
      filter_agree (has_key key k) (ties (λ x y. is_lt (key_cmp (key x) (key y))) x) agree ys
      ∙ stable x
      ∙ sym (filter_agree (has_key key k) (ties (λ x y. is_lt (key_cmp (key x) (key y))) x) agree xs)

  by_first : (xs ys : List X) → IsPermutation xs ys → IsStableByKey key key_cmp xs ys → (k : List ℕ) (kept : List X) → filter (has_key key k) ys ≡ kept
      → filter (has_key key k) ys ≡ filter (has_key key k) xs
  by_first xs ys same stable k [] e =
      e ∙ sym (filter_none (has_key key k) xs (All-permutation (λ x. has_key key k x ≡ false) ys xs (IsPermutation-sym xs ys same) (none_passes (has_key key k) ys e)))
  by_first xs ys same stable k (x ∷ kept) e =
      stable_at xs ys stable k x (All-head (λ y. has_key key k y ≡ true) x kept (subst (All (λ y. has_key key k y ≡ true)) e (filter_passes (has_key key k) ys)))

  pub stable_from_sort : (xs ys : List X) → IsPermutation xs ys → IsStableByKey key key_cmp xs ys → (k : List ℕ) → filter (has_key key k) ys ≡ filter (has_key key k) xs
  stable_from_sort xs ys same stable k = by_first xs ys same stable k (filter (has_key key k) ys) refl

-- ---- by the first number, and by the second

not_behind : (m n : ℕ) (xs ys : List ℕ) → is_up_to (m ∷ xs) (n ∷ ys) ≡ true → m ≤ n
not_behind m n xs ys up = grind (arith, nat_tests)

next_not_behind : (k m n : ℕ) (xs ys : List ℕ) → is_up_to (k ∷ m ∷ xs) (k ∷ n ∷ ys) ≡ true → m ≤ n
next_not_behind k m n xs ys up = grind (arith, nat_tests)

module _ {X : Type 0} (first : X → ℕ) (rest : X → List ℕ) where
  pub first_rising : (xs : List X) → AreOrderedBy (λ x. first x ∷ rest x) xs → IsNonDecreasingBy first xs
  first_rising xs ordered = λ i j d upto within. elim (cases_lt i j) [
    | inl before ↦ not_behind (first (get_or xs i d)) (first (get_or xs j d)) (rest (get_or xs i d)) (rest (get_or xs j d)) (ordered i j d before within)
    | inr after ↦ let same : i ≡ j = omega arith in subst (λ n. first (get_or xs n d) ≤ first (get_or xs j d)) (sym same) (omega arith)
  ]

module _ {X : Type 0} (first second : X → ℕ) (rest : X → List ℕ) where
  -- Among the elements with the same first number, the second number doesn't decrease.
  pub second_rising : (xs : List X) → AreOrderedBy (λ x. first x ∷ second x ∷ rest x) xs → (k : ℕ) → IsNonDecreasingBy second (filter (λ x. first x == k) xs)
  second_rising xs ordered k =
      let kept : List X = filter (λ x. first x == k) xs in
      let those = AllPairs-filter (λ x y. is_up_to (first x ∷ second x ∷ rest x) (first y ∷ second y ∷ rest y) ≡ true) (λ x. first x == k) xs ordered in
      let passes = filter_passes (λ x. first x == k) xs in
      λ i j d upto within. elim (cases_lt i j) [
        | inl before ↦
            let at_i = passes i d (omega arith) in
            let at_j = passes j d within in
            let same_i : first (get_or kept i d) ≡ k = grind (arith, nat_tests) in
            let same_j : first (get_or kept j d) ≡ k = grind (arith, nat_tests) in
            let up = those i j d before within in
            next_not_behind k (second (get_or kept i d)) (second (get_or kept j d)) (rest (get_or kept i d)) (rest (get_or kept j d))
            (subst (λ n. is_up_to (k ∷ second (get_or kept i d) ∷ rest (get_or kept i d)) (n ∷ second (get_or kept j d) ∷ rest (get_or kept j d)) ≡ true) same_j
            (subst (λ n. is_up_to (n ∷ second (get_or kept i d) ∷ rest (get_or kept i d)) (first (get_or kept j d) ∷ second (get_or kept j d) ∷ rest (get_or kept j d)) ≡ true) same_i up))
        | inr after ↦ let same : i ≡ j = omega arith in subst (λ n. second (get_or kept n d) ≤ second (get_or kept j d)) (sym same) (omega arith)
      ]
