-- Any number of rows are changed under their rowids, or removed. All rowids are different, and the
-- order of rows doesn't matter.
use Rattle.std.proofs.Common.{IsTrue, arith, inl, inr, ◌≡◌, ◌≤◌, ◌||◌, ℤ, List, [], ◌∷◌, ◌++◌, filter, length, map, not, cond, Bool, true, false, refl, sym, ap, ap₂, subst, ◌∙◌}
use Rattle.std.proofs.lemmas.Bool.{cases_Bool}
use Rattle.std.proofs.lemmas.Cmp.{tied_itself}
use Rattle.std.specs.List.{AllByRecursion, list_any}
use Rattle.std.specs.List.Sorted.{IsPermutation}
use Rattle.std.proofs.lemmas.List.Sorted.{IsPermutation-append_left, IsPermutation-append_right, IsPermutation-cons, IsPermutation-map, IsPermutation-refl, IsPermutation-trans, length_permutation, list_any-IsPermutation}
use Rattle.std.specs.Ordering.{is_eq}
use Rattle.sqlite.specs.declared.types.Value.TheVariants.{Int}
use Rattle.sqlite.specs.Edit.{id_in, is_taken, put_all, without_all}
use Rattle.sqlite.specs.Order.{Row}
use Rattle.sqlite.specs.Tree.{rowid, has_rowid, put_row, without_rowid, IsAscending}
use Rattle.sqlite.specs.View.{is_int}
use Rattle.sqlite_keyed.proofs.ListLemmas.{IsPermutation-filter, all_weaker, ascending-filter}
use Rattle.sqlite_rules.specs.Calls.{ids_of}
use Rattle.sqlite_trees.proofs.ListLemmas.{all-filter, all-permutation, filter_same}
use Rattle.sqlite_value.specs.Order.{value_cmp}
use Rattle.sqlite_value.proofs.OrderLemmas.{value_cmp_total}
use Rattle.sql_base.specs.Rowids.{Apart, AreApart}
use Rattle.sql_base.proofs.Inserting.{put_fresh, swap_two}
use Rattle.sql_base.proofs.Replacing.{KeepsRowid, changed_by, int_of, rowids_kept}
use Rattle.sql_base.proofs.Rowids.{back, few_apart}
use Rattle.sql_base.proofs.Selecting.{all_pass, map_map}
use Rattle.sql_base.proofs.Tests.{equal_is}

-- ---- different rowids, in any order

-- At most one row has the rowid `id`.
few_at : (rows : List Row) → IsAscending Apart rows → (id : ℤ) → length (filter (has_rowid id) rows) ≤ 1
few_at rows table id = few_apart (has_rowid id) (Int id) (λ r h. equal_is (value_cmp (rowid r) (Int id)) h) rows table

none_pass : (p : Row → Bool) (rows : List Row) → length (filter p rows) ≤ 0 → AllByRecursion (λ r. p r ≡ false) rows
none_pass p [] few = tt
none_pass p (r ∷ rows) few = elim (cases_Bool (p r)) [
  | inl hit ↦ absurd (omega (arith, rw hit at few))
  | inr miss ↦ (miss, none_pass p rows (rw miss at few))
]

apart_from_few : (rows : List Row) → AllByRecursion (λ r. IsTrue (is_int (rowid r))) rows → ((id : ℤ) → length (filter (has_rowid id) rows) ≤ 1) → IsAscending Apart rows
apart_from_few [] ints few = tt
apart_from_few (r ∷ rows) ints few = (first (int_of (rowid r) ints.0), apart_from_few rows ints.1 (λ id. fewer id))
  where
    fewer : (id : ℤ) → length (filter (has_rowid id) rows) ≤ 1
    fewer id = elim (cases_Bool (has_rowid id r)) [
      | inl hit ↦ omega (arith, rw hit at (few id))
      | inr miss ↦ rw miss at (few id)
    ]

    away : (xs : List Row) (id : ℤ) → rowid r ≡ Int id → AllByRecursion (λ x. has_rowid id x ≡ false) xs → AllByRecursion (Apart r) xs
    away [] id is none = tt
    away (x ∷ xs) id is none = (back (rowid x) (rowid r) (subst (λ v. is_eq (value_cmp (rowid x) v) ≡ false) (sym is) none.0), away xs id is none.1)

    first : ((id : ℤ) × (rowid r ≡ Int id)) → AllByRecursion (Apart r) rows
    first is =
        let hit : has_rowid is.0 r ≡ true = ap (λ v. is_eq (value_cmp v (Int is.0))) is.1 ∙ ap is_eq (tied_itself value_cmp_total (Int is.0)) in
        away rows is.0 is.1 (none_pass (has_rowid is.0) rows (omega (arith, rw hit at (few is.0))))

-- Rowids that are different are also different in any other order of the rows.
pub apart_permuted : (xs ys : List Row) → IsPermutation xs ys → AreApart xs → AreApart ys
apart_permuted xs ys same table =
    let ints = all-permutation (λ r. IsTrue (is_int (rowid r))) xs ys same table.ints in
    record {
      apart = apart_from_few ys ints (λ id. omega (arith, few_at xs table.apart id, length_permutation _ _ (IsPermutation-filter (has_rowid id) xs ys same)));
      ints = ints;
    }

-- ---- inserted rows

free_before : (r : Row) (news left : List Row) → AllByRecursion (Apart r) (news ++ left) → is_taken left r ≡ false
free_before r [] [] apart = refl
free_before r [] (x ∷ left) apart = rw (back (rowid r) (rowid x) apart.0) (free_before r [] left apart.1)
free_before r (x ∷ news) left apart = free_before r news left apart.1

among : (r : Row) (news left : List Row) → IsPermutation (r ∷ news ++ left) (news ++ r ∷ left)
among r [] left = IsPermutation-refl (r ∷ left)
among r (x ∷ news) left = IsPermutation-trans _ _ _ (swap_two r x (news ++ left)) (IsPermutation-cons x _ _ (among r news left))

-- rows with different rowids, inserted one after the other
put_each : (news left : List Row) → AreApart (news ++ left) → IsPermutation (news ++ left) (put_all left news)
put_each [] left table = IsPermutation-refl left
put_each (r ∷ news) left table =
    let put = put_fresh r left (free_before r news left table.apart.0) in
    let moved = IsPermutation-trans _ _ _ (among r news left) (IsPermutation-append_right news (r ∷ left) (put_row r left) put) in
    IsPermutation-trans _ _ _ moved (put_each news (put_row r left) (apart_permuted _ _ moved table))

-- ---- removed rows

out_twice : (p q : Row → Bool) (rows : List Row) → filter (λ r. not (q r)) (filter (λ r. not (p r)) rows) ≡ filter (λ r. not (p r || q r)) rows
out_twice p q [] = refl
out_twice p q (r ∷ rows) = elim (cases_Bool (p r)) [
  | inl hit ↦ rw hit (out_twice p q rows)
  | inr miss ↦ elim (cases_Bool (q r)) [
    | inl out ↦ rw (miss, out) (out_twice p q rows)
    | inr stays ↦ rw (miss, stays) (ap (λ xs. r ∷ xs) (out_twice p q rows))
  ]
]

taken_out : (rows : List Row) (ids : List ℤ) → without_all rows ids ≡ filter (λ r. not (list_any (λ id. has_rowid id r) ids)) rows
taken_out rows [] = sym (all_pass rows)
taken_out rows (id ∷ ids) = taken_out (without_rowid id rows) ids ∙ out_twice (has_rowid id) (λ r. list_any (λ i. has_rowid i r) ids) rows

abbrev same_id : Row → Row → Bool
same_id x y = is_eq (value_cmp (rowid x) (rowid y))

module _ (p : Row → Bool) where
  no_other : (x : Row) (rows : List Row) → AllByRecursion (Apart x) rows → list_any (same_id x) (filter p rows) ≡ false
  no_other x [] apart = refl
  no_other x (r ∷ rows) apart = elim (cases_Bool (p r)) [
    | inl hit ↦ rw (hit, apart.0) (no_other x rows apart.1)
    | inr miss ↦ rw miss (no_other x rows apart.1)
  ]

  -- The rowid of a row is the rowid of a row that passes if and only if the row itself passes.
  found_by_id : (rows : List Row) → IsAscending Apart rows → AllByRecursion (λ x. list_any (same_id x) (filter p rows) ≡ p x) rows
  found_by_id [] table = tt
  found_by_id (r ∷ rows) table = at_first (p r) refl (found_by_id rows table.1)
    where
      later : (xs : List Row) → AllByRecursion (Apart r) xs → AllByRecursion (λ x. list_any (same_id x) (filter p rows) ≡ p x) xs
          → AllByRecursion (λ x. list_any (same_id x) (r ∷ filter p rows) ≡ p x) xs
      later [] apart all = tt
      later (x ∷ xs) apart all = (rw (back (rowid r) (rowid x) apart.0) all.0, later xs apart.1 all.1)

      at_first : (b : Bool) → p r ≡ b → AllByRecursion (λ x. list_any (same_id x) (filter p rows) ≡ p x) rows
          → AllByRecursion (λ x. list_any (same_id x) (cond b (r ∷ filter p rows) (filter p rows)) ≡ p x) (r ∷ rows)
      at_first true hit rest = (ap (λ o. is_eq o || list_any (same_id r) (filter p rows)) (tied_itself value_cmp_total (rowid r)) ∙ sym hit, later rows table.0 rest)
      at_first false miss rest = (no_other r rows table.0 ∙ sym miss, rest)

  module _ (shown : Row → Row) (keeps : KeepsRowid shown) where
    named : (x : Row) (rows : List Row) → AllByRecursion (λ r. IsTrue (is_int (rowid r))) rows
        → list_any (λ id. has_rowid id x) (ids_of (map shown (filter p rows))) ≡ list_any (same_id x) (filter p rows)
    named x [] ints = refl
    named x (r ∷ rows) ints = elim (cases_Bool (p r)) [
      | inl hit ↦ rw hit (ap₂ ◌||◌ (same_name (int_of (rowid r) ints.0)) (named x rows ints.1))
      | inr miss ↦ rw miss (named x rows ints.1)
    ]
      where
        same_name : ((n : ℤ) × (rowid r ≡ Int n)) → has_rowid (id_in (rowid (shown r))) x ≡ same_id x r
        same_name is = ap (λ v. has_rowid (id_in v) x) (keeps r is.0 is.1) ∙ ap (λ v. is_eq (value_cmp (rowid x) v)) (sym is.1)

    -- A query finds the rows that pass, with their rowids. If the rows that it finds are removed,
    -- the rows that don't pass are left.
    pub all_out : (rows found : List Row) → AreApart rows → IsPermutation (map shown (filter p rows)) found → without_all rows (ids_of found) ≡ filter (λ r. not (p r)) rows
    all_out rows found table all =
        let ids = IsPermutation-map (λ r. id_in (rowid r)) _ _ all in
        let same : (x : Row) → list_any (same_id x) (filter p rows) ≡ p x → not (list_any (λ id. has_rowid id x) (ids_of found)) ≡ not (p x) =
        λ x is. ap not (sym (list_any-IsPermutation (λ id. has_rowid id x) _ _ ids) ∙ named x rows table.ints ∙ is) in
        taken_out rows (ids_of found) ∙ filter_same _ _ rows (all_weaker _ _ same rows (found_by_id rows table.apart))

-- ---- changed rows

split : (p : Row → Bool) (f : Row → Row) (rows : List Row) → IsPermutation (changed_by p f rows) (map f (filter p rows) ++ filter (λ r. not (p r)) rows)
split p f [] = IsPermutation-refl []
split p f (r ∷ rows) = elim (cases_Bool (p r)) [
  | inl hit ↦ rw hit (IsPermutation-cons (f r) _ _ (split p f rows))
  | inr miss ↦ rw miss (IsPermutation-trans _ _ _ (IsPermutation-cons r _ _ (split p f rows)) (among r (map f (filter p rows)) (filter (λ x. not (p x)) rows)))
]

mapped_apart : (f : Row → Row) (rows : List Row) → AllByRecursion (λ r. rowid (f r) ≡ rowid r) rows → AreApart rows → AreApart (map f rows)
mapped_apart f rows same table = record { apart = apart rows same table.apart; ints = ints rows same table.ints }
  where
    each : (r : Row) (xs : List Row) → rowid (f r) ≡ rowid r → AllByRecursion (λ x. rowid (f x) ≡ rowid x) xs → AllByRecursion (Apart r) xs → AllByRecursion (Apart (f r)) (map f xs)
    each r [] is same all = tt
    each r (x ∷ xs) is same all = (ap₂ (λ a b. is_eq (value_cmp a b)) is same.0 ∙ all.0, each r xs is same.1 all.1)

    apart : (xs : List Row) → AllByRecursion (λ r. rowid (f r) ≡ rowid r) xs → IsAscending Apart xs → IsAscending Apart (map f xs)
    apart [] same table = tt
    apart (x ∷ xs) same table = (each x xs same.0 same.1 table.0, apart xs same.1 table.1)

    ints : (xs : List Row) → AllByRecursion (λ r. rowid (f r) ≡ rowid r) xs → AllByRecursion (λ r. IsTrue (is_int (rowid r))) xs → AllByRecursion (λ r. IsTrue (is_int (rowid r))) (map f xs)
    ints [] same all = tt
    ints (x ∷ xs) same all = (subst (λ v. IsTrue (is_int v)) (sym same.0) all.0, ints xs same.1 all.1)

-- If the rows that pass are removed by their rowids and put back changed under the same rowids, the
-- result is the list with these rows changed in their positions, in any order.
pub rows_updated : (p : Row → Bool) (shown put : Row → Row) (rows found : List Row) → AreApart rows → IsPermutation (map shown (filter p rows)) found
    → KeepsRowid shown → KeepsRowid (λ r. put (shown r))
    → IsPermutation (changed_by p (λ r. put (shown r)) rows) (put_all (without_all rows (ids_of found)) (map put found)) × AreApart (put_all (without_all rows (ids_of found)) (map put found))
rows_updated p shown put rows found table all keeps keeps_put =
    let f = λ (r : Row). put (shown r) in
    let left = filter (λ r. not (p r)) rows in
    let news : IsPermutation (map f (filter p rows)) (map put found) = subst (λ xs. IsPermutation xs (map put found)) (map_map put shown (filter p rows)) (IsPermutation-map put _ _ all) in
    let moved : IsPermutation (changed_by p f rows) (map put found ++ left) = IsPermutation-trans _ _ _ (split p f rows) (IsPermutation-append_left left _ _ news) in
    let apart = apart_permuted _ _ moved (mapped_apart (λ r. cond (p r) (f r) r) rows (rowids_kept p f keeps_put rows table.ints) table) in
    let put_in = put_each (map put found) left apart in
    let after : List Row → Type 0 = λ rest. IsPermutation (changed_by p f rows) (put_all rest (map put found)) × AreApart (put_all rest (map put found)) in
    subst after (sym (all_out p shown keeps rows found table all)) (IsPermutation-trans _ _ _ moved put_in, apart_permuted _ _ put_in apart)

-- The rowids of the remaining rows are different.
pub rows_left : (p : Row → Bool) (shown : Row → Row) (rows found : List Row) → AreApart rows → IsPermutation (map shown (filter p rows)) found → KeepsRowid shown
    → (without_all rows (ids_of found) ≡ filter (λ r. not (p r)) rows) × AreApart (without_all rows (ids_of found))
rows_left p shown rows found table all keeps =
    let out = all_out p shown keeps rows found table all in
    (out, subst AreApart (sym out) (record { apart = ascending-filter Apart (λ r. not (p r)) rows table.apart; ints = all-filter _ (λ r. not (p r)) rows table.ints }))
