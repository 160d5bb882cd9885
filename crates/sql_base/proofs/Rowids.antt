-- Rows with different rowids.
use Rattle.std.proofs.Common.{IsTrue, arith, inl, inr, ◌≡◌, List, [], ◌∷◌, filter, Bool, true, false, refl, ap, ◌∙◌, Less, Equal, Greater, Ordering, length, ◌≤◌}
use Rattle.std.proofs.lemmas.Bool.{cases_Bool}
use Rattle.std.proofs.lemmas.Cmp.{alike_right}
use Rattle.std.specs.List.{AllByRecursion}
use Rattle.std.specs.Ordering.{is_eq, match_ordering, ordering_reverse}
use Rattle.sqlite.specs.declared.types.Value.{Value}
use Rattle.sqlite.specs.Order.{Row}
use Rattle.sqlite_value.specs.Order.{value_cmp}
use Rattle.sqlite_value.proofs.OrderLemmas.{value_cmp_total}
use Rattle.sqlite.specs.Tree.{rowid, put_row, IsAscending}
use Rattle.sqlite.specs.View.{is_int}
use Rattle.sqlite.specs.Edit.{is_taken}
use Rattle.sql_base.specs.Rowids.{Apart, AreApart}

turned : (o : Ordering) → is_eq (ordering_reverse o) ≡ is_eq o
turned Less = refl
turned Equal = refl
turned Greater = refl

-- The relation is symmetric.
pub back : (a b : Value) → is_eq (value_cmp a b) ≡ false → is_eq (value_cmp b a) ≡ false
back a b h = ap is_eq (value_cmp_total.antisymm b a) ∙ turned (value_cmp a b) ∙ h

all_put : (P : Row → Type 0) (new : Row) (rows : List Row) → P new → AllByRecursion P rows → AllByRecursion P (put_row new rows)
all_put P new [] h all = (h, tt)
all_put P new (r ∷ rows) h all =
    elim (value_cmp (rowid r) (rowid new)) as (λ o. AllByRecursion P (match_ordering o (r ∷ put_row new rows) (new ∷ rows) (new ∷ r ∷ rows))) [ Less ↦ (all.0, all_put P new rows h all.1) | Equal ↦ (h, all.1) | Greater ↦ (h, all) ]

apart_all : (new : Row) (rows : List Row) → is_taken rows new ≡ false → AllByRecursion (Apart new) rows
apart_all new [] free = tt
apart_all new (x ∷ rows) free = elim (cases_Bool (is_eq (value_cmp (rowid x) (rowid new)))) [
  | inl hit ↦ absurd (let e = rw hit at free in cc)
  | inr miss ↦ (back (rowid x) (rowid new) miss, apart_all new rows (rw miss at free))
]

-- After a row is inserted under a free rowid, all rowids are still different.
pub put_apart : (new : Row) (rows : List Row) → IsTrue (is_int (rowid new)) → is_taken rows new ≡ false → AreApart rows → AreApart (put_row new rows)
put_apart new rows int free table = record { apart = go rows free table.apart; ints = all_put (λ r. IsTrue (is_int (rowid r))) new rows int table.ints }
  where
    at_case : (o : Ordering) (x : Row) (rows : List Row) → value_cmp (rowid x) (rowid new) ≡ o → is_taken (x ∷ rows) new ≡ false → AllByRecursion (Apart x) rows → IsAscending Apart rows → IsAscending Apart (put_row new rows)
        → IsAscending Apart (match_ordering o (x ∷ put_row new rows) (new ∷ rows) (new ∷ x ∷ rows))
    at_case Less x rows is free first rest more = (all_put (Apart x) new rows (ap is_eq is) first, more)
    at_case Equal x rows is free first rest more = absurd (let e = rw is at free in cc)
    at_case Greater x rows is free first rest more = (apart_all new (x ∷ rows) free, (first, rest))

    go : (rows : List Row) → is_taken rows new ≡ false → IsAscending Apart rows → IsAscending Apart (put_row new rows)
    go [] free table = (tt, tt)
    go (x ∷ rows) free table = elim (cases_Bool (is_eq (value_cmp (rowid x) (rowid new)))) [
      | inl hit ↦ absurd (let e = rw hit at free in cc)
      | inr miss ↦ at_case (value_cmp (rowid x) (rowid new)) x rows refl free table.0 table.1 (go rows (rw miss at free) table.1)
    ]

-- At most one row has a given rowid.
pub few_apart : (p : Row → Bool) (id : Value) → ((r : Row) → p r ≡ true → value_cmp (rowid r) id ≡ Equal) → (rows : List Row) → IsAscending Apart rows → length (filter p rows) ≤ 1
few_apart p id by [] table = omega arith
few_apart p id by (x ∷ rows) table = elim (cases_Bool (p x)) [
  | inl match_is ↦ rw (match_is, none_other x rows (by x match_is) table.0) (omega arith)
  | inr no_match ↦ rw no_match (few_apart p id by rows table.1)
]
  where
    none_other : (x : Row) (rows : List Row) → value_cmp (rowid x) id ≡ Equal → AllByRecursion (Apart x) rows → filter p rows ≡ []
    none_other x [] at all = refl
    none_other x (y ∷ rows) at all = elim (cases_Bool (p y)) [
      | inl match_is ↦ absurd (let same = ap is_eq (alike_right value_cmp_total (rowid y) id (rowid x) (by y match_is) ∙ at) in let apart = all.0 in cc)
      | inr no_match ↦ rw no_match (none_other x rows at all.1)
    ]
