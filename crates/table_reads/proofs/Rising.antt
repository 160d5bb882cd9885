-- The sorted rowids of a query ascend if and only if all rowids of the table are different.
use Rattle.std.proofs.Common.{◌≡◌, ◌↔◌, ◌+◌, ◌≤◌, ◌<ℤ◌, IsTrue, suc, ℕ, ℤ, Bool, true, false, List, [], ◌∷◌, map, filter, length, slice_index_or, Ordering, Equal, Less, Greater, inl, inr, refl, sym, ap, subst, ◌∙◌, arith}
use Rattle.std.specs.List.{AllByRecursion}
use Rattle.std.specs.List.Sorted.{IsPermutation, IsSortedByKey}
use Rattle.std.specs.Ordering.{MatchOrdering, int_cmp, is_eq, is_lt}
use Rattle.std.specs.Cmp.{int_chain, int_cmp_is}
use Rattle.std.proofs.lemmas.Bool.{cases_Bool}
use Rattle.std.proofs.lemmas.Cmp.{int_ranked, tied_itself}
use Rattle.std.proofs.lemmas.List.Sorted.{All-permutation, IsPermutation-sym, IsPermutation-trans, length_permutation}
use Rattle.sqlite.specs.Order.{Row}
use Rattle.sqlite.specs.State.{Shown, State}
use Rattle.sqlite.specs.Term.{Term}
use Rattle.sqlite.specs.Tree.{IsAscending, rowid}
use Rattle.sqlite.specs.View.{is_int}
use Rattle.sqlite.specs.declared.types.Value.{Value}
use Rattle.sqlite.specs.declared.types.Value.TheVariants.{Blob, Int, Null, Real, Text}
use Rattle.sqlite_keyed.proofs.ListLemmas.{IsPermutation-filter, filter-map}
use Rattle.sqlite_value.proofs.OrderLemmas.{value_cmp-Int, value_cmp_total}
use Rattle.sqlite_value.specs.Order.{value_cmp}
use Rattle.sql_base.specs.Rowids.{Apart, AreApart}
use Rattle.sql_base.proofs.Rowids.{back, few_apart}
use Rattle.sql_base.proofs.Selecting.{all_pass, selected, shown}
use Rattle.table_reads.specs.Rowids.{AreRising, IsRisingFrom, int_in, rowid_int}
use Rattle.table_reads.specs.Whole.{AreShown, Asks, columns_of, with_rowid}
use Rattle.table_reads.proofs.ReadRows.{from_all, to_all}

-- ---- the rows of the query

above : (floor : ℤ) (rows : List Row) → IsRisingFrom floor rows → AllByRecursion (λ r. (Int (rowid_int r) ≡ rowid r) × (floor <ℤ rowid_int r)) rows
above floor [] rising = tt
above floor (r ∷ rows) rising = ((rising.0, rising.1), lifted rows (above (rowid_int r) rows rising.2))
  where
    lifted : (more : List Row) → AllByRecursion (λ x. (Int (rowid_int x) ≡ rowid x) × (rowid_int r <ℤ rowid_int x)) more → AllByRecursion (λ x. (Int (rowid_int x) ≡ rowid x) × (floor <ℤ rowid_int x)) more
    lifted [] all = tt
    lifted (x ∷ more) all = ((all.0.0, int_chain floor (rowid_int r) (rowid_int x) rising.1 all.0.1), lifted more all.1)

less_apart : (a b : Row) → Int (rowid_int a) ≡ rowid a → Int (rowid_int b) ≡ rowid b → rowid_int a <ℤ rowid_int b → Apart a b
less_apart a b is_a is_b low =
    let less : Less ≡ int_cmp (rowid_int a) (rowid_int b) = int_cmp_is (rowid_int a) (rowid_int b) Less low in
    let both : value_cmp (Int (rowid_int a)) (Int (rowid_int b)) ≡ Less = value_cmp-Int (rowid_int a) (rowid_int b) ∙ sym less in
    ap is_eq (subst (λ v. value_cmp v (rowid b) ≡ Less) is_a (subst (λ v. value_cmp (Int (rowid_int a)) v ≡ Less) is_b both))

each_apart : (r : Row) (rows : List Row) → Int (rowid_int r) ≡ rowid r → AllByRecursion (λ x. (Int (rowid_int x) ≡ rowid x) × (rowid_int r <ℤ rowid_int x)) rows → AllByRecursion (Apart r) rows
each_apart r [] is all = tt
each_apart r (x ∷ rows) is all = (less_apart r x is all.0.0 all.0.1, each_apart r rows is all.1)

apart_from : (floor : ℤ) (rows : List Row) → IsRisingFrom floor rows → IsAscending Apart rows
apart_from floor [] rising = tt
apart_from floor (r ∷ rows) rising = (each_apart r rows rising.0 (above (rowid_int r) rows rising.2), apart_from (rowid_int r) rows rising.2)

all_apart : (rows : List Row) → AreRising rows → IsAscending Apart rows
all_apart [] rising = tt
all_apart (r ∷ rows) rising = (each_apart r rows rising.0 (above (rowid_int r) rows rising.1), apart_from (rowid_int r) rows rising.1)

an_int : (r : Row) → Int (rowid_int r) ≡ rowid r → IsTrue (is_int (rowid r))
an_int r is = subst (λ v. IsTrue (is_int v)) is refl

ints_from : (floor : ℤ) (rows : List Row) → IsRisingFrom floor rows → AllByRecursion (λ r. IsTrue (is_int (rowid r))) rows
ints_from floor [] rising = tt
ints_from floor (r ∷ rows) rising = (an_int r rising.0, ints_from (rowid_int r) rows rising.2)

all_ints : (rows : List Row) → AreRising rows → AllByRecursion (λ r. IsTrue (is_int (rowid r))) rows
all_ints [] rising = tt
all_ints (r ∷ rows) rising = (an_int r rising.0, ints_from (rowid_int r) rows rising.1)

-- ---- sorted rows with different rowids

int_back : (v : Value) → IsTrue (is_int v) → Int (int_in v) ≡ v
int_back Null is = absurd (cc)
int_back (Int z) is = refl
int_back (Real x) is = absurd (cc)
int_back (Text t) is = absurd (cc)
int_back (Blob b) is = absurd (cc)

sorted_rest : (r : Row) (rows : List Row) → IsSortedByKey rowid_int int_cmp (r ∷ rows) → IsSortedByKey rowid_int int_cmp rows
sorted_rest r rows sorted k d low within =
    let next : suc k + 1 ≡ suc (k + 1) = omega arith in
    subst (λ n. is_lt (int_cmp (rowid_int (slice_index_or (r ∷ rows) n d)) (rowid_int (slice_index_or rows k d))) ≡ false) next (sorted (suc k) d (omega arith) (omega arith))

next_above : (a b : Row) → Int (rowid_int a) ≡ rowid a → Int (rowid_int b) ≡ rowid b → Apart a b → is_lt (int_cmp (rowid_int b) (rowid_int a)) ≡ false → rowid_int a <ℤ rowid_int b
next_above a b is_a is_b apart high = at (int_cmp (rowid_int b) (rowid_int a)) high (int_ranked (rowid_int b) (rowid_int a) _ refl)
  where
    one : rowid_int b ≡ rowid_int a → is_eq (value_cmp (rowid a) (rowid b)) ≡ true
    one same = ap is_eq (subst (λ v. value_cmp (rowid a) v ≡ Equal) (sym is_a ∙ ap Int (sym same) ∙ is_b) (tied_itself value_cmp_total (rowid a)))

    at : (o : Ordering) → is_lt o ≡ false → MatchOrdering o (rowid_int b <ℤ rowid_int a) (rowid_int b ≡ rowid_int a) (rowid_int a <ℤ rowid_int b) → rowid_int a <ℤ rowid_int b
    at Less high is = absurd (cc)
    at Equal high is = absurd (let e : is_eq (value_cmp (rowid a) (rowid b)) ≡ true = one is in cc)
    at Greater high is = is

rising_from : (r : Row) (rows : List Row) → Int (rowid_int r) ≡ rowid r → AllByRecursion (λ x. IsTrue (is_int (rowid x))) rows → IsAscending Apart (r ∷ rows) → IsSortedByKey rowid_int int_cmp (r ∷ rows)
    → IsRisingFrom (rowid_int r) rows
rising_from r [] is ints apart sorted = tt
rising_from r (x ∷ rows) is ints apart sorted =
    let it = int_back (rowid x) ints.0 in
    (it, next_above r x is it apart.0.0 (sorted 0 r (omega arith) (omega arith)), rising_from x rows it ints.1 apart.1 (sorted_rest r (x ∷ rows) sorted))

all_rising : (rows : List Row) → AllByRecursion (λ x. IsTrue (is_int (rowid x))) rows → IsAscending Apart rows → IsSortedByKey rowid_int int_cmp rows → AreRising rows
all_rising [] ints apart sorted = tt
all_rising (r ∷ rows) ints apart sorted = let it = int_back (rowid r) ints.0 in (it, rising_from r rows it ints.1 apart sorted)

-- ---- the rows of the table

abbrev has : Value → Row → Bool
has id r = is_eq (value_cmp (rowid r) id)

equal_if : (r : Row) (id : Value) → has id r ≡ true → value_cmp (rowid r) id ≡ Equal
equal_if r id h = at (value_cmp (rowid r) id) h
  where
    at : (o : _) → is_eq o ≡ true → o ≡ Equal
    at Less h = absurd (cc)
    at Equal h = refl
    at Greater h = absurd (cc)

none_other : (r : Row) (rows : List Row) → length (filter (has (rowid r)) (r ∷ rows)) ≤ 1 → AllByRecursion (Apart r) rows
none_other r rows few = go rows (rw itself at few)
  where
    itself : has (rowid r) r ≡ true
    itself = ap is_eq (tied_itself value_cmp_total (rowid r))

    go : (more : List Row) → length (r ∷ filter (has (rowid r)) more) ≤ 1 → AllByRecursion (Apart r) more
    go [] low = tt
    go (x ∷ more) low = elim (cases_Bool (has (rowid r) x)) [
      | inl hit ↦ absurd (let e = rw hit at low in omega arith)
      | inr miss ↦ (back (rowid x) (rowid r) miss, go more (rw miss at low))
    ]

apart_if : (rows : List Row) → ((id : Value) → length (filter (has id) rows) ≤ 1) → IsAscending Apart rows
apart_if [] few = tt
apart_if (r ∷ rows) few = (none_other r rows (few (rowid r)), apart_if rows (λ id. fewer id))
  where
    fewer : (id : Value) → length (filter (has id) rows) ≤ 1
    fewer id = elim (cases_Bool (has id r)) [
      | inl hit ↦ let e = rw hit at (few id) in omega (arith, e)
      | inr miss ↦ rw miss at (few id)
    ]

abbrev Ints : Row → Type 0
Ints r = IsTrue (is_int (rowid r))

lengths : (f : Row → Row) (xs : List Row) → length (map f xs) ≡ length xs
lengths f [] = refl
lengths f (x ∷ xs) = ap suc (lengths f xs)

-- rows that a query returns with their rowids and the columns `columns`
module _ (columns : List Term) where
  abbrev shows : Row → Row
  shows = columns_of (with_rowid columns)

  behind : (rows : List Row) → AllByRecursion Ints (map shows rows) → AllByRecursion Ints rows
  behind [] all = tt
  behind (r ∷ rows) all = (all.0, behind rows all.1)

  ahead : (rows : List Row) → AllByRecursion Ints rows → AllByRecursion Ints (map shows rows)
  ahead [] all = tt
  ahead (r ∷ rows) all = (all.0, ahead rows all.1)

  module _ (stored rows : List Row) (same : IsPermutation (map shows stored) rows) where
    -- The number of rows with a rowid is the same in the table and in the result of the query.
    as_many : (id : Value) → length (filter (has id) rows) ≡ length (filter (has id) stored)
    as_many id =
        let one : length (filter (has id) (map shows stored)) ≡ length (filter (has id) rows) = sym (length_permutation _ _ (IsPermutation-filter (has id) _ _ same)) in
        sym one ∙ ap length (filter-map (has id) shows stored) ∙ lengths shows (filter (has id) stored)

    given_apart : AreRising rows → AreApart stored
    given_apart rising = record {
      apart = apart_if stored (λ id. subst (λ n. n ≤ 1) (as_many id) (few_apart (has id) id (λ r h. equal_if r id h) rows (all_apart rows rising)));
      ints = behind stored (from_all Ints (map shows stored) (All-permutation Ints rows (map shows stored) (IsPermutation-sym _ _ same) (to_all Ints rows (all_ints rows rising))));
    }

    told_rising : IsSortedByKey rowid_int int_cmp rows → AreApart stored → AreRising rows
    told_rising sorted apart =
        all_rising rows
        (from_all Ints rows (All-permutation Ints (map shows stored) rows same (to_all Ints (map shows stored) (ahead stored apart.ints))))
        (apart_if rows (λ id. subst (λ n. n ≤ 1) (sym (as_many id)) (few_apart (has id) id (λ r h. equal_if r id h) stored apart.apart)))
        sorted

module _ (sql : _) (old new : State) (rows : List Row) (result : Shown sql [] old new rows) (tree : ℕ) (columns : List Term) (asks : Asks old.now.schema sql tree (with_rowid columns)) where
  all_shown : IsPermutation (map (columns_of (with_rowid columns)) (old.now.trees tree)) rows
  all_shown =
      let got = selected sql [] old new old.now.schema refl tree [] (with_rowid columns) asks.names asks.command asks.plain asks.unlisted rows result in
      subst (λ xs. IsPermutation (map (shown (with_rowid columns) []) xs) rows) (all_pass (old.now.trees tree)) got

  -- the sorted result of a query for rowids and other columns
  pub sorted_shown : (sorted : List Row) → IsPermutation rows sorted → IsSortedByKey rowid_int int_cmp sorted → (apart : Bool) → IsTrue apart ↔ AreRising sorted → AreShown (with_rowid columns) (old.now.trees tree) sorted apart
  sorted_shown sorted same rise apart is =
      let all = IsPermutation-trans _ rows _ all_shown same in record {
        rows = all;
        apart_is = ((λ rises. given_apart columns (old.now.trees tree) sorted all (is.0 rises)), (λ held. is.1 (told_rising columns (old.now.trees tree) sorted all rise held)));
      }

  -- a result that ascends
  pub rising_shown : AreRising rows → AreShown (with_rowid columns) (old.now.trees tree) rows true
  rising_shown rising = record { rows = all_shown; apart_is = ((λ _. given_apart columns (old.now.trees tree) rows all_shown rising), (λ _. refl)) }
