-- Lemmas about the result of a query with ORDER BY.
use Rattle.std.proofs.Common.{◌≡◌, ℕ, zero, suc, ◌+◌, ◌≤◌, ◌<◌, pos, Bool, true, false, List, [], ◌∷◌, map, take, length, get_or, Option, Some, All, Contains, refl, sym, ap, subst, ◌∙◌, arith, nat_cmp, add-one}
use Rattle.std.specs.Prelude.{filter}
use Rattle.std.specs.Ordering.{is_lt}
use Rattle.std.specs.List.Sorted.{IsNonDecreasingBy, IsPermutation, IsSortedByKey}
use Rattle.std.proofs.lemmas.Bool.Decides.{nat_tests}
use Rattle.std.proofs.lemmas.Option.{none-some, same_Some}
use Rattle.std.proofs.lemmas.List.{get_or-map, length-map}
use Rattle.std.proofs.lemmas.List.Elements.{All-contains_itself}
use Rattle.std.proofs.lemmas.List.Sorted.{All-permutation, IsNonDecreasingBy-from_sort, IsPermutation-map, IsPermutation-sym, length_permutation}
use Rattle.sqlite.specs.Collation.TheVariants.{Binary}
use Rattle.sqlite.specs.Command.TheVariants.{Select}
use Rattle.sqlite.specs.declared.types.Value.{Value}
use Rattle.sqlite.specs.declared.types.Value.TheVariants.{Null}
use Rattle.sqlite.specs.Listing.{reads_listing, understood}
use Rattle.sqlite.specs.Order.{Row, column}
use Rattle.sqlite.specs.Program.{overlay}
use Rattle.sqlite.specs.Query.{IsAnswer, Output, Query, as_count, limited, output}
use Rattle.sqlite.specs.State.{Shown, State}
use Rattle.sqlite.specs.Term.{Env, Term, eval, eval_all}
use Rattle.sqlite.specs.Tree.{Trees}
use Rattle.sqlite.proofs.Callers.{IsPlain, command_of, reads_as}
use Rattle.sqlite_value.specs.Keys.{directed}
use Rattle.sqlite_value.specs.Order.{value_cmp}
use Rattle.sqlite_value.proofs.OrderLemmas.{then-Equal, value_cmp-Int}
use Rattle.sql_base.specs.Queries.{from_tree}
use Rattle.sql_base.proofs.Replacing.{nothing_found}
use Rattle.sql_base.proofs.Selecting.{map_map, map_same, matched, no_overlay, passes, shown}
use Rattle.sql_tables.specs.Tables.{our_schema}
use Rattle.sql_rows.specs.Decoding.{number_in}
use Rattle.sql_rows.specs.Encoding.{number}
use Rattle.sql_rows.specs.Image.{given_rows}
use Rattle.row_reads.specs.Decoding.{IsFirst, first_number, id_in}
use Rattle.row_reads.specs.Extremes.{AreSorted, IsGreatest, IsGreatestBy, IsLeastBy}
use Rattle.row_reads.proofs.Asking.{all_found, given_as, look, part, shown_row, whole}

-- the query for the rows of one tree that satisfy `filters`, sorted by the first column in
-- ascending or descending order, with a limit
abbrev pub sorted_query : Bool → Term → ℕ → List Term → Term → List Term → Query
sorted_query descending limit tree filters first more =
    record (from_tree tree filters (first ∷ more)) { order = (first, record { collation = Binary; descending = descending }) ∷ []; limit = limit }

-- At the current schema, the text is such a query.
pub record AsksSorted (descending : Bool) (limit : Term) (text : List ℕ) (tree : ℕ) (filters : List Term) (first : Term) (more : List Term) : Type 0 where
  pub names : List (List ℕ)
  pub is : command_of (understood our_schema text) ≡ Select (record { lets = []; body = sorted_query descending limit tree filters first more }) names
  pub plain : IsPlain (understood our_schema text)
  pub unlisted : reads_listing our_schema text ≡ false

abbrev pub IsInOrder : Bool → List Row → Type 0
IsInOrder descending = IsSortedByKey (λ (r : Row). column r 0) (directed descending value_cmp)

-- The sort key is the first column.
abbrev Keyed : Output → Type 0
Keyed o = column o.0 0 ≡ column o.1 0

module _ (descending : Bool) (limit : Term) (tree : ℕ) (filters : List Term) (first : Term) (more : List Term) where
  all_keyed : (envs : List Env) → All Keyed (map (output (sorted_query descending limit tree filters first more)) envs)
  all_keyed [] i d low = absurd (omega arith)
  all_keyed (e ∷ envs) zero d low = refl
  all_keyed (e ∷ envs) (suc i) d low = all_keyed envs i d (omega arith)

  -- the shown rows that satisfy the conditions, sorted by the first column, up to the limit
  in_order : (db : Trees) (params : Row) (rows : List Row) → IsAnswer (sorted_query descending limit tree filters first more) (overlay db []) params rows
      → (all : List Row) × IsPermutation (map (shown (first ∷ more) params) (filter (passes filters params) (db tree))) all × IsInOrder descending all
      × (rows ≡ limited (as_count (eval limit (params ∷ []))) all)
  in_order db params rows a =
      let q = sorted_query descending limit tree filters first more in
      let found : a.staged ≡ map (λ r. params ∷ r ∷ []) (filter (passes filters params) (db tree)) = a.grouped ∙ matched filters params (overlay db [] tree) ∙ ap (λ rs. map (λ r. params ∷ r ∷ []) (filter (passes filters params) rs)) (no_overlay db tree) in
      let all : map (λ (p : Output). p.1) a.kept ≡ map (shown (first ∷ more) params) (filter (passes filters params) (db tree)) =
      ap (map (λ (p : Output). p.1)) (a.distinct ∙ ap (map (output q)) found)
      ∙ map_map (λ (p : Output). p.1) (output q) (map (λ r. params ∷ r ∷ []) (filter (passes filters params) (db tree)))
      ∙ map_map (λ (e : Env). eval_all (first ∷ more) e) (λ r. params ∷ r ∷ []) (filter (passes filters params) (db tree)) in
      let keyed : All Keyed a.ordered = All-permutation Keyed _ _ a.same (subst (All Keyed) (sym a.distinct) (all_keyed a.staged)) in
      let cmp = directed descending value_cmp in
      let rises : IsInOrder descending (map (λ (p : Output). p.1) a.ordered) = λ k d least low.
      let e : Output = (d, d) in
      let within : k + 1 < length a.ordered = omega (arith, length-map a.ordered (λ (p : Output). p.1)) in
      let x = get_or a.ordered (k + 1) e in
      let y = get_or a.ordered k e in
      let below : is_lt (cmp (column x.0 0) (column y.0 0)) ≡ false = ap is_lt (sym (then-Equal (cmp (column x.0 0) (column y.0 0)))) ∙ a.sorted k e (omega arith) within in
      let typed : is_lt (cmp (column x.1 0) (column y.1 0)) ≡ false = ap (λ v. is_lt (cmp v (column y.1 0))) (sym (keyed (k + 1) e within)) ∙ ap (λ v. is_lt (cmp (column x.0 0) v)) (sym (keyed k e (omega arith))) ∙ below in
      ap (λ (r : Row). is_lt (cmp (column r 0) (column (get_or (map (λ (p : Output). p.1) a.ordered) k d) 0))) (get_or-map (λ (p : Output). p.1) a.ordered (k + 1) e d within)
      ∙ ap (λ (r : Row). is_lt (cmp (column x.1 0) (column r 0))) (get_or-map (λ (p : Output). p.1) a.ordered k e d (omega arith)) ∙ typed in (
        map (λ (p : Output). p.1) a.ordered,
        subst (λ xs. IsPermutation xs (map (λ (p : Output). p.1) a.ordered)) all (IsPermutation-map (λ (p : Output). p.1) a.kept a.ordered a.same),
        rises,
        a.shown,
      )

module _ {X : Type 0} (by_rowid : Bool) (encode : X → Row) (filters : List Term) (first : Term) (more : List Term) (params : Row) (key : X → Bool)
    (none : look filters (first ∷ more) params [] ≡ look filters (first ∷ more) params (whole by_rowid (part by_rowid [])))
    (some : (v : Value) (r : Row) → look filters (first ∷ more) params (v ∷ r) ≡ look filters (first ∷ more) params (whole by_rowid (part by_rowid (v ∷ r))))
    (key_is : (x : X) → passes filters params (whole by_rowid (encode x)) ≡ key x) where
  -- the result is what the rows with the key show, sorted, up to the limit
  pub asked_sorted : (descending : Bool) (limit : Term) (text : List ℕ) (tree : ℕ) → AsksSorted descending limit text tree filters first more
      → (old new : State) (rows : List Row) → Shown text params old new rows → old.now.schema ≡ our_schema → (xs : List X) → IsPermutation (map encode xs) (given_rows by_rowid (old.now.trees tree))
      → (all : List Row) × IsPermutation (map (λ x. shown_row by_rowid (first ∷ more) params (encode x)) (filter key xs)) all × IsInOrder descending all
      × (rows ≡ limited (as_count (eval limit (params ∷ []))) all)
  asked_sorted descending limit text tree asks old new rows h ours xs filled =
      let command = Select (record { lets = []; body = sorted_query descending limit tree filters first more }) asks.names in
      let it = in_order descending limit tree filters first more old.now.trees params rows ((reads_as text params old new our_schema ours command asks.is asks.plain asks.unlisted rows h).answer Null) in
      (it.0, given_as by_rowid encode filters (first ∷ more) params key none some key_is xs (old.now.trees tree) it.0 filled it.1, it.2, it.3)

not_below : (a b : ℕ) → is_lt (value_cmp (number a) (number b)) ≡ is_lt (nat_cmp a b)
not_below a b = ap is_lt (value_cmp-Int (pos a) (pos b)) ∙ grind (arith, nat_tests)

at_most : (a b : ℕ) → is_lt (nat_cmp a b) ≡ false → b ≤ a
at_most a b h = grind (arith, nat_tests)

abbrev IsNumbered : Row → Type 0
IsNumbered r = column r 0 ≡ number (number_in (column r 0))

below_as_numbers : (r s : Row) → IsNumbered r → IsNumbered s → is_lt (value_cmp (column r 0) (column s 0)) ≡ is_lt (nat_cmp (number_in (column r 0)) (number_in (column s 0)))
below_as_numbers r s a b =
    ap (λ v. is_lt (value_cmp v (column s 0))) a ∙ ap (λ v. is_lt (value_cmp (number (number_in (column r 0))) v)) b ∙ not_below (number_in (column r 0)) (number_in (column s 0))

are_numbers_given : {X : Type 0} (view : X → Row) → ((x : X) → IsNumbered (view x)) → (xs : List X) → All IsNumbered (map view xs)
are_numbers_given view first_is [] k d low = absurd (omega arith)
are_numbers_given view first_is (x ∷ xs) zero d low = first_is x
are_numbers_given view first_is (x ∷ xs) (suc k) d low = are_numbers_given view first_is xs k d (omega arith)

-- if every row begins with a number, rows in any other order also do
pub numbered : {X : Type 0} (view : X → Row) → ((x : X) → IsNumbered (view x)) → (xs : List X) (all : List Row) → IsPermutation (map view xs) all → All IsNumbered all
numbered view first_is xs all got = All-permutation IsNumbered _ _ got (are_numbers_given view first_is xs)

-- decoded rows in ascending order
module _ {Y : Type 0} (decode : Row → Y) (rank : Y → ℕ) (rank_is : (r : Row) → rank (decode r) ≡ number_in (column r 0)) where
  rises : (all : List Row) → All IsNumbered all → IsInOrder false all → IsNonDecreasingBy rank (map decode all)
  rises all numbers sorted =
      let none : Row = [] in
      IsNonDecreasingBy-from_sort rank (map decode all) (λ k d least low.
      let within : k + 1 < length all = omega (arith, length-map all decode) in
      let r = get_or all (k + 1) none in
      let s = get_or all k none in
      ap (λ y. is_lt (nat_cmp (rank y) (rank (get_or (map decode all) k d)))) (get_or-map decode all (k + 1) none d within)
      ∙ ap (λ y. is_lt (nat_cmp (rank (decode r)) (rank y))) (get_or-map decode all k none d (omega arith))
      ∙ ap (λ n. is_lt (nat_cmp n (rank (decode s)))) (rank_is r) ∙ ap (λ n. is_lt (nat_cmp (number_in (column r 0)) n)) (rank_is s)
      ∙ sym (below_as_numbers r s (numbers (k + 1) none within) (numbers k none (omega arith))) ∙ sorted k none (omega arith) within)

least_of : {Y : Type 0} (rank : Y → ℕ) (zs ys : List Y) → IsPermutation zs ys → IsNonDecreasingBy rank ys → (found : Option Y) → IsFirst ys found → IsLeastBy rank zs found
least_of rank zs [] same up found none = subst (IsLeastBy rank zs) (sym none) (nothing_found zs (IsPermutation-sym zs [] same))
least_of rank zs (y ∷ ys) same up found some =
    let within : Contains zs y = All-permutation (Contains zs) zs (y ∷ ys) same (All-contains_itself zs) 0 y (omega arith) in
    let least : All (λ z. rank y ≤ rank z) zs = All-permutation (λ z. rank y ≤ rank z) (y ∷ ys) zs (IsPermutation-sym zs (y ∷ ys) same) (λ k d low. up 0 k d (omega arith) low) in
    subst (IsLeastBy rank zs) (sym some) (within, least)

pub first_of_one : {Y : Type 0} (decode : Row → Y) (all : List Row) (found : Option Y) → IsFirst (map decode (take 1 all)) found → IsFirst (map decode all) found
first_of_one decode [] found first = first
first_of_one decode (r ∷ all) found first = first

-- values from a sorted result
module _ {X Y : Type 0} (key : X → Bool) (view : X → Row) (xs : List X) (all : List Row) (got : IsPermutation (map view (filter key xs)) all) (sorted : IsInOrder false all)
    (first_is : (x : X) → IsNumbered (view x)) (decode : Row → Y) (f : X → Y) (back : (x : X) → decode (view x) ≡ f x) (rank : Y → ℕ)
    (rank_is : (r : Row) → rank (decode r) ≡ number_in (column r 0)) where
  up : IsNonDecreasingBy rank (map decode all)
  up = rises decode rank rank_is all (numbered view first_is (filter key xs) all got) sorted

  -- the values of all rows
  pub sorted_found : (rows : List Row) → rows ≡ all → AreSorted rank (map f (filter key xs)) (map decode rows)
  sorted_found rows is = subst (λ rs. AreSorted rank (map f (filter key xs)) (map decode rs)) (sym is) (all_found key view xs all got decode f back, up)

  -- the value of the first row
  pub least_found : (rows : List Row) → rows ≡ take 1 all → (found : Option Y) → IsFirst (map decode rows) found → IsLeastBy rank (map f (filter key xs)) found
  least_found rows is found first =
      least_of rank (map f (filter key xs)) (map decode all) (all_found key view xs all got decode f back) up found
      (first_of_one decode all found (subst (λ rs. IsFirst (map decode rs) found) is first))

-- in descending order, no row has a higher number than the first row
falls : (all : List Row) → All IsNumbered all → IsInOrder true all → (j : ℕ) → j < length all → number_in (column (get_or all j []) 0) ≤ number_in (column (get_or all 0 []) 0)
falls all numbers sorted zero low = omega arith
falls all numbers sorted (suc j) low =
    let before = falls all numbers sorted j (omega arith) in
    let r = get_or all j [] in
    let next = get_or all (j + 1) [] in
    let step : number_in (column next 0) ≤ number_in (column r 0) =
    at_most (number_in (column r 0)) (number_in (column next 0)) (sym (below_as_numbers r next (numbers j [] (omega arith)) (numbers (j + 1) [] (omega arith))) ∙ sorted j [] (omega arith) (omega arith)) in
    rw (sym (add-one j)) (omega arith)

-- if no element has a higher number than the first one
highest_first : {Y : Type 0} (rank : Y → ℕ) (zs ys : List Y) → IsPermutation zs ys → ((k : ℕ) (d : Y) → k < length ys → rank (get_or ys k d) ≤ rank (get_or ys 0 d))
    → (found : Option Y) → IsFirst ys found → IsGreatestBy rank zs found
highest_first rank zs [] same down found none = subst (IsGreatestBy rank zs) (sym none) (nothing_found zs (IsPermutation-sym zs [] same))
highest_first rank zs (y ∷ ys) same down found some =
    let within : Contains zs y = All-permutation (Contains zs) zs (y ∷ ys) same (All-contains_itself zs) 0 y (omega arith) in
    let highest : All (λ z. rank z ≤ rank y) zs = All-permutation (λ z. rank z ≤ rank y) (y ∷ ys) zs (IsPermutation-sym zs (y ∷ ys) same) (λ k d low. down k d low) in
    subst (IsGreatestBy rank zs) (sym some) (within, highest)

-- values from a result in descending order
module _ {X Y : Type 0} (key : X → Bool) (view : X → Row) (xs : List X) (all : List Row) (got : IsPermutation (map view (filter key xs)) all) (sorted : IsInOrder true all)
    (first_is : (x : X) → IsNumbered (view x)) (decode : Row → Y) (f : X → Y) (back : (x : X) → decode (view x) ≡ f x) (rank : Y → ℕ)
    (rank_is : (r : Row) → rank (decode r) ≡ number_in (column r 0)) where
  rank_at : (k : ℕ) (d : Y) → k < length all → rank (get_or (map decode all) k d) ≡ number_in (column (get_or all k []) 0)
  rank_at k d within = ap rank (get_or-map decode all k [] d within) ∙ rank_is (get_or all k [])

  down : (k : ℕ) (d : Y) → k < length (map decode all) → rank (get_or (map decode all) k d) ≤ rank (get_or (map decode all) 0 d)
  down k d low =
      let within : k < length all = omega (arith, length-map all decode) in
      subst (λ n. n ≤ rank (get_or (map decode all) 0 d)) (sym (rank_at k d within))
      (subst (λ n. number_in (column (get_or all k []) 0) ≤ n) (sym (rank_at 0 d (omega arith))) (falls all (numbered view first_is (filter key xs) all got) sorted k within))

  -- the value of the first row
  pub last_found : (rows : List Row) → rows ≡ take 1 all → (found : Option Y) → IsFirst (map decode rows) found → IsGreatestBy rank (map f (filter key xs)) found
  last_found rows is found first =
      highest_first rank (map f (filter key xs)) (map decode all) (all_found key view xs all got decode f back) down found
      (first_of_one decode all found (subst (λ rs. IsFirst (map decode rs) found) is first))

greatest_of : (zs ys : List ℕ) → IsPermutation zs ys → (n : ℕ) → IsFirst ys (Some n) → All (λ m. m ≤ n) ys → IsGreatest zs n
greatest_of zs [] same n first most = absurd (none-some n (sym first))
greatest_of [] (y ∷ ys) same n first most = absurd (omega (arith, length_permutation [] (y ∷ ys) same))
greatest_of (z ∷ zs) (y ∷ ys) same n first most =
    let is : n ≡ y = same_Some n y first in (
      subst (Contains (z ∷ zs)) (sym is) (All-permutation (Contains (z ∷ zs)) (z ∷ zs) (y ∷ ys) same (All-contains_itself (z ∷ zs)) 0 y (omega arith)),
      All-permutation (λ m. m ≤ n) (y ∷ ys) (z ∷ zs) (IsPermutation-sym (z ∷ zs) (y ∷ ys) same) most,
    )

-- in descending order, the first row has the highest number
pub greatest_found : {X : Type 0} (view : X → Row) → ((x : X) → IsNumbered (view x)) → (xs : List X) (all : List Row) → IsPermutation (map view xs) all → IsInOrder true all
    → (f : X → ℕ) → ((x : X) → number_in (column (view x) 0) ≡ f x) → (rows : List Row) → rows ≡ take 1 all → IsGreatest (map f xs) (first_number rows)
greatest_found view first_is xs all got sorted f back rows is =
    subst (λ rs. IsGreatest (map f xs) (first_number rs)) (sym is)
    (from all (falls all (numbered view first_is xs all got) sorted)
    (subst (λ zs. IsPermutation zs (map id_in all)) (map_map id_in view xs ∙ map_same (λ x. id_in (view x)) f back xs) (IsPermutation-map id_in (map view xs) all got)))
  where
    from : (all : List Row) → ((j : ℕ) → j < length all → number_in (column (get_or all j []) 0) ≤ number_in (column (get_or all 0 []) 0)) → IsPermutation (map f xs) (map id_in all)
        → IsGreatest (map f xs) (first_number (take 1 all))
    from [] most same = subst (λ zs. IsGreatest zs 0) (sym (nothing_found (map f xs) (IsPermutation-sym (map f xs) [] same))) refl
    from (r ∷ rest) most same =
        greatest_of (map f xs) (map id_in (r ∷ rest)) same (number_in (column r 0)) refl
        (λ k d low.
        let within : k < length (r ∷ rest) = omega (arith, length-map (r ∷ rest) id_in) in
        subst (λ m. m ≤ number_in (column r 0)) (sym (get_or-map id_in (r ∷ rest) k [] d within)) (most k within))
