-- Proves that two rows are found for every record that has a fault.
use Rattle.std.proofs.Common.{◌≡◌, ℕ, Bool, true, false, not, List, [], ◌∷◌, ◌++◌, map, filter, Option, Some, None, refl, sym, ap, subst, ◌∙◌}
use Rattle.std.specs.Prelude.{◌==◌, ◌&&◌, ⊤, bytes_eq, is_some, nat_eq, if◌then◌else◌}
use Rattle.std.specs.List.{find, flat_map, list_all, list_any}
use Rattle.std.proofs.lemmas.Bool.{and_from, both_ways, eq-eqb, eqb-true, not-false, not_from_true, or_from}
use Rattle.std.proofs.lemmas.List.{append-nil, append_assoc}
use Rattle.std.proofs.lemmas.List.Folds.{list_any-append}
use Rattle.store_data.specs.Faults.{are_alike, first_of, has_twice, identifier_twice, marks_differ, rank_of, same_marks, summaries_fault}
use Rattle.store_data.specs.Groups.{first_appearances, grouped, with_the_key}
use Rattle.store_data.specs.Ranks.{by_rank, group_of, of_rank, ranks}
use Rattle.store_data.specs.declared.faults.PlanFault.{PlanFault}
use Rattle.store_data.specs.declared.faults.PlanFault.TheVariants as plan
use Rattle.store_data.specs.declared.faults.Summary.{Summary}
use Rattle.store_data.proofs.GroupLemmas.{bytes_eq-same, same-bytes_eq}
use Rattle.import_causes.specs.Causes.{Numbered}
use Rattle.import_causes.specs.Pairs.{differ, first_pair, is_too_many, overflow, pair_or, partner, repeat, same_application}

-- ---- lists without a pair

-- no element passes the test
abbrev NoneIn : {X : Type 0} → (X → Bool) → List X → Type 0
NoneIn test [] = ⊤
NoneIn test (x ∷ xs) = (test x ≡ false) × NoneIn test xs

-- no element passes the test with a later one
abbrev Pairless : {X : Type 0} → (X → X → Bool) → List X → Type 0
Pairless clash [] = ⊤
Pairless clash (x ∷ xs) = NoneIn (clash x) xs × Pairless clash xs

-- no element of `before` passes the test with one of `ys`
abbrev Across : {X : Type 0} → (X → X → Bool) → List X → List X → Type 0
Across clash before [] = ⊤
Across clash before (y ∷ ys) = NoneIn (λ x. clash x y) before × Across clash before ys

find-none : {X : Type 0} (test : X → Bool) (xs : List X) → find test xs ≡ None → NoneIn test xs
find-none test [] none = tt
find-none test (x ∷ xs) none = at (test x) refl none (λ rest. find-none test xs rest)
  where
    at : (b : Bool) → test x ≡ b → (if b then Some x else find test xs) ≡ None → (find test xs ≡ None → NoneIn test xs) → (test x ≡ false) × NoneIn test xs
    at true is none more = absurd (cc)
    at false is none more = (is, more none)

none-split : {X : Type 0} (test : X → Bool) (xs : List X) (y : X) → NoneIn test (xs ++ y ∷ []) → NoneIn test xs × (test y ≡ false)
none-split test [] y none = (tt, none.0)
none-split test (x ∷ xs) y none = let both = none-split test xs y none.1 in ((none.0, both.0), both.1)

across-split : {X : Type 0} (clash : X → X → Bool) (before : List X) (row : X) (ys : List X) → Across clash (before ++ row ∷ []) ys
    → Across clash before ys × NoneIn (clash row) ys
across-split clash before row [] across = (tt, tt)
across-split clash before row (y ∷ ys) across =
    let here = none-split (λ x. clash x y) before row across.0 in
    let later = across-split clash before row ys across.1 in
    ((here.0, later.0), (here.1, later.1))

none-refined : {X : Type 0} (key test weak : X → Bool) → ((y : X) → key y ≡ true → test y ≡ false → weak y ≡ false) → (xs : List X)
    → NoneIn test xs → NoneIn weak (filter key xs)
none-refined key test weak weaker [] none = tt
none-refined key test weak weaker (x ∷ xs) none = at (key x) refl (none-refined key test weak weaker xs none.1)
  where
    at : (b : Bool) → key x ≡ b → NoneIn weak (filter key xs) → NoneIn weak (if b then x ∷ filter key xs else filter key xs)
    at true is more = (weaker x is none.0, more)
    at false is more = more

-- for elements with a key, a weaker test suffices
refined : {X : Type 0} (key : X → Bool) (clash weak : X → X → Bool)
    → ((x y : X) → key x ≡ true → key y ≡ true → clash x y ≡ false → weak x y ≡ false) → (xs : List X) → Pairless clash xs → Pairless weak (filter key xs)
refined key clash weak weaker [] none = tt
refined key clash weak weaker (x ∷ xs) none = at (key x) refl (refined key clash weak weaker xs none.1)
  where
    at : (b : Bool) → key x ≡ b → Pairless weak (filter key xs) → Pairless weak (if b then x ∷ filter key xs else filter key xs)
    at true is more = (none-refined key (clash x) (weak x) (λ y has apart. weaker x y is has apart) xs none.0, more)
    at false is more = more

none-mapped : {X Y : Type 0} (f : X → Y) (test : Y → Bool) (xs : List X) → NoneIn (λ x. test (f x)) xs → NoneIn test (map f xs)
none-mapped f test [] none = tt
none-mapped f test (x ∷ xs) none = (none.0, none-mapped f test xs none.1)

mapped : {X Y : Type 0} (f : X → Y) (clash : Y → Y → Bool) (xs : List X) → Pairless (λ x y. clash (f x) (f y)) xs → Pairless clash (map f xs)
mapped f clash [] none = tt
mapped f clash (x ∷ xs) none = (none-mapped f (clash (f x)) xs none.0, mapped f clash xs none.1)

any-none : {X : Type 0} (test : X → Bool) (xs : List X) → NoneIn test xs → list_any test xs ≡ false
any-none test [] none = refl
any-none test (x ∷ xs) none = or_from (test x) (list_any test xs) none.0 (any-none test xs none.1)

any-map : {X Y : Type 0} (test : Y → Bool) (f : X → Y) → ((x : X) → test (f x) ≡ false) → (xs : List X) → list_any test (map f xs) ≡ false
any-map test f each [] = refl
any-map test f each (x ∷ xs) = or_from (test (f x)) (list_any test (map f xs)) (each x) (any-map test f each xs)

any-flat : {X Y : Type 0} (test : Y → Bool) (f : X → List Y) → ((x : X) → list_any test (f x) ≡ false) → (xs : List X) → list_any test (flat_map f xs) ≡ false
any-flat test f each [] = refl
any-flat test f each (x ∷ xs) = list_any-append test (f x) (flat_map f xs) ∙ or_from (list_any test (f x)) (list_any test (flat_map f xs)) (each x) (any-flat test f each xs)

-- ---- the search for a pair

pair-head : (fault : PlanFault) (m : ℕ) (before more : List Numbered) (row : Numbered) → first_pair fault m before (row ∷ more) ≡ None
    → (partner fault m before row ≡ None) × (first_pair fault m (before ++ row ∷ []) more ≡ None)
unfolding first_pair
pair-head fault m before more row none = at (partner fault m before row) refl none
  where
    at : (o : Option Numbered) → partner fault m before row ≡ o → pair_or o row (first_pair fault m (before ++ row ∷ []) more) ≡ None
        → (partner fault m before row ≡ None) × (first_pair fault m (before ++ row ∷ []) more ≡ None)
    at None was none = (was, none)
    at (Some x) was none = absurd (cc)

abbrev aid_of : Summary → List ℕ
aid_of row = row.aid

abbrev summary_in : Numbered → Summary
summary_in e = e.1

same_by_key : (x y : Summary) (k : List ℕ) → bytes_eq x.aid k ≡ true → bytes_eq y.aid k ≡ true → same_application x y ≡ true
same_by_key x y k of_x of_y =
    let same : x.aid ≡ y.aid = same-bytes_eq x.aid k of_x ∙ sym (same-bytes_eq y.aid k of_y) in
    subst (λ (a : List ℕ). bytes_eq x.aid a ≡ true) same (bytes_eq-same x.aid)

-- two rows have the fault if they pass `clash`; in the same application, those that pass `test` do
module _ (fault : PlanFault) (m : ℕ) (clash test : Summary → Summary → Bool)
    (is : (before : List Numbered) (row : Numbered) → partner fault m before row ≡ find (λ (e : Numbered). clash e.1 row.1) before)
    (weaker : (x y : Summary) → same_application x y ≡ true → clash x y ≡ false → test x y ≡ false) where
  abbrev clash_in : Numbered → Numbered → Bool
  clash_in x y = clash x.1 y.1

  unpaired : (before rows : List Numbered) → first_pair fault m before rows ≡ None → Across clash_in before rows × Pairless clash_in rows
  unpaired before [] none = (tt, tt)
  unpaired before (row ∷ more) none =
      let head = pair-head fault m before more row none in
      let later = unpaired (before ++ row ∷ []) more head.1 in
      let both = across-split clash_in before row more later.0 in
      ((find-none (λ (e : Numbered). clash e.1 row.1) before (sym (is before row) ∙ head.0), both.0), (both.1, later.1))

  -- without a pair of rows, no application has the fault
  none_faulty : (is_faulty : List Summary → Bool) → ((own : List Summary) → Pairless test own → is_faulty own ≡ false)
      → (rows : List Numbered) → first_pair fault m [] rows ≡ None → list_any is_faulty (grouped aid_of (map summary_in rows)) ≡ false
  unfolding grouped
  none_faulty is_faulty sound rows none =
      let all = map summary_in rows in
      let apart = mapped summary_in clash rows (unpaired [] rows none).1 in
      any-map is_faulty (with_the_key aid_of all)
      (λ k. sound (with_the_key aid_of all k)
      (refined (λ (row : Summary). bytes_eq row.aid k) clash test (λ x y of_x of_y. weaker x y (same_by_key x y k of_x of_y)) all apart))
      (first_appearances (map aid_of all))

-- ---- fault 21

abbrev unlike : Summary → Summary → Bool
unlike x y = not (same_marks x y)

abbrev unlike_in_rank : Summary → Summary → Bool
unlike_in_rank x y = (x.rank == y.rank) && not (same_marks x y)

in_rank : (r : ℕ) (x y : Summary) → (x.rank == r) ≡ true → (y.rank == r) ≡ true → unlike_in_rank x y ≡ false → unlike x y ≡ false
in_rank r x y of_x of_y apart =
    let same : x.rank ≡ y.rank = eqb-true x.rank r of_x ∙ sym (eqb-true y.rank r of_y) in
    rw (eq-eqb x.rank y.rank same) at apart

all_marks : (x : Summary) (more : List Summary) → NoneIn (unlike x) more → list_all (same_marks x) more ≡ true
all_marks x [] none = refl
all_marks x (y ∷ more) none = and_from (same_marks x y) (list_all (same_marks x) more) (not-false (same_marks x y) none.0) (all_marks x more none.1)

group_alike : (rows : List Summary) → Pairless unlike rows → list_any (λ (rows : List Summary). not (are_alike rows)) (group_of rows) ≡ false
group_alike [] none = refl
group_alike (x ∷ more) none = or_from (not (are_alike (x ∷ more))) false (not_from_true (are_alike (x ∷ more)) (all_marks x more none.0)) refl

application_alike : (own : List Summary) → Pairless unlike_in_rank own → marks_differ own ≡ false
unfolding marks_differ by_rank
application_alike own none =
    any-flat (λ (rows : List Summary). not (are_alike rows)) (λ (r : ℕ). group_of (of_rank rank_of own r))
    (λ r. group_alike (of_rank rank_of own r) (refined (λ (row : Summary). rank_of row == r) unlike_in_rank unlike (in_rank r) own none))
    ranks

first_marks : (a b c : Bool) → first_of a b c ≡ Some plan.MarksDiffer → a ≡ true
first_marks true b c is = refl
first_marks false true c is = absurd (cc)
first_marks false false true is = absurd (cc)
first_marks false false false is = absurd (cc)

-- ---- fault 22

abbrev identifier_of : Summary → ℕ
identifier_of row = row.identifier

abbrev same_identifier : Summary → Summary → Bool
same_identifier x y = nat_eq x.identifier y.identifier

once : (xs : List ℕ) → Pairless nat_eq xs → has_twice xs ≡ false
once [] none = refl
once (x ∷ xs) none = or_from (list_any (nat_eq x) xs) (has_twice xs) (any-none (nat_eq x) xs none.0) (once xs none.1)

application_once : (own : List Summary) → Pairless same_identifier own → identifier_twice own ≡ false
unfolding identifier_twice
application_once own none = once (map identifier_of own) (mapped identifier_of nat_eq own none)

first_twice : (a b c : Bool) → first_of a b c ≡ Some plan.IdentifierTwice → b ≡ true
first_twice true b c is = absurd (cc)
first_twice false true c is = refl
first_twice false false true is = absurd (cc)
first_twice false false false is = absurd (cc)

-- ---- fault 23

never_full : (m : ℕ) → overflow m [] ≡ false
unfolding summaries_fault grouped
never_full m = refl

full_paired : (m : ℕ) (before rows : List Numbered) → overflow m (before ++ rows) ≡ true → overflow m before ≡ false
    → first_pair plan.TooManyBlocks m before rows ≡ None → ⊥
full_paired m before [] full room none = both_ways (overflow m before) room (ap (overflow m) (sym (append-nil before)) ∙ full)
full_paired m before (row ∷ more) full room none =
    at (overflow m (before ++ row ∷ [])) refl head.0 (λ room. full_paired m (before ++ row ∷ []) more (ap (overflow m) (append_assoc before (row ∷ []) more) ∙ full) room head.1)
  where
    head : (partner plan.TooManyBlocks m before row ≡ None) × (first_pair plan.TooManyBlocks m (before ++ row ∷ []) more ≡ None)
    head = pair-head plan.TooManyBlocks m before more row none

    at : (b : Bool) → overflow m (before ++ row ∷ []) ≡ b
        → (if b then find (λ (e : Numbered). same_application e.1 row.1) (before ++ row ∷ []) else None) ≡ None
        → (overflow m (before ++ row ∷ []) ≡ false → ⊥) → ⊥
    at true is missing later =
        let test : Numbered → Bool = λ e. same_application e.1 row.1 in
        both_ways (same_application row.1 row.1) (none-split test before row (find-none test (before ++ row ∷ []) missing)).1 (bytes_eq-same row.1.aid)
    at false is missing later = later is

-- ---- all faults

no_memory : (a b c : Bool) → first_of a b c ≡ Some plan.Memory → ⊥
no_memory true b c is = cc
no_memory false true c is = cc
no_memory false false true is = cc
no_memory false false false is = cc

never_unpaired : (fault : PlanFault) (m : ℕ) (rows : List Numbered) → summaries_fault m (map summary_in rows) ≡ Some fault → first_pair fault m [] rows ≡ None → ⊥
unfolding summaries_fault
never_unpaired plan.MarksDiffer m rows is none =
    let faulty = list_any marks_differ (grouped aid_of (map summary_in rows)) in
    both_ways faulty (none_faulty plan.MarksDiffer m differ unlike_in_rank (λ before row. refl) (λ x y same apart. rw same at apart) marks_differ application_alike rows none) (first_marks faulty _ _ is)
never_unpaired plan.IdentifierTwice m rows is none =
    let faulty = list_any identifier_twice (grouped aid_of (map summary_in rows)) in
    both_ways faulty (none_faulty plan.IdentifierTwice m repeat same_identifier (λ before row. refl) (λ x y same apart. rw same at apart) identifier_twice application_once rows none) (first_twice _ faulty _ is)
never_unpaired plan.TooManyBlocks m rows is none = full_paired m [] rows (ap is_too_many is) (never_full m) none
never_unpaired plan.Memory m rows is none = no_memory _ _ _ is

-- two rows are found for a record that has a fault
pub pair-found : (fault : PlanFault) (m : ℕ) (rows : List Numbered) → summaries_fault m (map (λ (e : Numbered). e.1) rows) ≡ Some fault → is_some (first_pair fault m [] rows) ≡ true
pair-found fault m rows is = at (first_pair fault m [] rows) refl
  where
    at : (o : Option (Numbered × Numbered)) → first_pair fault m [] rows ≡ o → is_some o ≡ true
    at (Some two) was = refl
    at None was = absurd (never_unpaired fault m rows is was)
