-- Proves that the records of a batch have no faults.
use Rattle.std.proofs.Common.{◌≡◌, ℕ, ◌+◌, Bool, true, false, cond, ◌||◌, List, [], ◌∷◌, map, All, Option, Some, None, Result, Ok, Err, inl, inr, refl, sym, ap, subst, ◌∙◌}
use Rattle.std.specs.Prelude.{bytes_eq, option_and_then}
use Rattle.std.specs.List.{enumerate_from, list_any}
use Rattle.std.proofs.lemmas.Bool.{cases_Bool, false≢true}
use Rattle.std.proofs.lemmas.List.Elements.{All-nil, All-cons, All-head, All-tail}
use Rattle.std.proofs.lemmas.Option.{none-some}
use Rattle.store_data.specs.Groups.{first_appearances, grouped, with_the_key}
use Rattle.store_data.specs.Faults.{first_of, summaries_fault}
use Rattle.store_data.specs.RecordFaults.{record_fault}
use Rattle.store_data.specs.declared.faults.PlanFault.{PlanFault}
use Rattle.store_data.specs.declared.faults.PlanFault.TheVariants.{IdentifierTwice, MarksDiffer, Memory, TooManyBlocks}
use Rattle.store_data.specs.declared.row.Product.{Product}
use Rattle.store_data.specs.declared.row.Row.{Row}
use Rattle.store_data.proofs.FaultLemmas.{All-from_map}
use Rattle.store_data.proofs.GroupLemmas.{list_any-first_appearances, same-bytes_eq, with_the_key-none}
use Rattle.batch_import.proofs.OutlineLemmas.{keys_of_numbered}
use Rattle.batch_import.specs.Batch.{batch_of, first_record_fault, group_fault, kind_of_plan, coming_of, ok_unless, or_else, planned_rows, records_of_rows, fault_of_row}
use Rattle.batch_import.specs.SoundRecords.{AreSoundRecords}
use Rattle.batch_import.specs.declared.fault.RowFault.{RowFault}

-- if neither alternative has a value, both are `None`
or_else-None : {A : Type 0} (o u : Option A) → or_else o u ≡ None → (o ≡ None) × (u ≡ None)
or_else-None None u e = (refl, e)
or_else-None (Some x) u e = absurd (none-some x (sym e))

no_group_fault : (m : ℕ) (groups : List (List (ℕ × Row))) → first_record_fault m groups ≡ None → All (λ group. group_fault m group ≡ None) groups
unfolding first_record_fault
no_group_fault m [] none = All-nil (λ group. group_fault m group ≡ None)
no_group_fault m (group ∷ more) none =
    let both = or_else-None (group_fault m group) (first_record_fault m more) none in
    All-cons (λ g. group_fault m g ≡ None) group more both.0 (no_group_fault m more both.1)

-- a fault that the tests find isn't out of memory
fault_by_tests : (marks twice blocks : Bool) → first_of marks twice blocks ≡ Some Memory → ⊥
fault_by_tests true twice blocks e = cc
fault_by_tests false true blocks e = cc
fault_by_tests false false true e = cc
fault_by_tests false false false e = cc

given-None : (n : ℕ) (o : Option PlanFault) → (o ≡ Some Memory → ⊥) → fault_of_row n (option_and_then kind_of_plan o) ≡ None → o ≡ None
given-None n None never none = refl
given-None n (Some Memory) never none = absurd (never refl)
given-None n (Some MarksDiffer) never none = absurd (cc)
given-None n (Some IdentifierTwice) never none = absurd (cc)
given-None n (Some TooManyBlocks) never none = absurd (cc)

group_sound : (m n : ℕ) (rows : List Row) → fault_of_row n (option_and_then kind_of_plan (record_fault m rows)) ≡ None → record_fault m rows ≡ None
unfolding record_fault summaries_fault
group_sound m n rows none = given-None n (record_fault m rows) (fault_by_tests _ _ _) none

planned : (m : ℕ) (rows found : List Row) → planned_rows m rows ≡ Ok found → (found ≡ rows) × (first_record_fault m (records_of_rows rows) ≡ None)
planned m [] found e = absurd (cc)
planned m (row ∷ more) found e = unless (first_record_fault m (records_of_rows (row ∷ more))) e
  where
    unless : (o : Option RowFault) → ok_unless o (row ∷ more) ≡ Ok found → (found ≡ row ∷ more) × (o ≡ None)
    unless None e = (sym (cc), refl)
    unless (Some fault) e = absurd (cc)

abbrev by_fault : ℕ → List Row → Option RowFault → Result (List Row) RowFault
by_fault m rows o = elim o as (λ _. Result (List Row) RowFault) [ Some fault ↦ Err fault | None ↦ planned_rows m rows ]

-- the rows of a batch are the rows of its file, and no record has a fault
planned_of : (p : Product) (raw : List ℕ) (rows : List Row) → batch_of p raw ≡ Ok rows → (rows ≡ (coming_of p.check raw).rows) × (first_record_fault p.max (records_of_rows rows) ≡ None)
unfolding batch_of
planned_of p raw rows read = at (coming_of p.check raw).fault read
  where
    at : (o : Option RowFault) → by_fault p.max (coming_of p.check raw).rows o ≡ Ok rows → (rows ≡ (coming_of p.check raw).rows) × (first_record_fault p.max (records_of_rows rows) ≡ None)
    at (Some fault) e = absurd (cc)
    at None all =
        let is = planned p.max (coming_of p.check raw).rows rows all in
        (is.0, subst (λ l. first_record_fault p.max (records_of_rows l) ≡ None) (sym is.0) is.1)

-- ---- the rows of a record

abbrev rows_named : List Row → List ℕ → List Row
rows_named rows r = with_the_key (λ (row : Row). row.rec) rows r

by_test : (b : Bool) (e : ℕ × Row) (items : List (ℕ × Row)) (rows : List Row) → map (λ (x : ℕ × Row). x.1) items ≡ rows → map (λ (x : ℕ × Row). x.1) (cond b (e ∷ items) items) ≡ cond b (e.1 ∷ rows) rows
by_test true e items rows same = ap (λ (l : List Row). e.1 ∷ l) same
by_test false e items rows same = same

-- the numbered rows of a record without their numbers are the rows of this record
numbered_rows : (n : ℕ) (rows : List Row) (r : List ℕ) → map (λ (e : ℕ × Row). e.1) (with_the_key (λ (e : ℕ × Row). e.1.rec) (enumerate_from n rows) r) ≡ rows_named rows r
numbered_rows n [] r = refl
numbered_rows n (row ∷ rows) r =
    by_test (bytes_eq row.rec r) (n, row) (with_the_key (λ (e : ℕ × Row). e.1.rec) (enumerate_from (n + 1) rows) r) (rows_named rows r) (numbered_rows (n + 1) rows r)

-- a property of all names is true of a name that is among them
named_in : (P : List ℕ → Type 0) (names : List (List ℕ)) (r : List ℕ) → All P names → list_any (bytes_eq r) names ≡ true → P r
named_in P [] r each e = absurd (false≢true e)
named_in P (n ∷ names) r each e = elim (cases_Bool (bytes_eq r n)) [
  | inl same ↦ subst P (sym (same-bytes_eq r n same)) (All-head P n names each)
  | inr differ ↦ named_in P names r (All-tail P n names each) (sym (ap (λ b. b || list_any (bytes_eq r) names) differ) ∙ e)
]

abbrev names_of : List Row → List (List ℕ)
names_of rows = first_appearances (map (λ (row : Row). row.rec) rows)

record_there : (m : ℕ) (rows : List Row) (r : List ℕ) → first_record_fault m (records_of_rows rows) ≡ None → list_any (bytes_eq r) (names_of rows) ≡ true → record_fault m (rows_named rows r) ≡ None
unfolding grouped
record_there m rows r none among =
    let key : ℕ × Row → List ℕ = λ (e : ℕ × Row). e.1.rec in
    let items = enumerate_from 2 rows in
    let each = All-from_map (with_the_key key items) (λ group. group_fault m group ≡ None) (first_appearances (map key items)) (no_group_fault m (records_of_rows rows) none) in
    let named = subst (λ keys. All (λ k. group_fault m (with_the_key key items k) ≡ None) (first_appearances keys)) (keys_of_numbered 2 rows) each in
    let sound = group_sound m _ (map (λ (e : ℕ × Row). e.1) (with_the_key key items r)) (named_in (λ k. group_fault m (with_the_key key items k) ≡ None) (names_of rows) r named among) in
    subst (λ own. record_fault m own ≡ None) (numbered_rows 2 rows r) sound

no_row_sound : (m : ℕ) → record_fault m [] ≡ None
unfolding record_fault summaries_fault grouped
no_row_sound m = refl

-- the rows with the name `r` have no fault, even if no record has this name
record_sound : (m : ℕ) (rows : List Row) (r : List ℕ) → first_record_fault m (records_of_rows rows) ≡ None → record_fault m (rows_named rows r) ≡ None
record_sound m rows r none = elim (cases_Bool (list_any (bytes_eq r) (map (λ (row : Row). row.rec) rows))) [
  | inl there ↦ record_there m rows r none (list_any-first_appearances r [] (map (λ (row : Row). row.rec) rows) ∙ there)
  | inr missing ↦ subst (λ own. record_fault m own ≡ None) (sym (with_the_key-none (λ (row : Row). row.rec) rows r missing)) (no_row_sound m)
]

-- no record of a batch has a fault
pub records_sound : (p : Product) (raw : List ℕ) (rows : List Row) → batch_of p raw ≡ Ok rows → AreSoundRecords p.max rows
records_sound p raw rows read = λ name. record_sound p.max rows name (planned_of p raw rows read).1
