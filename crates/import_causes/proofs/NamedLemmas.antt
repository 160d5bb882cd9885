-- Proves that the two rows of a fault of a record are found.
use Rattle.std.proofs.Common.{◌≡◌, ◌+◌, ◌-◌, ℕ, zero, suc, Bool, true, false, List, [], ◌∷◌, length, map, filter, slice_get, Option, Some, None, Result, Ok, Err, refl, sym, ap, subst, ◌∙◌, arith}
use Rattle.std.specs.Prelude.{◌==◌, ◌&&◌, ⊤, bytes_eq, is_some, nat_le, nat_lt, option_and_then, unwrap_or, if◌then◌else◌}
use Rattle.std.specs.List.{enumerate_from, find}
use Rattle.std.proofs.lemmas.Option.{none-some, same_Some}
use Rattle.dgi.specs.Coding.{◌>>=◌}
use Rattle.dgi.proofs.Laws.{bind_ok}
use Rattle.store_data.specs.Faults.{summaries_fault, summary_of}
use Rattle.store_data.specs.Groups.{first_appearances, grouped, with_key, with_the_key}
use Rattle.store_data.specs.Name.{is_name}
use Rattle.store_data.specs.RecordFaults.{record_fault}
use Rattle.store_data.specs.declared.faults.PlanFault.{PlanFault}
use Rattle.store_data.specs.declared.faults.PlanFault.TheVariants as plan
use Rattle.store_data.specs.declared.row.Enc.{Enc}
use Rattle.store_data.specs.declared.row.Product.{Product}
use Rattle.store_data.specs.declared.row.Row.{Row}
use Rattle.store_data.proofs.GroupLemmas.{same-bytes_eq}
use Rattle.batch_import.specs.Batch.{batch_of, coming_of, coming_of_records, coming_of_rows, first_number, first_record_fault, group_fault, kind_of_plan, ok_unless, planned_rows, records_of_rows, unless_faulty}
use Rattle.batch_import.specs.Fields.{Values, field, name_of_text, three_marks, values_of}
use Rattle.batch_import.specs.Kinds.{row_kinds}
use Rattle.batch_import.specs.Outlines.{numbered_summary}
use Rattle.batch_import.specs.Records.{records_of}
use Rattle.batch_import.specs.RowByRow.{Before, after_header, as_record, data_rows, file_rows, first_then, header_of, nothing, row_in_six, row_of, typed_of, with_row, within_limits}
use Rattle.batch_import.specs.RowFaults.{PlacedRow, breaks_check, fault_of_row, first_fault, header_fault, header_has, least_fault, or_else, placed, row_fault, row_has}
use Rattle.batch_import.specs.declared.fault.Kind.{Kind}
use Rattle.batch_import.specs.declared.fault.Kind.TheVariants as kind
use Rattle.batch_import.specs.declared.fault.RowFault.{RowFault}
use Rattle.batch_import.proofs.FirstFault.{coming_of-file_rows}
use Rattle.import_causes.specs.Causes.{Numbered}
use Rattle.import_causes.specs.Pairs as pairs
use Rattle.import_causes.specs.Pairs.{first_pair, rows_named, two_rows}
use Rattle.import_causes.specs.Starts.{row_fields}
use Rattle.import_causes.proofs.FoundLemmas.{pair-found}

-- ---- faults of single rows

abbrev EachOfRow : List Kind → Type 0
EachOfRow [] = ⊤
EachOfRow (k ∷ ks) = (pairs.record_fault k ≡ None) × EachOfRow ks

found_of_row : (has : Kind → Bool) (ks : List Kind) (k : Kind) → EachOfRow ks → find has ks ≡ Some k → pairs.record_fault k ≡ None
found_of_row has [] k each is = absurd (none-some k is)
found_of_row has (x ∷ ks) k each is = at (has x) is (λ rest. found_of_row has ks k each.1 rest)
  where
    at : (b : Bool) → (if b then Some x else find has ks) ≡ Some k → (find has ks ≡ Some k → pairs.record_fault k ≡ None) → pairs.record_fault k ≡ None
    at true is more = subst (λ (y : Kind). pairs.record_fault y ≡ None) (same_Some x k is) each.0
    at false is more = more is

kind_at : (n : ℕ) (o : Option Kind) (f : RowFault) → fault_of_row n o ≡ Some f → (n ≡ f.row) × (o ≡ Some f.kind)
kind_at n None f is = absurd (none-some f is)
kind_at n (Some k) f is =
    let same : record { row = n; kind = k } ≡ f = same_Some _ f is in
    (ap (λ (f : RowFault). f.row) same, ap (λ (f : RowFault). Some f.kind) same)

least_of_row : (n : ℕ) (has : Kind → Bool) (f : RowFault) → least_fault n has ≡ Some f → pairs.record_fault f.kind ≡ None
least_of_row n has f is =
    found_of_row has row_kinds f.kind (refl, (refl, (refl, (refl, (refl, (refl, (refl, (refl, (refl, (refl, tt)))))))))) (kind_at n (find has row_kinds) f is).1

first_of_row : (check : Bool) (rows : List PlacedRow) (f : RowFault) → first_fault (row_fault check) rows ≡ Some f → pairs.record_fault f.kind ≡ None
first_of_row check [] f is = absurd (none-some f is)
first_of_row check (row ∷ rows) f is = at (row_fault check row) refl is (λ rest. first_of_row check rows f rest)
  where
    at : (o : Option RowFault) → row_fault check row ≡ o → or_else o (first_fault (row_fault check) rows) ≡ Some f
        → (first_fault (row_fault check) rows ≡ Some f → pairs.record_fault f.kind ≡ None) → pairs.record_fault f.kind ≡ None
    at None was is more = more is
    at (Some g) was is more = least_of_row _ (row_has check row) f (was ∙ is)

coming_of_row : (check : Bool) (records : List (List (List ℕ))) (f : RowFault) → (coming_of_records three_marks check records).fault ≡ Some f → pairs.record_fault f.kind ≡ None
unfolding coming_of_records coming_of_rows
coming_of_row check [] f is = ap (λ (f : RowFault). pairs.record_fault f.kind) (sym (same_Some _ f is))
coming_of_row check (first ∷ rest) f is = at (header_fault first) refl is
  where
    at : (o : Option RowFault) → header_fault first ≡ o → (unless_faulty o (coming_of_rows check (placed three_marks [] rest))).fault ≡ Some f → pairs.record_fault f.kind ≡ None
    at None was is = first_of_row check (placed three_marks [] rest) f is
    at (Some g) was is = least_of_row 1 (header_has first) f (was ∙ is)

-- ---- the name of a row

named_text : (t name : List ℕ) → name_of_text t ≡ Some name → t ≡ name
named_text t name is = at (is_name t) is
  where
    at : (b : Bool) → (if b then Some t else None) ≡ Some name → t ≡ name
    at true is = same_Some t name is
    at false is = absurd (none-some name is)

typed_name : (values : Values) (row : Row) → typed_of values ≡ Ok row → values.name ≡ Some row.rec
unfolding typed_of
typed_name values row is = at values.name values.aid values.rank values.enc values.tol values.coded is
  where
    at : (name aid : Option (List ℕ)) (rank : Option ℕ) (enc : Option Enc) (tol : Option Bool) (coded : Option (List ℕ))
        → typed_of (record { name = name; aid = aid; rank = rank; enc = enc; tol = tol; coded = coded }) ≡ Ok row → name ≡ Some row.rec
    at None aid rank enc tol coded is = absurd (cc)
    at (Some n) None rank enc tol coded is = absurd (cc)
    at (Some n) (Some a) None enc tol coded is = absurd (cc)
    at (Some n) (Some a) (Some r) None tol coded is = absurd (cc)
    at (Some n) (Some a) (Some r) (Some e) None coded is = absurd (cc)
    at (Some n) (Some a) (Some r) (Some e) (Some t) None is = absurd (cc)
    at (Some n) (Some a) (Some r) (Some e) (Some t) (Some c) is =
        let same : record { rec = n; aid = a; rank = r; enc = e; tol = t; coded = c } ≡ row = cc in
        ap (λ (row : Row). Some row.rec) same

checked_same : (check : Bool) (row found : Row) → as_record check row ≡ Ok found → row ≡ found
checked_same check row found is = at (check && breaks_check row.enc row.coded) is
  where
    at : (b : Bool) → (if b then Err kind.NotARecord else Ok row) ≡ Ok found → row ≡ found
    at true is = absurd (cc)
    at false is = cc

within_same : (before : Before) (row found : Row) → within_limits before row ≡ Ok found → row ≡ found
within_same before row found is = at (nat_le 4096 before.count) (nat_lt 1024 (length (with_key before.names row.rec))) is
  where
    at : (a b : Bool) → (if a then Err kind.TooManyRows else (if b then Err kind.TooManyRecords else Ok row)) ≡ Ok found → row ≡ found
    at true b is = absurd (cc)
    at false true is = absurd (cc)
    at false false is = cc

-- field 1 of a valid data row is the name of its record
row_name : (check : Bool) (before : Before) (fields : List (List ℕ)) (row : Row) → row_of check before fields ≡ Ok row → field fields 0 ≡ row.rec
unfolding row_of
row_name check before fields row is = at (length fields == 6) is
  where
    at : (six : Bool) → (if six then row_in_six check before (values_of three_marks fields) else Err kind.NotSixFields) ≡ Ok row → field fields 0 ≡ row.rec
    at false is = absurd (cc)
    at true is =
        let typed = bind_ok (typed_of (values_of three_marks fields)) (λ typed. as_record check typed >>= within_limits before) row is in
        let checked = bind_ok (as_record check typed.0) (within_limits before) row typed.2 in
        let same : typed.0 ≡ row = checked_same check typed.0 checked.0 checked.1 ∙ within_same before checked.0 row checked.2 in
        named_text (field fields 0) row.rec (typed_name (values_of three_marks fields) typed.0 typed.1 ∙ ap (λ (row : Row). Some row.rec) same)

-- the name of the row with index `i` is field 1 of the CSV record with index `i`
HasName : List (List (List ℕ)) → ℕ → Row → Type 0
HasName rest i row = (fields : List (List ℕ)) × (slice_get rest i ≡ Some fields) × (field fields 0 ≡ row.rec)

data_name : (check : Bool) (before : Before) (rest : List (List (List ℕ))) (i : ℕ) (row : Row) → slice_get (data_rows check before rest).rows i ≡ Some row → HasName rest i row
unfolding data_rows HasName
data_name check before [] i row is = absurd (none-some row is)
data_name check before (fields ∷ rest) i row is =
    at (row_of check before fields) refl i is (λ x i row is. data_name check (with_row before x) rest i row is)
  where
    at : (r : Result Row Kind) → row_of check before fields ≡ r → (i : ℕ) → slice_get (first_then r (before.count + 2) (λ x. data_rows check (with_row before x) rest)).rows i ≡ Some row
        → ((x : Row) (i : ℕ) (row : Row) → slice_get (data_rows check (with_row before x) rest).rows i ≡ Some row → HasName rest i row)
        → HasName (fields ∷ rest) i row
    at (Err k) was i is more = absurd (none-some row is)
    at (Ok x) was zero is more = (fields, refl, row_name check before fields x was ∙ ap (λ (row : Row). row.rec) (same_Some x row is))
    at (Ok x) was (suc i) is more = more x i row is

file_name : (check : Bool) (records : List (List (List ℕ))) (i : ℕ) (row : Row) → slice_get (file_rows check records).rows i ≡ Some row
    → field (unwrap_or (slice_get records (suc i)) []) 0 ≡ row.rec
unfolding HasName
file_name check [] i row is = absurd (none-some row is)
file_name check (first ∷ rest) i row is = at (header_of first) is
  where
    at : (h : Result (Unit {0}) Kind) → slice_get (after_header check h rest).rows i ≡ Some row → field (unwrap_or (slice_get rest i) []) 0 ≡ row.rec
    at (Err k) is = absurd (none-some row is)
    at (Ok u) is =
        let there = data_name check nothing rest i row is in
        ap (λ (o : Option (List (List ℕ))). field (unwrap_or o []) 0) there.1 ∙ there.2

numbered_name : (check : Bool) (raw : List ℕ) (i n : ℕ) (row : Row) → n ≡ 2 + i → slice_get (coming_of check raw).rows i ≡ Some row → field (row_fields n raw) 0 ≡ row.rec
numbered_name check raw i n row is there =
    let index : n - 1 ≡ suc i = omega arith in
    ap (λ (k : ℕ). field (unwrap_or (slice_get (records_of raw) k) []) 0) index
    ∙ file_name check (records_of raw) i row (ap (λ c. slice_get c.rows i) (sym (coming_of-file_rows check raw)) ∙ there)

-- ---- the first row of a record

-- the numbered row `e` is among the rows `rows`, the first of which has number `n`
IsAt : ℕ → List Row → ℕ × Row → Type 0
IsAt n rows e = (i : ℕ) × (e.0 ≡ n + i) × (slice_get rows i ≡ Some e.1)

head_filter : (test : ℕ × Row → Bool) (n : ℕ) (rows : List Row) (e : ℕ × Row) (rest : List (ℕ × Row)) → filter test (enumerate_from n rows) ≡ e ∷ rest
    → (test e ≡ true) × IsAt n rows e
unfolding IsAt
head_filter test n [] e rest is = absurd (cc)
head_filter test n (row ∷ rows) e rest is = at (test (n, row)) refl is (λ later. head_filter test (n + 1) rows e rest later)
  where
    at : (b : Bool) → test (n, row) ≡ b → (if b then (n, row) ∷ filter test (enumerate_from (n + 1) rows) else filter test (enumerate_from (n + 1) rows)) ≡ e ∷ rest
        → (filter test (enumerate_from (n + 1) rows) ≡ e ∷ rest → (test e ≡ true) × IsAt (n + 1) rows e)
        → (test e ≡ true) × IsAt n (row ∷ rows) e
    at true was is more =
        let same : ◌≡◌ {A = ℕ × Row} (n, row) e = cc in
        (subst (λ (x : ℕ × Row). test x ≡ true) same was, (0, omega (arith, ap (λ (x : ℕ × Row). x.0) same), ap (λ (x : ℕ × Row). Some x.1) same))
    at false was is more =
        let later = more is in
        (later.0, (suc later.1.0, omega (arith, later.1.1), later.1.2))

-- ---- the record with the fault

abbrev key_of : ℕ × Row → List ℕ
key_of e = e.1.rec

group_there : (m : ℕ) (items : List (ℕ × Row)) (keys : List (List ℕ)) (f : RowFault) → first_fault (group_fault m) (map (with_the_key key_of items) keys) ≡ Some f
    → (k : List ℕ) × (group_fault m (with_the_key key_of items k) ≡ Some f)
group_there m items [] f is = absurd (none-some f is)
group_there m items (k ∷ keys) f is = at (group_fault m (with_the_key key_of items k)) refl is (λ rest. group_there m items keys f rest)
  where
    at : (o : Option RowFault) → group_fault m (with_the_key key_of items k) ≡ o → or_else o (first_fault (group_fault m) (map (with_the_key key_of items) keys)) ≡ Some f
        → (first_fault (group_fault m) (map (with_the_key key_of items) keys) ≡ Some f → (k : List ℕ) × (group_fault m (with_the_key key_of items k) ≡ Some f))
        → (k : List ℕ) × (group_fault m (with_the_key key_of items k) ≡ Some f)
    at None was is more = more is
    at (Some g) was is more = (k, was ∙ is)

plan_kind : (o : Option PlanFault) (k : Kind) → option_and_then kind_of_plan o ≡ Some k → o ≡ pairs.record_fault k
plan_kind None k is = absurd (none-some k is)
plan_kind (Some plan.MarksDiffer) k is = ap pairs.record_fault (same_Some kind.MarksDiffer k is)
plan_kind (Some plan.IdentifierTwice) k is = ap pairs.record_fault (same_Some kind.IdentifierTwice k is)
plan_kind (Some plan.TooManyBlocks) k is = ap pairs.record_fault (same_Some kind.TooManyBlocks k is)
plan_kind (Some plan.Memory) k is = absurd (none-some k is)

summaries_same : (items : List (ℕ × Row)) → map (λ (e : Numbered). e.1) (map numbered_summary items) ≡ map summary_of (map (λ (e : ℕ × Row). e.1) items)
summaries_same [] = refl
summaries_same (e ∷ items) = ap (λ ss. summary_of e.1 ∷ ss) (summaries_same items)

-- no rows have no fault
empty_sound : (m : ℕ) → record_fault m [] ≡ None
unfolding record_fault summaries_fault grouped
empty_sound m = refl

-- two rows are found for the record `k`, and field 1 of its first row is `k`
module _ (p : Product) (raw k : List ℕ) (f : RowFault) (own : List (ℕ × Row)) (is : own ≡ with_the_key key_of (enumerate_from 2 (coming_of p.check raw).rows) k)
    (faulty : group_fault p.max own ≡ Some f) where
  of_rows : record_fault p.max (map (λ (e : ℕ × Row). e.1) own) ≡ pairs.record_fault f.kind
  of_rows = plan_kind (record_fault p.max (map (λ (e : ℕ × Row). e.1) own)) f.kind (kind_at (first_number own) _ f faulty).1

  of_summaries : summaries_fault p.max (map (λ (e : Numbered). e.1) (rows_named k (coming_of p.check raw).rows)) ≡ pairs.record_fault f.kind
  unfolding record_fault
  of_summaries =
      ap (λ items. summaries_fault p.max (map (λ (e : Numbered). e.1) (map numbered_summary items))) (sym is)
      ∙ ap (summaries_fault p.max) (summaries_same own) ∙ of_rows

  paired : (o : Option PlanFault) → pairs.record_fault f.kind ≡ o → is_some o ≡ true → is_some (pairs.pair_for o p.max (rows_named k (coming_of p.check raw).rows)) ≡ true
  paired None was some = absurd (cc)
  paired (Some fault) was some = pair-found fault p.max (rows_named k (coming_of p.check raw).rows) (of_summaries ∙ was)

  named_first : (group : List (ℕ × Row)) → own ≡ group → is_some (pairs.record_fault f.kind) ≡ true → field (row_fields f.row raw) 0 ≡ k
  unfolding IsAt
  named_first [] none some =
      let sound : record_fault p.max (map (λ (e : ℕ × Row). e.1) own) ≡ None = ap (λ (group : List (ℕ × Row)). record_fault p.max (map (λ (e : ℕ × Row). e.1) group)) none ∙ empty_sound p.max in
      absurd (cc (ap (λ (o : Option PlanFault). is_some o) (sym of_rows ∙ sound)))
  named_first (e ∷ rest) group some =
      let at = head_filter (λ (x : ℕ × Row). bytes_eq x.1.rec k) 2 (coming_of p.check raw).rows e rest (sym is ∙ group) in
      let number : e.0 ≡ f.row = ap first_number (sym group) ∙ (kind_at (first_number own) _ f faulty).0 in
      numbered_name p.check raw at.1.0 f.row e.1 (sym number ∙ at.1.1) at.1.2 ∙ same-bytes_eq e.1.rec k at.0

  two_found : is_some (pairs.record_fault f.kind) ≡ true → is_some (two_rows raw p f.kind (field (row_fields f.row raw) 0)) ≡ true
  two_found some =
      subst (λ (name : List ℕ). is_some (two_rows raw p f.kind name) ≡ true) (sym (named_first own refl some)) (paired (pairs.record_fault f.kind) refl some)

-- two rows are found for a batch file that is refused with a fault of a record
pub batch-pair : (p : Product) (raw : List ℕ) (f : RowFault) → batch_of p raw ≡ Err f → is_some (pairs.record_fault f.kind) ≡ true
    → is_some (two_rows raw p f.kind (field (row_fields f.row raw) 0)) ≡ true
unfolding batch_of first_record_fault grouped
batch-pair p raw f is some = at (coming_of p.check raw).fault refl is
  where
    planned : (rows : List Row) → (coming_of p.check raw).rows ≡ rows → planned_rows p.max rows ≡ Err f → is_some (two_rows raw p f.kind (field (row_fields f.row raw) 0)) ≡ true
    planned [] of is =
        let same : record { row = 1; kind = kind.NoRows } ≡ f = cc in
        absurd (cc (ap (λ (f : RowFault). is_some (pairs.record_fault f.kind)) same ∙ some))
    planned (row ∷ more) of is = found (first_fault (group_fault p.max) (records_of_rows (row ∷ more))) refl is
      where
        found : (o : Option RowFault) → first_fault (group_fault p.max) (records_of_rows (row ∷ more)) ≡ o → ok_unless o (row ∷ more) ≡ Err f
            → is_some (two_rows raw p f.kind (field (row_fields f.row raw) 0)) ≡ true
        found None was is = absurd (cc)
        found (Some g) was is =
            let same : g ≡ f = cc in
            let items = enumerate_from 2 (row ∷ more) in
            let there = group_there p.max items (first_appearances (map key_of items)) f (was ∙ ap Some same) in
            two_found p raw there.0 f (with_the_key key_of items there.0) (ap (λ (rows : List Row). with_the_key key_of (enumerate_from 2 rows) there.0) (sym of)) there.1 some

    at : (o : Option RowFault) → (coming_of p.check raw).fault ≡ o
        → (elim o as (λ _. Result (List Row) RowFault) [ Some fault ↦ Err fault | None ↦ planned_rows p.max (coming_of p.check raw).rows ]) ≡ Err f
        → is_some (two_rows raw p f.kind (field (row_fields f.row raw) 0)) ≡ true
    at (Some g) was is =
        let same : g ≡ f = cc in
        let none = coming_of_row p.check (records_of raw) f (was ∙ ap Some same) in
        absurd (cc (ap (λ (o : Option PlanFault). is_some o) (sym none) ∙ some))
    at None was is = planned (coming_of p.check raw).rows refl is
