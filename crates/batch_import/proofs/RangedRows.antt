-- Proves that the rows of a batch have values in range, and that the row number of a fault is in
-- range.
use Rattle.std.proofs.Common.{◌≡◌, ◌≤◌, ◌<◌, ◌+◌, ◌&&◌, ℕ, Bool, true, List, [], ◌∷◌, ◌++◌, length, length-append, All, Option, Some, None, Result, Ok, Err, refl, sym, ap, ◌∙◌, subst, inl, inr, arith}
use Rattle.std.specs.Prelude.{nat_le, is_some, IsTrue}
use Rattle.std.specs.List.{cons_option, enumerate_from, filter_map, find, list_all, position_or_len}
use Rattle.std.specs.Char.{is_ascii_digit}
use Rattle.std.proofs.lemmas.Bool.{and_parts, cases_Bool, cond-true, cond-false, leb-false, leb-true}
use Rattle.std.proofs.lemmas.List.Elements.{All-nil, All-cons, All-head, All-tail, All-take}
use Rattle.std.proofs.lemmas.Option.{none-some, same_Some}
use Rattle.hex.specs.Hex.{IsBytes, decode_of}
use Rattle.hex.proofs.HexLemmas.{decode_of-ok}
use Rattle.dgi.specs.Coding.{IsSent, sent_of}
use Rattle.dgi.proofs.Sent.{text_takes}
use Rattle.store_data.specs.Name.{is_name}
use Rattle.store_data.specs.Sequence.{IsRow}
use Rattle.store_data.proofs.ByteLemmas.{all_numbered}
use Rattle.store_data.proofs.IsPlanLemmas.{All-grouped}
use Rattle.store_data.specs.declared.row.Enc.{Enc}
use Rattle.store_data.specs.declared.row.Product.{Product}
use Rattle.store_data.specs.declared.row.Row.{Row}
use Rattle.batch_import.specs.declared.fault.Kind.{Kind}
use Rattle.batch_import.specs.declared.fault.Kind.TheVariants as kind
use Rattle.batch_import.specs.declared.fault.RowFault.{RowFault}
use Rattle.batch_import.specs.Batch.{batch_of, coming_of, coming_of_records, coming_of_rows, first_number, first_record_fault, group_fault, ok_unless, planned_rows, records_of_rows, unless_faulty}
use Rattle.batch_import.specs.Fields.{Marks, aid_of_bytes, aid_of_text, coded_of, decimal, field, name_of_text, rank_of_text, row_of_values, row_with, values_of}
use Rattle.batch_import.specs.Outlines.{AreBatchRows}
use Rattle.batch_import.specs.RowFaults.{PlacedRow, fault_of_row, first_fault, header_fault, or_else, placed, row_fault, row_has}
use Rattle.batch_import.specs.Kinds.{row_kinds}
use Rattle.batch_import.specs.Records.{records_of}
use Rattle.batch_import.proofs.WalkLemmas.{coming_of-few, planned_some}
use Rattle.batch_import.proofs.MarkLemmas.{given-none, none_holds}

-- a row as the reader returns it: it has a valid name, and its AID and grouping are bytes
pub record IsTyped (row : Row) : Type 0 where
  pub name : IsTrue (is_name row.rec)
  pub aid : IsBytes row.aid
  pub is : IsRow row

-- ---- fields

named : (t n : List ℕ) → name_of_text t ≡ Some n → IsTrue (is_name n)
named t n is = elim (cases_Bool (is_name t)) [
  | inl hit ↦ subst (λ m. is_name m ≡ true) (same_Some t n (sym (cond-true (is_name t) (Some t) None hit) ∙ is)) hit
  | inr miss ↦ absurd (none-some n (sym (cond-false (is_name t) (Some t) None miss) ∙ is))
]

pub record IsAid (aid : List ℕ) : Type 0 where
  pub least : 5 ≤ length aid
  pub most : length aid ≤ 16
  pub bytes : IsBytes aid

aid_ranged : (t aid : List ℕ) → aid_of_text t ≡ Some aid → IsAid aid
unfolding aid_of_text
aid_ranged t aid is = at (decode_of t) refl is
  where
    at : (d : Result (List ℕ) _) → decode_of t ≡ d → aid_of_bytes d ≡ Some aid → IsAid aid
    at (Err e) decoded is = absurd (none-some aid is)
    at (Ok b) decoded is = elim (cases_Bool (nat_le 5 (length b) && nat_le (length b) 16)) [
      | inl hit ↦
          let same : b ≡ aid = same_Some b aid (sym (cond-true (nat_le 5 (length b) && nat_le (length b) 16) (Some b) None hit) ∙ is) in
          let parts = and_parts (nat_le 5 (length b)) (nat_le (length b) 16) hit in
          subst IsAid same (record { least = leb-true 5 (length b) parts.0; most = leb-true (length b) 16 parts.1; bytes = (decode_of-ok t b decoded).3 })
      | inr miss ↦ absurd (none-some aid (sym (cond-false (nat_le 5 (length b) && nat_le (length b) 16) (Some b) None miss) ∙ is))
    ]

digit : (c : ℕ) → is_ascii_digit c ≡ true → (48 ≤ c) × (c ≤ 57)
digit c is = let p = and_parts (nat_le 48 c) (nat_le c 57) is in (leb-true 48 c p.0, leb-true c 57 p.1)

decimal_small : (t : List ℕ) → length t ≤ 3 → list_all is_ascii_digit t ≡ true → decimal t ≤ 999
decimal_small [] few digits = omega arith
decimal_small (a ∷ []) few digits = let p = digit a (and_parts (is_ascii_digit a) true digits).0 in omega (arith, p)
decimal_small (a ∷ b ∷ []) few digits =
    let p = and_parts (is_ascii_digit a) (list_all is_ascii_digit (b ∷ [])) digits in
    let q = and_parts (is_ascii_digit b) true p.1 in
    omega (arith, digit a p.0, digit b q.0)
decimal_small (a ∷ b ∷ c ∷ []) few digits =
    let p = and_parts (is_ascii_digit a) (list_all is_ascii_digit (b ∷ c ∷ [])) digits in
    let q = and_parts (is_ascii_digit b) (list_all is_ascii_digit (c ∷ [])) p.1 in
    let r = and_parts (is_ascii_digit c) true q.1 in
    omega (arith, digit a p.0, digit b q.0, digit c r.0)
decimal_small (a ∷ b ∷ c ∷ d ∷ t) few digits = absurd (omega arith)

rank_ranged : (t : List ℕ) (n : ℕ) → rank_of_text t ≡ Some n → (1 ≤ n) × (n ≤ 999)
unfolding rank_of_text
rank_ranged t n is =
    let test : Bool = nat_le 1 (length t) && nat_le (length t) 3 && list_all is_ascii_digit t && nat_le 1 (decimal t) in
    elim (cases_Bool test) [
      | inl hit ↦
          let same : decimal t ≡ n = same_Some (decimal t) n (sym (cond-true test (Some (decimal t)) None hit) ∙ is) in
          let p = and_parts (nat_le 1 (length t) && nat_le (length t) 3 && list_all is_ascii_digit t) (nat_le 1 (decimal t)) hit in
          let q = and_parts (nat_le 1 (length t) && nat_le (length t) 3) (list_all is_ascii_digit t) p.0 in
          let r = and_parts (nat_le 1 (length t)) (nat_le (length t) 3) q.0 in
          subst (λ m. (1 ≤ m) × (m ≤ 999)) same (leb-true 1 (decimal t) p.1, decimal_small t (leb-true (length t) 3 r.1) q.1)
      | inr miss ↦ absurd (none-some n (sym (cond-false test (Some (decimal t)) None miss) ∙ is))
    ]

sent_ranged : (t v : List ℕ) → coded_of (sent_of t) ≡ Some v → IsSent v
sent_ranged t v is = at (sent_of t) refl is
  where
    at : (r : Result (List ℕ) _) → sent_of t ≡ r → coded_of r ≡ Some v → IsSent v
    at (Err e) sent is = absurd (none-some v is)
    at (Ok u) sent is =
        let same : u ≡ v = same_Some u v is in
        let g = text_takes t v (sent ∙ ap Ok same) in
        (g.0, g.1.2.fits, g.2)

-- ---- rows

-- the parts of a row are its valid fields
parts : (name aid : Option (List ℕ)) (rank : Option ℕ) (enc : Option Enc) (tol : Option Bool) (coded : Option (List ℕ)) (row : Row)
    → row_with name aid rank enc tol coded ≡ Some row → (name ≡ Some row.rec) × (aid ≡ Some row.aid) × (rank ≡ Some row.rank) × (coded ≡ Some row.coded)
parts (Some name) (Some aid) (Some rank) (Some enc) (Some tol) (Some coded) row is =
    let same = same_Some _ row is in
    (ap (λ (x : Row). Some x.rec) same, ap (λ (x : Row). Some x.aid) same, ap (λ (x : Row). Some x.rank) same, ap (λ (x : Row). Some x.coded) same)
parts name aid rank enc tol coded row is = absurd (none-some row is)

row_typed : (marks : Marks) (fields : List (List ℕ)) (row : Row) → row_of_values (values_of marks fields) ≡ Some row → IsTyped row
row_typed marks fields row is =
    let v = values_of marks fields in
    let p = parts v.name v.aid v.rank v.enc v.tol v.coded row is in
    let aid = aid_ranged (field fields 1) row.aid p.1 in
    let rank = rank_ranged (field fields 2) row.rank p.2 in
    record {
      name = named (field fields 0) row.rec p.0;
      aid = aid.bytes;
      is = record {
        aid_least = aid.least;
        aid_most = aid.most;
        rank_least = rank.0;
        rank_most = rank.1;
        sent = sent_ranged (field fields 5) row.coded p.3;
      };
    }

abbrev GivesTyped : PlacedRow → Type 0
GivesTyped placed = (row : Row) → row_of_values placed.values ≡ Some row → IsTyped row

placed_typed : (marks : Marks) (before rest : List (List (List ℕ))) → All GivesTyped (placed marks before rest)
placed_typed marks before [] = All-nil GivesTyped
placed_typed marks before (fields ∷ rest) =
    All-cons GivesTyped _ (placed marks (before ++ fields ∷ []) rest) (λ row is. row_typed marks fields row is) (placed_typed marks (before ++ fields ∷ []) rest)

typed_more : (o : Option Row) (rows : List Row) → ((x : Row) → o ≡ Some x → IsTyped x) → All IsTyped rows → All IsTyped (cons_option o rows)
typed_more None rows typed more = more
typed_more (Some x) rows typed more = All-cons IsTyped x rows (typed x refl) more

given_typed : (rows : List PlacedRow) → All GivesTyped rows → All IsTyped (filter_map (λ (r : PlacedRow). row_of_values r.values) rows)
given_typed [] each = All-nil IsTyped
given_typed (row ∷ rows) each = typed_more (row_of_values row.values) _ (All-head GivesTyped row rows each) (given_typed rows (All-tail GivesTyped row rows each))

coming_typed : (marks : Marks) (check : Bool) (records : List (List (List ℕ))) → All IsTyped (coming_of_records marks check records).rows
unfolding coming_of_records coming_of_rows
coming_typed marks check [] = All-nil IsTyped
coming_typed marks check (first ∷ rest) = at (header_fault first)
  where
    at : (o : Option RowFault) → All IsTyped (unless_faulty o (coming_of_rows check (placed marks [] rest))).rows
    at (Some fault) = All-nil IsTyped
    at None =
        let rows = placed marks [] rest in
        given_typed _ (All-take GivesTyped (position_or_len (λ row. is_some (row_fault check row)) rows) rows (placed_typed marks [] rest))

-- ---- batches

abbrev by_fault : ℕ → List Row → Option RowFault → Result (List Row) RowFault
by_fault m rows o = elim o as (λ _. Result (List Row) RowFault) [ Some fault ↦ Err fault | None ↦ planned_rows m rows ]

planned_same : (m : ℕ) (rows found : List Row) → planned_rows m rows ≡ Ok found → rows ≡ found
planned_same m [] found is = absurd (cc)
planned_same m (row ∷ more) found is = at (first_record_fault m (records_of_rows (row ∷ more))) is
  where
    at : (o : Option RowFault) → ok_unless o (row ∷ more) ≡ Ok found → row ∷ more ≡ found
    at (Some fault) is = absurd (cc)
    at None is = cc

-- the rows of a batch are typed, and their values are in range
pub batch_typed : (p : Product) (raw : List ℕ) (rows : List Row) → batch_of p raw ≡ Ok rows → All IsTyped rows × AreBatchRows rows
unfolding batch_of
batch_typed p raw rows is = at (coming_of p.check raw).fault is
  where
    at : (o : Option RowFault) → by_fault p.max (coming_of p.check raw).rows o ≡ Ok rows → All IsTyped rows × AreBatchRows rows
    at (Some fault) found = absurd (cc)
    at None found =
        let same = planned_same p.max (coming_of p.check raw).rows rows found in
        let typed = coming_typed _ p.check (records_of raw) in
        subst (λ rows. All IsTyped rows × AreBatchRows rows) same (
          typed,
          record {
            some = planned_some p.max (coming_of p.check raw).rows rows found;
            few = coming_of-few p.check raw;
            each = λ k d within. (typed k d within).is;
          },
        )

-- ---- the row number of a fault

fault_row : (n : ℕ) (o : Option Kind) (fault : RowFault) → fault_of_row n o ≡ Some fault → fault.row ≡ n
fault_row n None fault is = absurd (none-some fault is)
fault_row n (Some k) fault is = sym (ap (λ (f : RowFault). f.row) (same_Some _ fault is))

-- there are fewer than 4,096 rows before a row without a fault
room : (check : Bool) (row : PlacedRow) → row_fault check row ≡ None → length row.before < 4096
room check row none =
    let before = kind.NotSixFields ∷ kind.Header ∷ kind.RecordName ∷ kind.Aid ∷ kind.Rank ∷ kind.Mark ∷ kind.Grouping ∷ kind.NotARecord ∷ [] in
    leb-false 4096 (length row.before)
    (none_holds (row_has check row) before (kind.TooManyRecords ∷ []) kind.TooManyRows (given-none (length row.before + 2) (find (row_has check row) row_kinds) none))

placed_fault : (marks : Marks) (check : Bool) (before rest : List (List (List ℕ))) (fault : RowFault) → length before ≤ 4096
    → first_fault (row_fault check) (placed marks before rest) ≡ Some fault → fault.row ≤ 4098
placed_fault marks check before [] fault few is = absurd (none-some fault is)
placed_fault marks check before (fields ∷ rest) fault few is =
    let here : PlacedRow = record { before = before; fields = fields; values = values_of marks fields } in
    let more = first_fault (row_fault check) (placed marks (before ++ fields ∷ []) rest) in
    first (row_fault check here) more refl is (λ none last. placed_fault marks check (before ++ fields ∷ []) rest fault (omega (arith, room check here none, length-append before (fields ∷ []))) last)
  where
    first : (o more : Option RowFault) → row_fault check (record { before = before; fields = fields; values = values_of marks fields }) ≡ o → or_else o more ≡ Some fault
        → (o ≡ None → more ≡ Some fault → fault.row ≤ 4098) → fault.row ≤ 4098
    first None more own is later = later refl is
    first (Some x) more own is later = omega (arith, few, fault_row (length before + 2) _ fault (own ∙ is))

coming_fault : (marks : Marks) (check : Bool) (records : List (List (List ℕ))) (fault : RowFault) → (coming_of_records marks check records).fault ≡ Some fault → fault.row ≤ 4098
unfolding coming_of_records coming_of_rows
coming_fault marks check [] fault is = omega (arith, fault_row 1 (Some kind.Header) fault is)
coming_fault marks check (first ∷ rest) fault is = at (header_fault first) refl is
  where
    at : (o : Option RowFault) → header_fault first ≡ o → (unless_faulty o (coming_of_rows check (placed marks [] rest))).fault ≡ Some fault → fault.row ≤ 4098
    at (Some x) own is = omega (arith, fault_row 1 _ fault (own ∙ is))
    at None own is = placed_fault marks check [] rest fault (omega arith) is

-- the fault of a record has the number of one of its rows
group_row : (m : ℕ) (groups : List (List (ℕ × Row))) (fault : RowFault) → All (λ group. first_number group ≤ 4098) groups
    → first_fault (group_fault m) groups ≡ Some fault → fault.row ≤ 4098
group_row m [] fault each is = absurd (none-some fault is)
group_row m (group ∷ groups) fault each is =
    first (group_fault m group) (first_fault (group_fault m) groups) refl is (group_row m groups fault (All-tail (λ group. first_number group ≤ 4098) group groups each))
  where
    first : (o more : Option RowFault) → group_fault m group ≡ o → or_else o more ≡ Some fault → (more ≡ Some fault → fault.row ≤ 4098) → fault.row ≤ 4098
    first None more own is later = later is
    first (Some x) more own is later = omega (arith, All-head (λ group. first_number group ≤ 4098) group groups each, fault_row (first_number group) _ fault (own ∙ is))

numbers_small : (rows : List Row) → length rows ≤ 4096 → All (λ group. first_number group ≤ 4098) (records_of_rows rows)
numbers_small rows few =
    let IsSmall : ℕ × Row → Type 0 = λ e. (e.0 < 4098) × Unit {0} in
    All-grouped (λ (e : ℕ × Row). e.1.rec) IsSmall (λ group. first_number group ≤ 4098) (enumerate_from 2 rows)
    (all_numbered (λ row. Unit {0}) 2 4098 rows (omega (arith, few)) (λ k d within. tt))
    (λ group each some. first group each)
  where
    first : (group : List (ℕ × Row)) → All (λ (e : ℕ × Row). (e.0 < 4098) × Unit {0}) group → first_number group ≤ 4098
    first [] each = omega arith
    first (e ∷ more) each = omega (arith, (All-head (λ (e : ℕ × Row). (e.0 < 4098) × Unit {0}) e more each).0)

planned_fault : (m : ℕ) (rows : List Row) (fault : RowFault) → length rows ≤ 4096 → planned_rows m rows ≡ Err fault → fault.row ≤ 4098
unfolding first_record_fault
planned_fault m [] fault few is = let same : record { row = 1; kind = kind.NoRows } ≡ fault = cc in omega (arith, ap (λ (f : RowFault). f.row) same)
planned_fault m (row ∷ more) fault few is = at (first_fault (group_fault m) (records_of_rows (row ∷ more))) refl is
  where
    at : (o : Option RowFault) → first_fault (group_fault m) (records_of_rows (row ∷ more)) ≡ o → ok_unless o (row ∷ more) ≡ Err fault → fault.row ≤ 4098
    at None own is = absurd (cc)
    at (Some x) own is = let same : x ≡ fault = cc in group_row m (records_of_rows (row ∷ more)) fault (numbers_small (row ∷ more) few) (own ∙ ap Some same)

-- the row number of a fault is at most 4,098
pub batch_fault_row : (p : Product) (raw : List ℕ) (fault : RowFault) → batch_of p raw ≡ Err fault → fault.row ≤ 4098
unfolding batch_of
batch_fault_row p raw fault is = at (coming_of p.check raw).fault refl is
  where
    at : (o : Option RowFault) → (coming_of p.check raw).fault ≡ o → by_fault p.max (coming_of p.check raw).rows o ≡ Err fault → fault.row ≤ 4098
    at (Some x) own found = let same : x ≡ fault = cc in coming_fault _ p.check (records_of raw) fault (own ∙ ap Some same)
    at None own found = planned_fault p.max (coming_of p.check raw).rows fault (coming_of-few p.check raw) found
