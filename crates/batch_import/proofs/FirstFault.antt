-- Proves that reading the rows one by one finds the first fault as the definitions state it.
use Rattle.std.proofs.Common.{◌≡◌, ℕ, ◌+◌, Bool, true, false, cond, not, ◌&&◌, ◌||◌, ◌==◌, List, [], ◌∷◌, ◌++◌, length, Option, Some, None, Result, Ok, Err, refl, sym, ap, ◌∙◌, arith}
use Rattle.std.specs.Prelude.{is_none, is_some, nat_le, nat_lt}
use Rattle.std.specs.List.{before_first, cons_option, filter_map, find}
use Rattle.std.proofs.lemmas.List.{length-append}
use Rattle.std.proofs.lemmas.List.Elements.{filter_map-append}
use Rattle.std.proofs.lemmas.List.Sums.{fold_push, take_while-cons}
use Rattle.dgi.specs.Coding.{◌>>=◌}
use Rattle.store_data.specs.Groups.{first_appearances, with_key}
use Rattle.store_data.specs.declared.row.Row.{Row}
use Rattle.batch_import.specs.declared.fault.Kind.{Kind}
use Rattle.batch_import.specs.declared.fault.Kind.TheVariants as kind
use Rattle.batch_import.specs.declared.fault.RowFault.{RowFault}
use Rattle.batch_import.specs.Batch.{Coming, coming_of, coming_of_records, coming_of_rows, unless_faulty}
use Rattle.batch_import.specs.Fields.{Values, field, name_of_text, row_of_values, three_marks, values_of}
use Rattle.batch_import.specs.Kinds.{row_kinds}
use Rattle.batch_import.specs.Records.{records_of}
use Rattle.batch_import.specs.Rows.{row_then}
use Rattle.batch_import.specs.RowByRow.{Before, after_header, as_record, data_rows, file_rows, first_then, header_of, or_fault, row_of, typed_of, with_row, within_limits}
use Rattle.batch_import.specs.RowFaults.{PlacedRow, breaks_check, fault_of_row, first_fault, header_fault, is_header, or_else, placed, record_names, row_fault, row_has}

-- ---- one row

-- a row has the fault `least`, or it has no fault and is the row with its values
abbrev Agrees : Result Row Kind → Option Kind → Values → Type 0
Agrees (Ok row) least values = (least ≡ None) × (row_of_values values ≡ Some row) × (values.name ≡ Some row.rec)
Agrees (Err k) least values = least ≡ Some k

-- one test, followed by others
module _ (values : Values) (k : Kind) (least : Option Kind) where
  passes : (sound : Bool) (r : Result Row Kind) → Agrees r least values → Agrees (cond sound r (Err k)) (cond (not sound) (Some k) least) values
  passes true r more = more
  passes false r more = refl

  fails : (faulty : Bool) (r : Result Row Kind) → Agrees r least values → Agrees (cond faulty (Err k) r) (cond faulty (Some k) least) values
  fails true r more = refl
  fails false r more = more

  fails_then : (faulty : Bool) (row : Row) (f : Row → Result Row Kind) → Agrees (f row) least values
      → Agrees (cond faulty (Err k) (Ok row) >>= f) (cond faulty (Some k) least) values
  fails_then true row f more = refl
  fails_then false row f more = more

  -- a value that may be missing, and two of them
  needs : {A : Type 0} (o : Option A) (f : A → Result Row Kind) (g : Row → Result Row Kind) → ((x : A) → o ≡ Some x → Agrees (f x >>= g) least values)
      → Agrees ((or_fault o k >>= f) >>= g) (cond (is_none o) (Some k) least) values
  needs None f g more = refl
  needs (Some x) f g more = more x refl

  needs_both : {A B : Type 0} (o : Option A) (p : Option B) (f : A → B → Result Row Kind) (g : Row → Result Row Kind)
      → ((x : A) (y : B) → o ≡ Some x → p ≡ Some y → Agrees (f x y >>= g) least values)
      → Agrees ((or_fault o k >>= (λ x. or_fault p k >>= f x)) >>= g) (cond (is_none o || is_none p) (Some k) least) values
  needs_both None p f g more = refl
  needs_both (Some x) None f g more = refl
  needs_both (Some x) (Some y) f g more = more x y refl refl

-- the number of the rows so far and the names of their records, as the reader has them
abbrev so_far : List (List (List ℕ)) → Before
so_far rows = record { count = length rows; names = record_names rows }

-- a row with a valid name adds its record to the names
names_more : (rows : List (List (List ℕ))) (fields : List (List ℕ)) (name : List ℕ) → name_of_text (field fields 0) ≡ Some name
    → record_names (rows ++ fields ∷ []) ≡ with_key (record_names rows) name
names_more rows fields name is =
    ap first_appearances (filter_map-append (λ fields. name_of_text (field fields 0)) rows (fields ∷ []))
    ∙ rw is (fold_push with_key [] (filter_map (λ fields. name_of_text (field fields 0)) rows) name)

-- the EMV record check and the limits, for a row whose fields are all valid
in_limits : (check : Bool) (before : Before) (values : Values) (row : Row) → row_of_values values ≡ Some row → values.name ≡ Some row.rec
    → Agrees (as_record check row >>= within_limits before)
    (cond (check && breaks_check row.enc row.coded) (Some kind.NotARecord)
    (cond (nat_le 4096 before.count) (Some kind.TooManyRows)
    (cond (nat_lt 1024 (length (with_key before.names row.rec))) (Some kind.TooManyRecords) None))) values
in_limits check before values row is named =
    fails_then values kind.NotARecord _ (check && breaks_check row.enc row.coded) row (within_limits before)
    (fails values kind.TooManyRows _ (nat_le 4096 before.count) _
    (fails values kind.TooManyRecords None (nat_lt 1024 (length (with_key before.names row.rec))) (Ok row) (refl, is, named)))

module _ (check : Bool) (rows : List (List (List ℕ))) (fields : List (List ℕ)) where
  abbrev read : Values
  read = values_of three_marks fields

  abbrev here : PlacedRow
  here = record { before = rows; fields = fields; values = read }

  row_agrees : Agrees (row_of check (so_far rows) fields) (find (row_has check here) row_kinds) read
  unfolding row_of typed_of
  row_agrees =
      passes read kind.NotSixFields _ (length fields == 6) _
      (needs read kind.RecordName _ read.name _ _ (λ name n.
      needs read kind.Aid _ read.aid _ _ (λ aid a.
      needs read kind.Rank _ read.rank _ _ (λ rank r.
      needs_both read kind.Mark _ read.enc read.tol _ _ (λ enc tol e t.
      needs read kind.Grouping _ read.coded _ _ (λ coded c.
      let row : Row = record { rec = name; aid = aid; rank = rank; enc = enc; tol = tol; coded = coded } in
      let values : Values = record { name = read.name; aid = read.aid; rank = read.rank; enc = Some enc; tol = read.tol; coded = Some coded } in
      let is : row_of_values values ≡ Some row = rw (n, a, r, t) refl in
      rw (e, c, names_more rows fields name n) (in_limits check (so_far rows) values row is n)))))))

-- ---- rows of a file

abbrev coming : List Row → Option RowFault → Coming
coming rows fault = record { rows = rows; fault = fault }

module _ (check : Bool) (row : PlacedRow) (more : List PlacedRow) where
  abbrev is_faulty : PlacedRow → Bool
  is_faulty r = is_some (row_fault check r)

  abbrev value : PlacedRow → Option Row
  value r = row_of_values r.values

  abbrev fault_behind : Option RowFault
  fault_behind = first_fault (row_fault check) more

  front : before_first is_faulty (row ∷ more) ≡ cond (not (is_faulty row)) (row ∷ before_first is_faulty more) []
  front = take_while-cons (λ r. not (is_faulty r)) row more

  faulty_first : (f : RowFault) → row_fault check row ≡ Some f → coming_of_rows check (row ∷ more) ≡ coming [] (Some f)
  unfolding coming_of_rows
  faulty_first f faulty =
      let none : before_first is_faulty (row ∷ more) ≡ [] =
      front ∙ ap (λ (o : Option RowFault). cond (not (is_some o)) (row ∷ before_first is_faulty more) []) faulty in
      ap (λ rows. coming (filter_map value rows) (first_fault (row_fault check) (row ∷ more))) none
      ∙ ap (λ o. coming [] (or_else o fault_behind)) faulty

  sound_first : (x : Row) → row_fault check row ≡ None → row_of_values row.values ≡ Some x
      → coming_of_rows check (row ∷ more) ≡ row_then x (coming_of_rows check more)
  unfolding coming_of_rows
  sound_first x sound is =
      let one : before_first is_faulty (row ∷ more) ≡ row ∷ before_first is_faulty more =
      front ∙ ap (λ (o : Option RowFault). cond (not (is_some o)) (row ∷ before_first is_faulty more) []) sound in
      ap (λ rows. coming (filter_map value rows) (first_fault (row_fault check) (row ∷ more))) one
      ∙ ap (λ o. coming (cons_option o (filter_map value (before_first is_faulty more))) (first_fault (row_fault check) (row ∷ more))) is
      ∙ ap (λ o. coming (x ∷ filter_map value (before_first is_faulty more)) (or_else o fault_behind)) sound

module _ (rows : List (List (List ℕ))) (fields : List (List ℕ)) (row : Row) where
  one_more : name_of_text (field fields 0) ≡ Some row.rec → with_row (so_far rows) row ≡ so_far (rows ++ fields ∷ [])
  one_more named =
      let longer : length rows + 1 ≡ length (rows ++ fields ∷ []) = omega (arith, length-append rows (fields ∷ [])) in
      ap (λ n. record { count = n; names = with_key (record_names rows) row.rec }) longer
      ∙ ap (λ names. record { count = length (rows ++ fields ∷ []); names = names }) (sym (names_more rows fields row.rec named))

rows_agree : (check : Bool) (rows rest : List (List (List ℕ))) → data_rows check (so_far rows) rest ≡ coming_of_rows check (placed three_marks rows rest)
unfolding data_rows coming_of_rows
rows_agree check rows [] = refl
rows_agree check rows (fields ∷ rest) = go (row_of check (so_far rows) fields) (row_agrees check rows fields) (rows_agree check (rows ++ fields ∷ []) rest)
  where
    go : (r : Result Row Kind) → Agrees r (find (row_has check (here check rows fields)) row_kinds) (read check rows fields)
        → data_rows check (so_far (rows ++ fields ∷ [])) rest ≡ coming_of_rows check (placed three_marks (rows ++ fields ∷ []) rest)
        → first_then r (length rows + 2) (λ row. data_rows check (with_row (so_far rows) row) rest)
        ≡ coming_of_rows check (here check rows fields ∷ placed three_marks (rows ++ fields ∷ []) rest)
    go (Err k) faulty later =
        sym (faulty_first check (here check rows fields) (placed three_marks (rows ++ fields ∷ []) rest) (record { row = length rows + 2; kind = k })
        (ap (fault_of_row (length rows + 2)) faulty))
    go (Ok row) sound later =
        ap (λ before. row_then row (data_rows check before rest)) (one_more rows fields row sound.2) ∙ ap (row_then row) later
        ∙ sym (sound_first check (here check rows fields) (placed three_marks (rows ++ fields ∷ []) rest) row (ap (fault_of_row (length rows + 2)) sound.0) sound.1)

module _ (check : Bool) (first : List (List ℕ)) (rest : List (List (List ℕ))) where
  header_agrees : unless_faulty (header_fault first) (coming_of_rows check (placed three_marks [] rest)) ≡ after_header check (header_of first) rest
  unfolding header_of
  header_agrees = at (length first == 6) (is_header first)
    where
      at : (six titled : Bool) → unless_faulty (fault_of_row 1 (cond (not six) (Some kind.NotSixFields) (cond (not titled) (Some kind.Header) None)))
          (coming_of_rows check (placed three_marks [] rest))
          ≡ after_header check (cond (not six) (Err kind.NotSixFields) (cond titled (Ok tt) (Err kind.Header))) rest
      at false titled = refl
      at true false = refl
      at true true = sym (rows_agree check [] rest)

records_agree : (check : Bool) (records : List (List (List ℕ))) → coming_of_records three_marks check records ≡ file_rows check records
unfolding coming_of_records
records_agree check [] = refl
records_agree check (first ∷ rest) = header_agrees check first rest

-- reading a file row by row finds its rows and its first row fault
pub coming_of-file_rows : (check : Bool) (raw : List ℕ) → coming_of check raw ≡ file_rows check (records_of raw)
coming_of-file_rows check raw = records_agree check (records_of raw)
