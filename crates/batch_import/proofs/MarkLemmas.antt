-- Proves that a file without a fault gives the same rows if field 4 may have more values.
use Rattle.std.proofs.Common.{◌≡◌, ℕ, ◌+◌, Bool, true, false, cond, ◌||◌, List, [], ◌∷◌, ◌++◌, length, Option, Some, None, Result, Ok, Err, refl, sym, ap, ◌∙◌}
use Rattle.std.specs.Prelude.{bytes_eq, codes, is_none}
use Rattle.std.specs.List.{find}
use Rattle.std.proofs.lemmas.Option.{none-some}
use Rattle.store_data.specs.declared.row.Enc.{Enc}
use Rattle.store_data.specs.declared.row.Enc.TheVariants.{Plain, All, Mixed}
use Rattle.store_data.specs.declared.row.Product.{Product}
use Rattle.store_data.specs.declared.row.Row.{Row}
use Rattle.batch_import.specs.declared.fault.Kind.{Kind}
use Rattle.batch_import.specs.declared.fault.Kind.TheVariants as kind
use Rattle.batch_import.specs.declared.fault.RowFault.{RowFault}
use Rattle.batch_import.specs.Batch.{batch_of, batch_under, batch_with, coming_of_records, coming_of_rows, coming_under, planned_rows, unless_faulty}
use Rattle.batch_import.specs.Fields.{Extends, Marks, Values, aid_of_text, field, grouping_of_text, name_of_text, rank_of_text, three_marks, tol_of_text, two_marks}
use Rattle.batch_import.specs.Kinds.{row_kinds}
use Rattle.batch_import.specs.Records.{records_of}
use Rattle.batch_import.specs.RowFaults.{PlacedRow, fault_of_row, first_fault, header_fault, or_else, placed, row_fault, row_has}

-- ---- a row without a fault has a valid field 4

or_else-none : {A : Type 0} (o more : Option A) → or_else o more ≡ None → (o ≡ None) × (more ≡ None)
or_else-none None more e = (refl, e)
or_else-none (Some x) more e = absurd (none-some x (sym e))

pub given-none : (n : ℕ) (o : Option Kind) → fault_of_row n o ≡ None → o ≡ None
given-none n None e = refl
given-none n (Some k) e = absurd (cc)

-- if no fault is found, the first test passes, and the other tests find no fault
passed : (faulty : Bool) (k : Kind) (least : Option Kind) → cond faulty (Some k) least ≡ None → (faulty ≡ false) × (least ≡ None)
passed true k least e = absurd (none-some k (sym e))
passed false k least e = (refl, e)

neither : (a b : Bool) → (a || b) ≡ false → a ≡ false
neither true b e = absurd (cc)
neither false b e = refl

there : {A : Type 0} (o : Option A) → is_none o ≡ false → (x : A) × (o ≡ Some x)
there None e = absurd (cc)
there (Some x) e = (x, refl)

-- if none of the kinds is found, the row doesn't have kind `k`
pub none_holds : (has : Kind → Bool) (before after : List Kind) (k : Kind) → find has (before ++ k ∷ after) ≡ None → has k ≡ false
none_holds has [] after k e = (passed (has k) k (find has after) e).0
none_holds has (x ∷ before) after k e = none_holds has before after k (passed (has x) x (find has (before ++ k ∷ after)) e).1

mark_there : (check : Bool) (row : PlacedRow) → row_fault check row ≡ None → (e : Enc) × (row.values.enc ≡ Some e)
mark_there check row sound =
    let none = given-none (length row.before + 2) (find (row_has check row) row_kinds) sound in
    let before = kind.NotSixFields ∷ kind.Header ∷ kind.RecordName ∷ kind.Aid ∷ kind.Rank ∷ [] in
    let after = kind.Grouping ∷ kind.NotARecord ∷ kind.TooManyRows ∷ kind.TooManyRecords ∷ [] in
    there row.values.enc (neither (is_none row.values.enc) (is_none row.values.tol) (none_holds (row_has check row) before after kind.Mark none))

-- ---- rows, files and batches

abbrev values : List (List ℕ) → Option Enc → Values
values fields enc = record {
  name = name_of_text (field fields 0);
  aid = aid_of_text (field fields 1);
  rank = rank_of_text (field fields 2);
  enc = enc;
  tol = tol_of_text (field fields 4);
  coded = grouping_of_text (field fields 5);
}

abbrev placed_with : List (List (List ℕ)) → List (List ℕ) → Option Enc → PlacedRow
placed_with rows fields enc = record { before = rows; fields = fields; values = values fields enc }

module _ (few many : Marks) (extends : Extends few many) (check : Bool) where
  placed_alike : (rows rest : List (List (List ℕ))) → first_fault (row_fault check) (placed few rows rest) ≡ None → placed many rows rest ≡ placed few rows rest
  placed_alike rows [] sound = refl
  placed_alike rows (fields ∷ rest) sound =
      let mark = few (field fields 3) in
      let both = or_else-none (row_fault check (placed_with rows fields mark)) (first_fault (row_fault check) (placed few (rows ++ fields ∷ []) rest)) sound in
      let is = mark_there check (placed_with rows fields mark) both.0 in
      let same : many (field fields 3) ≡ mark = extends (field fields 3) is.0 is.1 ∙ sym is.1 in
      ap (λ enc. placed_with rows fields enc ∷ placed many (rows ++ fields ∷ []) rest) same
      ∙ ap (λ more. placed_with rows fields mark ∷ more) (placed_alike (rows ++ fields ∷ []) rest both.1)

  coming_alike : (records : List (List (List ℕ))) → (coming_of_records few check records).fault ≡ None
      → coming_of_records many check records ≡ coming_of_records few check records
  unfolding coming_of_records coming_of_rows
  coming_alike [] sound = refl
  coming_alike (first ∷ rest) sound = at (header_fault first) sound
    where
      at : (o : Option RowFault) → (unless_faulty o (coming_of_rows check (placed few [] rest))).fault ≡ None
          → unless_faulty o (coming_of_rows check (placed many [] rest)) ≡ unless_faulty o (coming_of_rows check (placed few [] rest))
      at (Some f) sound = refl
      at None sound = ap (coming_of_rows check) (placed_alike [] rest sound)

abbrev by_fault : ℕ → List Row → Option RowFault → Result (List Row) RowFault
by_fault m rows o = elim o as (λ _. Result (List Row) RowFault) [ Some fault ↦ Err fault | None ↦ planned_rows m rows ]

-- a file that is a batch has no row fault
no_fault : (m : ℕ) (rows found : List Row) (o : Option RowFault) → by_fault m rows o ≡ Ok found → o ≡ None
no_fault m rows found None e = refl
no_fault m rows found (Some fault) e = absurd (cc)

pub batch_alike : (few many : Marks) → Extends few many → (p : Product) (raw : List ℕ) (rows : List Row) → batch_under few p raw ≡ Ok rows → batch_under many p raw ≡ Ok rows
batch_alike few many extends p raw rows read =
    let old = coming_under few p.check raw in
    ap (batch_with p.max) (coming_alike few many extends p.check (records_of raw) (no_fault p.max old.rows rows old.fault read)) ∙ read

-- ---- the third value

-- a text that is one of the first two valid texts has the same value among all three
third_is_new : (first second third : Bool) (a b c enc : Enc) → cond first (Some a) (cond second (Some b) None) ≡ Some enc
    → cond first (Some a) (cond second (Some b) (cond third (Some c) None)) ≡ Some enc
third_is_new true second third a b c enc e = e
third_is_new false true third a b c enc e = e
third_is_new false false third a b c enc e = absurd (none-some enc e)

three_extend_two : Extends two_marks three_marks
unfolding two_marks three_marks
three_extend_two t enc e =
    third_is_new (bytes_eq t (codes "0")) (bytes_eq t (codes "1")) (bytes_eq t (codes "2")) Plain All Mixed enc e

pub third_mark_alike : (p : Product) (raw : List ℕ) (rows : List Row) → batch_under two_marks p raw ≡ Ok rows → batch_of p raw ≡ Ok rows
unfolding batch_of
third_mark_alike p raw rows read = batch_alike two_marks three_marks three_extend_two p raw rows read
