-- Defines the rows and the first fault of a file in the order in which the code reads and tests
-- them (helper definitions).
use Rattle.std.specs.Prelude.{◌==◌, ◌+◌, ◌&&◌, ℕ, Bool, not, List, [], ◌∷◌, length, nat_le, nat_lt, Option, Some, None, Result, Ok, Err, if◌then◌else◌}
use Rattle.dgi.specs.Coding.{◌>>=◌}
use Rattle.store_data.specs.Groups.{with_key}
use Rattle.store_data.specs.declared.row.Row.{Row}
use Rattle.batch_import.specs.declared.fault.Kind.{Kind}
use Rattle.batch_import.specs.declared.fault.Kind.TheVariants as kind
use Rattle.batch_import.specs.Batch.{Coming, fault_at, no_more}
use Rattle.batch_import.specs.Fields.{Values, three_marks, values_of}
use Rattle.batch_import.specs.RowFaults.{breaks_check, is_header}

-- the value, or the fault `k` if it is `None`
abbrev pub or_fault : {A : Type 0} → Option A → Kind → Result A Kind
or_fault (Some x) k = Ok x
or_fault None k = Err k

-- ---- data rows

-- the number of data rows before a row, and the names of their records
pub record Before : Type 0 where
  pub count : ℕ
  pub names : List (List ℕ)

abbrev pub nothing : Before
nothing = record { count = 0; names = [] }

-- `before` after one more row
abbrev pub with_row : Before → Row → Before
with_row before row = record { count = before.count + 1; names = with_key before.names row.rec }

-- the row with these values, or the fault of the first missing one
unfoldable pub typed_of : Values → Result Row Kind
typed_of values = do
  name ← or_fault values.name kind.RecordName
  aid ← or_fault values.aid kind.Aid
  rank ← or_fault values.rank kind.Rank
  enc ← or_fault values.enc kind.Mark
  tol ← or_fault values.tol kind.Mark
  coded ← or_fault values.coded kind.Grouping
  Ok (record { rec = name; aid = aid; rank = rank; enc = enc; tol = tol; coded = coded })

-- the row, unless `check` is true and it fails the EMV record check
abbrev pub as_record : Bool → Row → Result Row Kind
as_record check row = if check && breaks_check row.enc row.coded then Err kind.NotARecord else Ok row

-- the row, unless it is the 4,097th or begins the 1,025th record
abbrev pub within_limits : Before → Row → Result Row Kind
within_limits before row =
    if nat_le 4096 before.count then Err kind.TooManyRows
    else if nat_lt 1024 (length (with_key before.names row.rec)) then Err kind.TooManyRecords
    else Ok row

-- the row with six fields, or its fault
abbrev pub row_in_six : Bool → Before → Values → Result Row Kind
row_in_six check before values = do
  typed ← typed_of values
  row ← as_record check typed
  within_limits before row

-- the data row with these fields, or its fault
unfoldable pub row_of : Bool → Before → List (List ℕ) → Result Row Kind
row_of check before fields =
    if length fields == 6 then row_in_six check before (values_of three_marks fields) else Err kind.NotSixFields

-- ---- rows of a file

-- a row followed by the rows after it, or its fault with the row number `n`
abbrev pub first_then : Result Row Kind → ℕ → (Row → Coming) → Coming
first_then (Ok row) n more = record { rows = row ∷ (more row).rows; fault = (more row).fault }
first_then (Err k) n more = fault_at n k

-- the rows before the first faulty data row, and its fault; the first data row of a file is row 2
unfoldable pub data_rows : Bool → Before → List (List (List ℕ)) → Coming
data_rows check before [] = no_more
data_rows check before (fields ∷ rest) = first_then (row_of check before fields) (before.count + 2) (λ row. data_rows check (with_row before row) rest)

-- success if the first CSV record of a file is the header, otherwise its fault
unfoldable pub header_of : List (List ℕ) → Result (Unit {0}) Kind
header_of fields = if not (length fields == 6) then Err kind.NotSixFields else if is_header fields then Ok tt else Err kind.Header

abbrev pub after_header : Bool → Result (Unit {0}) Kind → List (List (List ℕ)) → Coming
after_header check (Ok u) rest = data_rows check nothing rest
after_header check (Err k) rest = fault_at 1 k

-- the rows and the first row fault of a file with these CSV records
abbrev pub file_rows : Bool → List (List (List ℕ)) → Coming
file_rows check [] = fault_at 1 kind.Header
file_rows check (first ∷ rest) = after_header check (header_of first) rest
