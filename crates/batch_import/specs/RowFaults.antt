-- Defines the faults of a single row of a batch file, and the first row with a fault (this
-- project's profile).
use Rattle.std.specs.Prelude.{◌==◌, ◌+◌, ◌&&◌, ◌||◌, ℕ, Bool, true, false, not, slice_index, List, [], ◌∷◌, ◌++◌, length, nat_le, nat_lt, is_none, Option, Some, None, Result, Ok, Err, bytes_eq}
use Rattle.std.specs.List.{filter_map, find}
use Rattle.std.specs.Cmp.Lexicographic.{pointwise}
use Rattle.dgi.specs.Coding.{Content, whole_of}
use Rattle.dgi.specs.declared.fault.DgiFault.{DgiFault}
use Rattle.tlv_check.specs.RecordTest.{is_record_of}
use Rattle.store_data.specs.Groups.{first_appearances}
use Rattle.store_data.specs.declared.row.Enc.{Enc}
use Rattle.store_data.specs.declared.row.Enc.TheVariants.{Plain}
use Rattle.batch_import.specs.declared.fault.Kind.{Kind}
use Rattle.batch_import.specs.declared.fault.Kind.TheVariants.{NotSixFields, Header, RecordName, Aid, Rank, Mark, Grouping, NotARecord, TooManyRows, TooManyRecords}
use Rattle.batch_import.specs.declared.fault.RowFault.{RowFault}
use Rattle.batch_import.specs.Fields.{Marks, Values, field, header, name_of_text, values_of}
use Rattle.batch_import.specs.Kinds.{row_kinds}

-- ---- row 1

-- the fields are the fields of the header
abbrev pub is_header : List (List ℕ) → Bool
is_header fields = pointwise bytes_eq fields header

-- row 1 with these fields has a fault of this kind
abbrev pub header_has : List (List ℕ) → Kind → Bool
header_has fields NotSixFields = not (length fields == 6)
header_has fields Header = not (is_header fields)
header_has fields kind = false

-- ---- the EMV record check

-- the encryption is plain
abbrev pub is_plain : Enc → Bool
is_plain Plain = true
is_plain enc = false

-- the grouping is for an EMV record: the first byte of its identifier is 01 to 0A, and the second
-- isn't 00 (EMV Book 3, SFI 1 to 10)
abbrev pub is_for_record : List ℕ → Bool
is_for_record coded = nat_le 1 (slice_index coded 0) && nat_le (slice_index coded 0) 10 && not (slice_index coded 1 == 0)

-- the data of the grouping is one EMV record (EMV Book 3)
abbrev pub holds_record : Result Content DgiFault → Bool
holds_record (Ok g) = is_record_of g.body
holds_record (Err e) = false

-- the grouping fails the EMV record check; only plain groupings are checked
unfoldable pub breaks_check : Enc → List ℕ → Bool
breaks_check enc coded = is_plain enc && is_for_record coded && not (holds_record (whole_of coded))

-- fields 4 and 6 are valid, and the grouping fails the EMV record check
abbrev pub are_no_record : Option Enc → Option (List ℕ) → Bool
are_no_record (Some enc) (Some coded) = breaks_check enc coded
are_no_record enc coded = false

-- ---- data rows

-- a data row with the data rows before it, its fields, and the values of its fields
pub record PlacedRow : Type 0 where
  pub before : List (List (List ℕ))
  pub fields : List (List ℕ)
  pub values : Values

-- the names of the records of data rows, each once
abbrev pub record_names : List (List (List ℕ)) → List (List ℕ)
record_names rows = first_appearances (filter_map (λ fields. name_of_text (field fields 0)) rows)

-- the data row `row` has a fault of this kind; `check` is the product's setting. The row is one of
-- too many if there are 4,096 data rows before it; it has too many records if the rows up to it
-- have more than 1,024 names of records
abbrev pub row_has : Bool → PlacedRow → Kind → Bool
row_has check row NotSixFields = not (length row.fields == 6)
row_has check row RecordName = is_none row.values.name
row_has check row Aid = is_none row.values.aid
row_has check row Rank = is_none row.values.rank
row_has check row Mark = is_none row.values.enc || is_none row.values.tol
row_has check row Grouping = is_none row.values.coded
row_has check row NotARecord = check && are_no_record row.values.enc row.values.coded
row_has check row TooManyRows = nat_le 4096 (length row.before)
row_has check row TooManyRecords = nat_lt 1024 (length (record_names (row.before ++ row.fields ∷ [])))
row_has check row kind = false

-- ---- the first fault

-- the fault with the row number `n`
abbrev pub fault_of_row : ℕ → Option Kind → Option RowFault
fault_of_row n None = None
fault_of_row n (Some k) = Some (record { row = n; kind = k })

-- the lowest fault of the row with number `number`; `has` tells which faults the row has
abbrev pub least_fault : ℕ → (Kind → Bool) → Option RowFault
least_fault number has = fault_of_row number (find has row_kinds)

-- the fault of row 1
abbrev pub header_fault : List (List ℕ) → Option RowFault
header_fault fields = least_fault 1 (header_has fields)

-- the fault of a data row; the first data row is row 2
abbrev pub row_fault : Bool → PlacedRow → Option RowFault
row_fault check row = least_fault (length row.before + 2) (row_has check row)

abbrev pub or_else : {A : Type 0} → Option A → Option A → Option A
or_else (Some x) more = Some x
or_else None more = more

-- the fault of the first element that has one
abbrev pub first_fault : {A : Type 0} → (A → Option RowFault) → List A → Option RowFault
first_fault fault [] = None
first_fault fault (x ∷ more) = or_else (fault x) (first_fault fault more)

-- the data rows, each with the data rows before it; the rows `before` precede the first
abbrev pub placed : Marks → List (List (List ℕ)) → List (List (List ℕ)) → List PlacedRow
placed marks before [] = []
placed marks before (fields ∷ more) =
    record { before = before; fields = fields; values = values_of marks fields } ∷ placed marks (before ++ fields ∷ []) more
