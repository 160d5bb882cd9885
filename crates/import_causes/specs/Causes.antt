-- Defines the field and the cause of a fault of a single row (this project's profile).
use Rattle.std.specs.Prelude.{◌==◌, ℕ, not, List, length, nat_lt, is_none, bytes_eq, codes, Option, Some, None, Result, Ok, Err, if◌then◌else◌}
use Rattle.std.specs.List.{list_all}
use Rattle.std.specs.Char.{is_ascii_digit}
use Rattle.hex.specs.Hex.{decode_of}
use Rattle.dgi.specs.Coding.{sent_of}
use Rattle.dgi.specs.declared.fault.DgiFault.{DgiFault}
use Rattle.dgi.specs.declared.fault.DgiFault.TheVariants as dgi
use Rattle.store_data.specs.Faults.{same_enc}
use Rattle.store_data.specs.declared.faults.Summary.{Summary}
use Rattle.batch_import.specs.Fields.{field, three_marks}
use Rattle.batch_import.specs.declared.fault.Kind.{Kind}
use Rattle.batch_import.specs.declared.fault.Kind.TheVariants as kind
use Rattle.import_causes.specs.declared.blame.Blame.{Blame}
use Rattle.import_causes.specs.declared.cause.Cause.{Cause}
use Rattle.import_causes.specs.declared.cause.Cause.TheVariants as cause

-- ---- single fields

-- fault 30, for a row with `count` fields
abbrev pub count_cause : ℕ → Cause
count_cause count = if nat_lt count 6 then cause.FewFields else cause.ManyFields

-- fault 32, for a field 1 that isn't a name
abbrev pub name_cause : List ℕ → Cause
name_cause text =
    if length text == 0 then cause.Empty
    else if nat_lt 32 (length text) then cause.Long
    else cause.Character

abbrev pub aid_cause_in : {E : Type 0} → Result (List ℕ) E → Cause
aid_cause_in (Ok bytes) = if nat_lt (length bytes) 5 then cause.Short else cause.Long
aid_cause_in (Err e) = cause.NotHex

-- fault 33, for a field 2 that isn't an application identifier in hexadecimal
abbrev pub aid_cause : List ℕ → Cause
aid_cause text = aid_cause_in (decode_of text)

-- fault 34, for a field 3 that isn't a rank
abbrev pub rank_cause : List ℕ → Cause
rank_cause text =
    if length text == 0 then cause.Empty
    else if not (list_all is_ascii_digit text) then cause.NotDecimal
    else if nat_lt 3 (length text) then cause.Long
    else cause.Zero

abbrev pub cause_of_dgi : DgiFault → Option Cause
cause_of_dgi dgi.NotHex = Some cause.NotHex
cause_of_dgi dgi.ShortIdentifier = Some cause.ShortIdentifier
cause_of_dgi dgi.ShortLength = Some cause.ShortLength
cause_of_dgi dgi.LongBody = Some cause.LongData
cause_of_dgi dgi.ShortBody = Some cause.ShortData
cause_of_dgi dgi.Trailing = Some cause.Trailing
cause_of_dgi dgi.Memory = None

abbrev pub grouping_cause_in : Result (List ℕ) DgiFault → Option Cause
grouping_cause_in (Ok coded) = None
grouping_cause_in (Err e) = cause_of_dgi e

-- fault 36, for a field 6 that isn't a data grouping in hexadecimal (EMV CPS 1.1): the first fault
-- of the text; none if it is a data grouping
abbrev pub grouping_cause : List ℕ → Option Cause
grouping_cause text = grouping_cause_in (sent_of text)

-- ---- rows

-- the field `number`, from 1
abbrev pub at_field : ℕ → Option Cause → Blame
at_field number cause = record { field = Some number; cause = cause }

-- no field
abbrev pub at_row : Option Cause → Blame
at_row cause = record { field = None; cause = cause }

-- fault 31: the first field that isn't the name of its column, in a row with six fields
abbrev pub column_blame : List (List ℕ) → Blame
column_blame fields =
    if not (bytes_eq (field fields 0) (codes "record")) then at_field 1 (Some cause.ColumnName)
    else if not (bytes_eq (field fields 1) (codes "aid")) then at_field 2 (Some cause.ColumnName)
    else if not (bytes_eq (field fields 2) (codes "rank")) then at_field 3 (Some cause.ColumnName)
    else if not (bytes_eq (field fields 3) (codes "enc")) then at_field 4 (Some cause.ColumnName)
    else if not (bytes_eq (field fields 4) (codes "tol")) then at_field 5 (Some cause.ColumnName)
    else if not (bytes_eq (field fields 5) (codes "dgi")) then at_field 6 (Some cause.ColumnName)
    else at_row None

-- fault 31: the file has no rows, or row 1 isn't the header
abbrev pub header_blame : List (List ℕ) → Blame
header_blame fields = if length fields == 0 then at_row (Some cause.NoRows) else column_blame fields

-- fault 35: field 4 if it is invalid, and otherwise field 5
abbrev pub mark_blame : List ℕ → Blame
mark_blame enc = if is_none (three_marks enc) then at_field 4 (Some cause.Enc) else at_field 5 (Some cause.Tol)

-- ---- two rows

-- a row of a record with its number, in summary
abbrev pub Numbered : Type 0
Numbered = ℕ × Summary

-- fault 21: field 4 if the rows differ in `enc`, and otherwise field 5
abbrev pub differ_blame : Summary → Summary → Blame
differ_blame one other = if same_enc one.enc other.enc then at_field 5 (Some cause.Tol) else at_field 4 (Some cause.Enc)

abbrev pub marks_blame : Option (Numbered × Numbered) → Blame
marks_blame None = at_row None
marks_blame (Some two) = differ_blame two.0.1 two.1.1

-- ---- all faults

-- the field and the cause of a fault of the row with the fields `fields`, or of the rows `two` of
-- its record
abbrev pub blame_of : Kind → List (List ℕ) → Option (Numbered × Numbered) → Blame
blame_of kind.MarksDiffer fields two = marks_blame two
blame_of kind.IdentifierTwice fields two = at_field 6 None
blame_of kind.TooManyBlocks fields two = at_row None
blame_of kind.NotSixFields fields two = at_row (Some (count_cause (length fields)))
blame_of kind.Header fields two = header_blame fields
blame_of kind.RecordName fields two = at_field 1 (Some (name_cause (field fields 0)))
blame_of kind.Aid fields two = at_field 2 (Some (aid_cause (field fields 1)))
blame_of kind.Rank fields two = at_field 3 (Some (rank_cause (field fields 2)))
blame_of kind.Mark fields two = mark_blame (field fields 3)
blame_of kind.Grouping fields two = at_field 6 (grouping_cause (field fields 5))
blame_of kind.NotARecord fields two = at_field 6 None
blame_of kind.TooManyRows fields two = at_row None
blame_of kind.TooManyRecords fields two = at_row None
blame_of kind.NoRows fields two = at_row None
