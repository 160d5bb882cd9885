-- Defines the cause for refusing a batch file (this project's profile), and the text of its event
-- line.
use Rattle.std.specs.Prelude.{ℕ, List, [], ◌∷◌, ◌++◌, bytes_eq, codes, if◌then◌else◌, Option, Some, None, Result, Ok, Err}
use Rattle.event_lines.specs.Lines.{number_pair, pair, quoted_pair}
use Rattle.store_data.specs.declared.row.Product.{Product}
use Rattle.store_data.specs.declared.row.Row.{Row}
use Rattle.batch_import.specs.Batch.{batch_of}
use Rattle.batch_import.specs.Fields.{field}
use Rattle.batch_import.specs.Kinds.{code_of, name_of}
use Rattle.batch_import.specs.declared.fault.RowFault.{RowFault}
use Rattle.import_causes.specs.Causes.{Numbered, blame_of}
use Rattle.import_causes.specs.Pairs.{two_rows}
use Rattle.import_causes.specs.Starts.{row_fields, start_of}
use Rattle.import_causes.specs.Words.{word_of}
use Rattle.import_causes.specs.declared.cause.Cause.{Cause}
use Rattle.import_causes.specs.declared.explanation.Explanation.{Explanation}
use Rattle.import_causes.specs.declared.start.RowLabel.{RowLabel}
use Rattle.import_causes.specs.declared.start.RowLabel.TheVariants as label
use Rattle.import_causes.specs.declared.start.RowStart.{RowStart}

-- ---- the cause

-- the row with a fault: the later one of the rows `two` of a fault of a record, and otherwise `row`
abbrev pub later_row : ℕ → Option (Numbered × Numbered) → ℕ
later_row row None = row
later_row row (Some two) = two.1.0

abbrev pub earlier_row : Option (Numbered × Numbered) → Option ℕ
earlier_row None = None
earlier_row (Some two) = Some two.0.0

-- the explanation of the fault `fault` of the file `raw`: `fields` are the fields of the row
-- `fault.row`, and `two` the two rows of a fault of a record
abbrev pub explained : List ℕ → RowFault → List (List ℕ) → Option (Numbered × Numbered) → Explanation
explained raw fault fields two =
    let row = later_row fault.row two in
    record { kind = fault.kind; row = row; start = start_of row raw; other = earlier_row two; blame = blame_of fault.kind fields two }

-- the explanation of the fault `fault` of the batch file `raw` for the product `p`
abbrev pub explanation_of : List ℕ → Product → RowFault → Explanation
explanation_of raw p fault =
    let fields = row_fields fault.row raw in
    explained raw fault fields (two_rows raw p fault.kind (field fields 0))

-- ---- the event line

-- field 1 of the row, which is a name, or otherwise the number of its bytes
abbrev pub label_pair : RowLabel → List ℕ
label_pair (label.Record name) = quoted_pair (codes "record") name
label_pair (label.Bytes count) = number_pair (codes "record-bytes") count

-- the line at which the row begins, and its label
abbrev pub start_pairs : Option RowStart → List ℕ
start_pairs None = []
start_pairs (Some start) = number_pair (codes "line") start.line ++ label_pair start.label

-- a key and a number, if there is one
abbrev pub optional_pair : List ℕ → Option ℕ → List ℕ
optional_pair key None = []
optional_pair key (Some number) = number_pair key number

abbrev pub cause_pair : Option Cause → List ℕ
cause_pair None = []
cause_pair (Some cause) = pair (codes "cause") (word_of cause)

-- the text of the event line; `other` is the earlier one of the two rows of a fault of a record
abbrev pub fault_text : Explanation → List ℕ
fault_text e =
    codes "fault" ++ number_pair (codes "code") (code_of e.kind) ++ pair (codes "name") (name_of e.kind)
    ++ number_pair (codes "row") e.row ++ optional_pair (codes "other") e.other ++ start_pairs e.start
    ++ optional_pair (codes "field") e.blame.field ++ cause_pair e.blame.cause

-- ---- a refused import

-- the fault of a batch file, if its name is `name`
abbrev pub fault_named : Result (List Row) RowFault → List ℕ → Option RowFault
fault_named (Ok rows) name = None
fault_named (Err fault) name = if bytes_eq name (name_of fault.kind) then Some fault else None

abbrev pub fault_lines : List ℕ → Product → Option RowFault → List (List ℕ)
fault_lines raw p None = []
fault_lines raw p (Some fault) = fault_text (explanation_of raw p fault) ∷ []

-- the event line of a reply that refuses the import of the batch file `raw` for the product `p`;
-- `name` is the name of the refusal. If the refusal isn't a fault of the file, there is no line
abbrev pub refused_lines : List ℕ → Product → List ℕ → List (List ℕ)
refused_lines raw p name = fault_lines raw p (fault_named (batch_of p raw) name)
