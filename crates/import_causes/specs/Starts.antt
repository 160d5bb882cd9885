-- Defines the line of a batch file at which a row begins (RFC 4180, as the crate `csv` reads it
-- with its default settings; line ends by this project's profile).
use Rattle.std.specs.Prelude.{◌+◌, ◌-◌, ◌==◌, ◌&&◌, ◌||◌, Bool, false, not, ℕ, zero, suc, List, [], ◌∷◌, length, take, drop, unwrap_or, slice_get, Option, Some, None, if◌then◌else◌}
use Rattle.std.specs.List.{prefix_len}
use Rattle.csv.specs.Machine.{Read, next_record}
use Rattle.csv.specs.Reading.{default_config, strip_bom}
use Rattle.csv.specs.declared.parser.State.{State}
use Rattle.csv.specs.declared.parser.State.TheVariants as st
use Rattle.store_data.specs.Name.{is_name}
use Rattle.batch_import.specs.Fields.{field}
use Rattle.batch_import.specs.Records.{records_of}
use Rattle.import_causes.specs.declared.start.RowLabel.{RowLabel}
use Rattle.import_causes.specs.declared.start.RowLabel.TheVariants as label
use Rattle.import_causes.specs.declared.start.RowStart.{RowStart}

-- ---- the start of a row

-- the bytes after a row, and after those that `more` skips then; none if there's no row
abbrev pub after_read : (State → List ℕ → List ℕ) → Option Read → List ℕ
after_read more None = []
after_read more (Some p) = more p.1 p.2

-- the bytes after the first `n` rows of a text, which the CSV reader reads from the state `s`; none
-- if there are fewer rows
unfoldable pub after_rows : ℕ → State → List ℕ → List ℕ
after_rows zero s xs = xs
after_rows (suc n) s xs = after_read (after_rows n) (next_record default_config s [] [] xs)

-- a CR or an LF
abbrev pub is_line_byte : ℕ → Bool
is_line_byte c = (c == 13) || (c == 10)

-- a text without the line ends at its start
abbrev pub without_line_ends : List ℕ → List ℕ
without_line_ends xs = drop (prefix_len is_line_byte xs) xs

-- the bytes of the file `raw` from the first byte of row `n` on; none if it doesn't have this row.
-- Row 1 is the header
abbrev pub from_row : ℕ → List ℕ → List ℕ
from_row n raw = without_line_ends (after_rows (n - 1) st.StartRecord (strip_bom raw))

-- the fields of row `n` of the file `raw`; none if it doesn't have this row
abbrev pub row_fields : ℕ → List ℕ → List (List ℕ)
row_fields n raw = unwrap_or (slice_get (records_of raw) (n - 1)) []

-- ---- lines

-- `c` ends a line or continues the end of a line: it is a CR, or an LF that doesn't follow a CR
abbrev pub ends_line : Bool → ℕ → Bool
ends_line after_cr c = (c == 13) || ((c == 10) && not after_cr)

-- the number of line ends in a text: each CR, LF, and CR LF; `after_cr` tells whether a CR precedes
-- the text
unfoldable pub line_ends : Bool → List ℕ → ℕ
line_ends after_cr [] = 0
line_ends after_cr (c ∷ rest) = (if ends_line after_cr c then 1 else 0) + line_ends (c == 13) rest

-- the line at which the last `left` bytes of the file `raw` begin; the first line is line 1
abbrev pub line_at : List ℕ → ℕ → ℕ
line_at raw left = line_ends false (take (length raw - left) raw) + 1

-- ---- labels

-- field 1 of a row if it is a name, and otherwise the number of its bytes, which may be card data
abbrev pub label_of : List ℕ → RowLabel
label_of text = if is_name text then label.Record text else label.Bytes (length text)

-- the line and the label of a row with the fields `fields` that begins at `rest`, the last bytes of
-- the file `raw`; none if there's no row
abbrev pub start_at : List ℕ → List ℕ → List (List ℕ) → Option RowStart
start_at raw [] fields = None
start_at raw (c ∷ rest) fields = Some (record { line = line_at raw (length (c ∷ rest)); label = label_of (field fields 0) })

-- the line and the label of row `n` of the file `raw`, if it has this row
abbrev pub start_of : ℕ → List ℕ → Option RowStart
start_of n raw = start_at raw (from_row n raw) (row_fields n raw)
