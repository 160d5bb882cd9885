-- Relates the first fields of a row, as this crate reads them, to all fields of the row (helper
-- definitions).
use Rattle.std.specs.Prelude.{◌≡◌, ℕ, List, [], length, map, take, Option, Some, None}
use Rattle.csv.specs.Machine.{Read, next_record}
use Rattle.csv.specs.Reading.{default_config}
use Rattle.csv.specs.declared.parser.State.TheVariants as st
use Rattle.batch_import.specs.Grammar.{state_of}
use Rattle.import_causes.specs.declared.fields.RowText.{RowText}
use Rattle.import_causes.specs.declared.fields.RowReader.{RowReader}

-- the fields of a row that was read; none if there's no row
abbrev pub fields_read : Option Read → List (List ℕ)
fields_read None = []
fields_read (Some p) = p.0

-- the fields of the first row of a text
abbrev pub first_row : List ℕ → List (List ℕ)
first_row text = fields_read (next_record default_config st.StartRecord [] [] text)

-- `row` has the first six of the fields `fields`, and their number
pub record IsOf (row : RowText) (fields : List (List ℕ)) : Type 0 where
  pub kept : map (λ f. f.items) row.fields.items ≡ take 6 fields
  pub count : row.count ≡ length fields

-- after the first bytes of the row at the start of `text`: the reader `r` has the fields that have
-- ended, and `rest` are the bytes still to be read
pub record IsReading (text : List ℕ) (r : RowReader) (rest : List ℕ) : Type 0 where
  pub fields : List (List ℕ)
  pub row : IsOf r.row fields
  pub same : next_record default_config st.StartRecord [] [] text ≡ next_record default_config (state_of r.place) fields r.field.items rest
