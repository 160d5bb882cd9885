-- A line of `shopbook`, in columns or as JSON (this project's profile). It ends with LF.
use Rattle.std.specs.Prelude.{ℕ, ◌/◌, ◌%◌, List, [], ◌∷◌, ◌++◌, codes, Option, Some, None}
use Rattle.std.specs.List.{flat_map}
use Rattle.std.specs.Fmt.{decimal}
use Rattle.hex.specs.Hex.{encode_upper}
use Rattle.book_lines.specs.declared.form.Form.{Form}
use Rattle.book_lines.specs.declared.form.Form.TheVariants.{Columns, Json}

-- the value of a cell: nothing, a number, a number that can be 2^53 or higher, a word of plain
-- characters, or the status word of a card
pub data Shown : Type 0 where
  Nothing : Shown
  Number : (n : ℕ) → Shown
  Digits : (n : ℕ) → Shown
  Word : (word : List ℕ) → Shown
  Status : (sw : ℕ) → Shown

pub record Cell : Type 0 where
  pub key : List ℕ
  pub shown : Shown

pub record Line : Type 0 where
  pub kind : List ℕ
  pub cells : List Cell

abbrev pub number_cell : List ℕ → ℕ → Cell
number_cell key n = record { key = key; shown = Number n }

abbrev pub digits_cell : List ℕ → ℕ → Cell
digits_cell key n = record { key = key; shown = Digits n }

abbrev pub word_cell : List ℕ → List ℕ → Cell
word_cell key word = record { key = key; shown = Word word }

abbrev pub name_cell : List ℕ → Option (List ℕ) → Cell
name_cell key None = record { key = key; shown = Nothing }
name_cell key (Some name) = word_cell key name

abbrev pub optional_cell : List ℕ → Option ℕ → Cell
optional_cell key None = record { key = key; shown = Nothing }
optional_cell key (Some n) = number_cell key n

abbrev pub optional_digits_cell : List ℕ → Option ℕ → Cell
optional_digits_cell key None = record { key = key; shown = Nothing }
optional_digits_cell key (Some n) = digits_cell key n

abbrev pub status_cell : List ℕ → Option ℕ → Cell
status_cell key None = record { key = key; shown = Nothing }
status_cell key (Some sw) = record { key = key; shown = Status sw }

-- the status word `sw` as four uppercase hexadecimal digits
abbrev pub status_text : ℕ → List ℕ
status_text sw = encode_upper (sw / 256 ∷ sw % 256 ∷ [])

-- ---- columns

-- the text of a value in columns; `Nothing` is shown as `-`
abbrev pub column_text : Shown → List ℕ
column_text Nothing = codes "-"
column_text (Number n) = decimal n
column_text (Digits n) = decimal n
column_text (Word word) = word
column_text (Status sw) = status_text sw

-- ---- JSON (RFC 8259)

abbrev quoted : List ℕ → List ℕ
quoted text = codes "\"" ++ text ++ codes "\""

-- The JSON value of a cell. A word has only plain characters, which need no escape. A number that
-- can be 2^53 or higher is a string, because many JSON readers would round it.
abbrev pub member_text : Shown → List ℕ
member_text Nothing = codes "null"
member_text (Number n) = decimal n
member_text (Digits n) = quoted (decimal n)
member_text (Word word) = quoted word
member_text (Status sw) = quoted (status_text sw)

-- ---- both forms

-- in columns, a space and the value; in JSON, a member
abbrev pub cell_text : Form → Cell → List ℕ
cell_text Columns c = codes " " ++ column_text c.shown
cell_text Json c = codes ",\"" ++ c.key ++ codes "\":" ++ member_text c.shown

-- the start of a line, which contains its kind
abbrev pub kind_text : Form → List ℕ → List ℕ
kind_text Columns kind = kind
kind_text Json kind = codes "{\"line\":\"" ++ kind ++ codes "\""

abbrev pub end_text : Form → List ℕ
end_text Columns = codes "\n"
end_text Json = codes "}\n"

abbrev pub line_text : Form → Line → List ℕ
line_text form l = kind_text form l.kind ++ flat_map (cell_text form) l.cells ++ end_text form

-- ---- several lines

-- the lines of all elements of `xs`, in order
abbrev pub lines_by : {X : Type 0} → Form → (X → Line) → List X → List ℕ
lines_by form line xs = flat_map (λ x. line_text form (line x)) xs
