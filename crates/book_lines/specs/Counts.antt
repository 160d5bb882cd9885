-- The output of `shopbook check`: the schema version, the verdict, the number of rows in each
-- table, and the numbers of products, lots and batches that can still be added.
use Rattle.std.specs.Prelude.{ℕ, ◌-◌, List, [], ◌∷◌, ◌++◌, codes, length, Option, Some, None, option_map}
use Rattle.table_rows.specs.Tables.{Tables}
use Rattle.audit_rows.specs.declared.rule.Rule.{Rule}
use Rattle.audit_rows.specs.RuleNames.{name_of}
use Rattle.book_lines.specs.declared.form.Form.{Form}
use Rattle.book_lines.specs.Lines.{Line, line_text, lines_by, name_cell, number_cell, word_cell}

-- ---- verdict

abbrev pub verdict : Option Rule → List ℕ
verdict None = codes "sound"
verdict (Some rule) = codes "unsound"

-- the line with the schema version, the verdict, and the first rule that the rows break
abbrev pub file_line : ℕ → Option Rule → Line
file_line version failing = record {
  kind = codes "file";
  cells = number_cell (codes "version") version ∷ word_cell (codes "verdict") (verdict failing) ∷ name_cell (codes "rule") (option_map name_of failing) ∷ [];
}

-- ---- counts

abbrev pub count_line : List ℕ → List ℕ × ℕ → Line
count_line kind count = record { kind = kind; cells = word_cell (codes "name") count.0 ∷ number_cell (codes "count") count.1 ∷ [] }

-- each table with the number of its rows
abbrev pub rows_in : Tables → List (List ℕ × ℕ)
rows_in t =
    (codes "product", length t.products) ∷ (codes "lot", length t.lots) ∷ (codes "batch", length t.batches) ∷ (codes "record", length t.records)
    ∷ (codes "grouping", length t.groupings) ∷ (codes "session", length t.sessions) ∷ (codes "word", length t.words) ∷ (codes "blank", length t.blanks)
    ∷ (codes "remake", length t.remakes) ∷ (codes "reply", length t.replies) ∷ (codes "mark", length t.marks) ∷ []

-- the numbers of products, lots and batches that can still be added; the limits are 256 products,
-- 4,096 lots and 4,096 batches
abbrev pub room_in : Tables → List (List ℕ × ℕ)
room_in t = (codes "product", 256 - length t.products) ∷ (codes "lot", 4096 - length t.lots) ∷ (codes "batch", 4096 - length t.batches) ∷ []

-- ---- complete output

abbrev pub check_text : Form → ℕ → Option Rule → Tables → List ℕ
check_text form version failing t =
    line_text form (file_line version failing) ++ lines_by form (count_line (codes "table")) (rows_in t) ++ lines_by form (count_line (codes "room")) (room_in t)
