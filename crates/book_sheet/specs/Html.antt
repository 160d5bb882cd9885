-- Parts of an HTML page: escaped text, and the cells and rows of a table.
use Rattle.std.specs.Prelude.{◌==◌, ◌&&◌, ℕ, Bool, not, if◌then◌else◌, List, [], ◌∷◌, ◌++◌, codes, flat_map}
use Rattle.std.specs.Fmt.{decimal}
use Rattle.std.specs.List.{list_all}
use Rattle.book_lines.specs.Lines.{Cell, Shown, Nothing, Number, Digits, Word, Status, status_text}

-- ---- text

-- the character `c`, as a character reference if it could begin or end markup
abbrev pub escaped_char : ℕ → List ℕ
escaped_char c =
    if c == 38 then codes "&amp;"
    else if c == 60 then codes "&lt;"
    else if c == 62 then codes "&gt;"
    else if c == 34 then codes "&quot;"
    else c ∷ []

unfoldable pub escaped : List ℕ → List ℕ
escaped text = flat_map escaped_char text

-- `c` doesn't begin or end markup.
abbrev pub is_text_char : ℕ → Bool
is_text_char c = not (c == 60) && not (c == 62) && not (c == 34)

abbrev pub is_text : List ℕ → Bool
is_text text = list_all is_text_char text

-- `text` between `before` and `after`
unfoldable pub between : List ℕ → List ℕ → List ℕ → List ℕ
between before text after = before ++ text ++ after

-- ---- tables

-- the text of a cell; `Nothing` is shown as `-`
abbrev pub shown_html : Shown → List ℕ
shown_html Nothing = codes "-"
shown_html (Number n) = decimal n
shown_html (Digits n) = decimal n
shown_html (Word word) = escaped word
shown_html (Status sw) = status_text sw

unfoldable pub cell_html : Cell → List ℕ
cell_html c = codes "<td>" ++ shown_html c.shown ++ codes "</td>"

-- a table row of the class `class`, which sets its colour
unfoldable pub row_html : List ℕ → List Cell → List ℕ
row_html class cells = between (codes "<tr class=\"") class (codes "\">") ++ flat_map cell_html cells ++ codes "</tr>\n"
