-- The lines of `shopbook list` about limits: the used and the allowed numbers of products, lots and
-- batches, and the size of the database file.
use Rattle.std.specs.Prelude.{ℕ, List, [], ◌∷◌, codes, length, Option}
use Rattle.table_rows.specs.Tables.{Tables}
use Rattle.book_lines.specs.Lines.{Line, number_cell, optional_cell, word_cell}

-- the line of a limit, which is a name, a used number and an allowed number
abbrev pub limit_line : List ℕ × ℕ × ℕ → Line
limit_line limit = record {
  kind = codes "limit";
  cells = word_cell (codes "name") limit.0 ∷ number_cell (codes "used") limit.1 ∷ number_cell (codes "allowed") limit.2 ∷ [];
}

-- the limits of a database file (docs/PROTOCOL.md, section 7): 256 products, 4,096 lots and 4,096
-- batches
abbrev pub limits_in : Tables → List (List ℕ × ℕ × ℕ)
limits_in t = (codes "product", length t.products, 256) ∷ (codes "lot", length t.lots, 4096) ∷ (codes "batch", length t.batches, 4096) ∷ []

-- the line with the size of the database file in bytes, if it is known
abbrev pub size_line : Option ℕ → Line
size_line size = record { kind = codes "size"; cells = optional_cell (codes "bytes") size ∷ [] }
