-- The statements that read products and release marks: their texts, columns and conditions.
use Rattle.std.specs.Prelude.{List, ℕ, [], ◌∷◌, codes}
use Rattle.sqlite.specs.Term.{Term, col}
use Rattle.sql_base.specs.Queries.{is_equal}

abbrev pub product_text : List ℕ
product_text = codes "SELECT name, max, low, checked FROM product WHERE name = ?1"

abbrev pub product_columns : List Term
product_columns = col 1 1 ∷ col 1 2 ∷ col 1 3 ∷ col 1 4 ∷ []

abbrev pub mark_text : List ℕ
mark_text = codes "SELECT upto FROM mark WHERE client = ?1"

abbrev pub mark_columns : List Term
mark_columns = col 1 2 ∷ []

-- the condition that the first column is the first parameter
abbrev pub by_first_column : List Term
by_first_column = is_equal (col 1 1) (col 0 0) ∷ []
