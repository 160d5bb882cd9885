-- The number of rows in a table: the text of its statement, and the query.
use Rattle.std.specs.Prelude.{◌-◌, ◌^◌, ℕ, min, false, List, [], ◌∷◌, Some, codes}
use Rattle.sqlite.specs.Collation.TheVariants.{Binary}
use Rattle.sqlite.specs.declared.types.Value.TheVariants.{Null}
use Rattle.sqlite.specs.Query.{Query}
use Rattle.sqlite.specs.Term.{col, lit}
use Rattle.sqlite_sql.specs.declared.aggregate.AggregateOp.TheVariants.{CountRows}
use Rattle.sqlite_sql.specs.Group.{Aggregate, Grouping}
use Rattle.sql_base.specs.Queries.{from_tree}

abbrev pub reply_count_text : List ℕ
reply_count_text = codes "SELECT count(*) FROM reply"

abbrev pub row_count : Aggregate
row_count = record { op = CountRows; distinct = false; collation = Binary; argument = lit Null }

-- the grouping that puts all rows in one group
abbrev pub in_one_group : Grouping
in_one_group = record { keys = []; collations = []; aggregates = row_count ∷ []; having = [] }

-- the query for the number of rows of the tree `tree`
abbrev pub count_of_tree : ℕ → Query
count_of_tree tree = record (from_tree tree [] (col 1 0 ∷ [])) { group = Some in_one_group }

-- the result of `count(*)` for `n` rows, which is at most the maximum integer of SQLite
abbrev pub shown_count : ℕ → ℕ
shown_count n = min n (2 ^ 63 - 1)
