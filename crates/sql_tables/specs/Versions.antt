-- The tables of each schema version. In versions 1 and 2, `enc` has two values, and version 1 has
-- no released request numbers.
use Rattle.std.specs.Prelude.{ℕ, List, [], ◌∷◌, ◌++◌, codes, fold, pos}
use Rattle.sqlite.specs.Change.{created}
use Rattle.sqlite.specs.Schema.{Schema}
use Rattle.sqlite.specs.Table.{Table}
use Rattle.sqlite.specs.Term.{col, lit}
use Rattle.sqlite.specs.declared.types.Value.TheVariants.{Int}
use Rattle.sql_base.specs.Columns.{between, no_schema}
use Rattle.sql_base.specs.Queries.{is_equal}
use Rattle.sql_tables.specs.Tables.{batch_at, blank_at, grouping_at, lot_at, mark_at, our_schema, product_at, record_at, remake_at, reply_at, session_at, version_at, word_at}
use Rattle.sql_tables.specs.declared.versions.Version.{Version}
use Rattle.sql_tables.specs.declared.versions.Version.TheVariants.{One, Two, Three}

abbrev pub numbered_version_at : ℕ → ℕ → Table
numbered_version_at number tree = record (version_at tree) { checks = is_equal (col 1 0) (lit (Int (pos 1))) ∷ is_equal (col 1 2) (lit (Int (pos number))) ∷ [] }

abbrev pub unmixed_grouping_at : ℕ → Table
unmixed_grouping_at tree = record (grouping_at tree) { name = codes "grouping"; checks = between 5 1 999 ∷ between 6 0 1 ∷ between 7 0 1 ∷ [] }

-- the tables that are the same in versions 1 and 2
abbrev pub earlier_tables : List Table
earlier_tables = product_at 0 ∷ lot_at 0 ∷ batch_at 0 ∷ record_at 0 ∷ session_at 0 ∷ word_at 0 ∷ blank_at 0 ∷ remake_at 0 ∷ reply_at 0 ∷ unmixed_grouping_at 0 ∷ []

-- the tables of a schema version in the order of their creation, in which they get their tree
-- numbers
abbrev pub tables_in : Version → List Table
tables_in One = earlier_tables ++ numbered_version_at 1 0 ∷ []
tables_in Two = earlier_tables ++ mark_at 0 ∷ numbered_version_at 2 0 ∷ []
tables_in Three = version_at 0 ∷ product_at 0 ∷ lot_at 0 ∷ batch_at 0 ∷ record_at 0 ∷ grouping_at 0 ∷ session_at 0 ∷ word_at 0 ∷ blank_at 0 ∷ remake_at 0 ∷ reply_at 0 ∷ mark_at 0 ∷ []

-- The schema that these tables form in an empty database. For version 3 it is written out, with its
-- indexes. The order of the tables and their tree numbers don't matter.
abbrev pub schema_of : Version → Schema
schema_of One = fold created no_schema (tables_in One)
schema_of Two = fold created no_schema (tables_in Two)
schema_of Three = our_schema
