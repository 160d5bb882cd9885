-- Ascending rowids in the rows of a query, and different rowids in a table.
use Rattle.std.specs.Prelude.{◌≡◌, ◌<ℤ◌, ℤ, pos, List, [], ◌∷◌, ⊤}
use Rattle.std.specs.List.{AllByRecursion}
use Rattle.sqlite.specs.Effect.{Database}
use Rattle.sqlite.specs.Order.{Row}
use Rattle.sqlite.specs.Tree.{rowid}
use Rattle.sqlite.specs.declared.types.Value.{Value}
use Rattle.sqlite.specs.declared.types.Value.TheVariants.{Int}
use Rattle.sql_base.specs.Rowids.{AreApart}
use Rattle.sql_tables.specs.Tables.{our_schema}

-- ---- rowids in the rows of a query

abbrev pub int_in : Value → ℤ
int_in (Int z) = z
int_in _ = pos 0

abbrev pub rowid_int : Row → ℤ
rowid_int row = int_in (rowid row)

-- Every rowid is an integer higher than the one before it. The first is higher than `floor`.
abbrev pub IsRisingFrom : ℤ → List Row → Type 0
IsRisingFrom floor [] = ⊤
IsRisingFrom floor (row ∷ rows) = (Int (rowid_int row) ≡ rowid row) × (floor <ℤ rowid_int row) × IsRisingFrom (rowid_int row) rows

abbrev pub AreRising : List Row → Type 0
AreRising [] = ⊤
AreRising (row ∷ rows) = (Int (rowid_int row) ≡ rowid row) × IsRisingFrom (rowid_int row) rows

-- ---- rowids in a table

-- All rowids in each table of the current schema are different.
abbrev pub HasRowidsApart : Database → Type 0
HasRowidsApart db = AllByRecursion (λ t. AreApart (db.trees t.tree)) our_schema.tables

-- The database has exactly the tables and indexes that the store creates, and all rowids in each
-- table are different.
abbrev pub StandAsMade : Database → Type 0
StandAsMade db = (db.schema ≡ our_schema) × HasRowidsApart db
