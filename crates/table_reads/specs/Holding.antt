-- Defines when a database holds rows in the tables of a schema version (docs/TABLES.md): it has
-- exactly the tables of the version, in any order and with any tree numbers, with exactly these
-- rows, in any order.
use Rattle.std.specs.Prelude.{◌≡◌, ℕ, Bool, true, false, List, [], ◌∷◌, map, IsPermutation}
use Rattle.sqlite.specs.Effect.{Database}
use Rattle.sqlite.specs.Order.{Row}
use Rattle.sqlite.specs.Table.{Table}
use Rattle.job_facts.specs.Contents.{AreSound, Contents, Mark}
use Rattle.table_rows.specs.Tables.{Tables}
use Rattle.image_laws.specs.Image.{image}
use Rattle.sql_tables.specs.Tables.{batch_at, blank_at, grouping_at, lot_at, mark_at, product_at, record_at, remake_at, reply_at, session_at, word_at}
use Rattle.sql_rows.specs.Encoding.{batch_row, blank_row, grouping_row, lot_row, mark_row, product_row, record_row, remake_row, reply_row, session_row, word_row}
use Rattle.sql_rows.specs.Image.{given_rows}
use Rattle.sql_tables.specs.Alike.{HasExactly}
use Rattle.sql_tables.specs.Finds.{Finds}
use Rattle.sql_tables.specs.Versions.{numbered_version_at, schema_of, unmixed_grouping_at}
use Rattle.sql_tables.specs.declared.versions.Version.{Version}
use Rattle.sql_tables.specs.declared.versions.Version.TheVariants.{One, Two, Three}
use Rattle.table_reads.specs.Version.{numbered_row}

-- The database has the table under some tree number, with exactly `rows`, in any order, given with
-- or without their rowids.
pub record Holds (table : ℕ → Table) (by_rowid : Bool) (rows : List Row) (db : Database) : Type 0 where
  pub number : ℕ
  pub finds : Finds db.schema (table number)
  pub rows_are : IsPermutation rows (given_rows by_rowid (db.trees number))

-- ---- differences between versions

abbrev pub number_of : Version → ℕ
number_of One = 1
number_of Two = 2
number_of Three = 3

abbrev pub groupings_at : Version → ℕ → Table
groupings_at One = unmixed_grouping_at
groupings_at Two = unmixed_grouping_at
groupings_at Three = grouping_at

-- version 1 has no release marks
abbrev pub HoldsMarks : Version → List Mark → Database → Type 0
HoldsMarks One marks db = marks ≡ []
HoldsMarks Two marks db = Holds mark_at false (map mark_row marks) db
HoldsMarks Three marks db = Holds mark_at false (map mark_row marks) db

-- The only row of `version` has the number of `v`.
abbrev pub SaysVersion : Version → Database → Type 0
SaysVersion v db = Holds (numbered_version_at (number_of v)) true (numbered_row (number_of v) ∷ []) db

-- The tables are the tables of `v`, and the row of `version` has its number.
abbrev pub IsOfVersion : Version → Database → Type 0
IsOfVersion v db = HasExactly db.schema (schema_of v) × SaysVersion v db

-- ---- all tables

pub record HoldsRows (v : Version) (t : Tables) (db : Database) : Type 0 where
  pub just : HasExactly db.schema (schema_of v)
  pub version : SaysVersion v db
  pub products : Holds product_at false (map product_row t.products) db
  pub lots : Holds lot_at false (map lot_row t.lots) db
  pub batches : Holds batch_at true (map batch_row t.batches) db
  pub records : Holds record_at false (map record_row t.records) db
  pub groupings : Holds (groupings_at v) false (map grouping_row t.groupings) db
  pub sessions : Holds session_at true (map session_row t.sessions) db
  pub words : Holds word_at false (map word_row t.words) db
  pub blanks : Holds blank_at true (map blank_row t.blanks) db
  pub remakes : Holds remake_at false (map remake_row t.remakes) db
  pub replies : Holds reply_at false (map reply_row t.replies) db
  pub marks : HoldsMarks v t.marks db

-- The database holds the rows of sound contents in the tables of `v`.
abbrev pub HoldsSoundRows : Version → Database → Type 0
HoldsSoundRows v db = (c : Contents) × AreSound c × HoldsRows v (image c) db
