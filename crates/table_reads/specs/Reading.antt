-- The results of reading all tables of a database.
use Rattle.std.specs.Prelude.{◌≡◌, ◌↔◌, ◌&&◌, ℕ, Bool, true, false, List, [], ◌∷◌, map, All, Option, MatchOption, IsPermutation, IsTrue, option_map, option_and_then}
use Rattle.std.specs.List.{AllByRecursion}
use Rattle.sqlite.specs.Effect.{Database}
use Rattle.sqlite.specs.Order.{Row}
use Rattle.sqlite.specs.State.{State}
use Rattle.sqlite.specs.Table.{Table}
use Rattle.sql_base.specs.Rowids.{AreApart}
use Rattle.job_facts.specs.Contents.{Mark}
use Rattle.table_rows.specs.Tables.{StoredGrouping, Tables}
use Rattle.sql_tables.specs.Tables.{batch_at, batch_table, blank_at, blank_table, grouping_table, lot_at, lot_table, mark_at, mark_table, our_schema, product_at, product_table, record_at, record_table, remake_at, remake_table, session_at, session_table, word_at, word_table}
use Rattle.sql_rows.specs.Encoding.{batch_row, blank_row, grouping_row, lot_row, mark_row, product_row, record_row, remake_row, session_row, word_row}
use Rattle.sql_rows.specs.Image.{given_rows}
use Rattle.sql_tables.specs.Alike.{HasExactly}
use Rattle.sql_tables.specs.Finds.{Finds}
use Rattle.sql_tables.specs.Ours.{AreThere}
use Rattle.sql_tables.specs.Versions.{schema_of}
use Rattle.sql_tables.specs.declared.versions.Version.{Version}
use Rattle.sql_tables.specs.declared.versions.Version.TheVariants.{One, Two, Three}
use Rattle.table_reads.specs.Shown.{FitsGrouping, FitsLot, FitsProduct, FitsWord}
use Rattle.table_reads.specs.Holding.{HoldsRows, SaysVersion, groupings_at}
use Rattle.table_reads.specs.Rowids.{HasRowidsApart}
use Rattle.table_reads.specs.Unread.{without_reply_bytes}
use Rattle.table_reads.specs.Whole.{IsWhole, NoneFit}
use Rattle.table_reads.specs.declared.reads.TableRows.{TableRows}
use Rattle.table_reads.specs.declared.tables.HeldRows.{HeldRows}
use Rattle.table_reads.specs.declared.tables.MostRows.{MostRows}

-- The numbers in the rows of `t` are in the ranges of the program's types.
pub record Fit (t : Tables) : Type 0 where
  pub products : All FitsProduct t.products
  pub lots : All FitsLot t.lots
  pub groupings : All FitsGrouping t.groupings
  pub words : All FitsWord t.words

-- The database holds no rows with numbers in range in the tables of `v`.
abbrev pub HoldsNoneOf : Version → Database → Type 0
HoldsNoneOf v db = (t : Tables) → Fit t → HoldsRows v t db → ⊥

-- The connection was open. The result is `found`, as read from the database that the connection
-- showed, or `None` if the database is refused.
abbrev pub Reads : {X : Type 0} → (Database → Type 0) → (Database → X → Type 0) → State → Option X → Type 0
Reads Refused Found old found = IsTrue old.is_open × MatchOption found (Refused old.now) (Found old.now)

-- ---- one table

-- `all` has the rows of a table that stores `stored`, in any order. `apart` tells whether all rowids
-- are different.
abbrev pub HasAll : {X : Type 0} → (X → Row) → Bool → List Row → TableRows X → Type 0
HasAll encode by_rowid stored all = IsPermutation (map encode all.rows.items) (given_rows by_rowid stored) × (IsTrue all.apart ↔ AreApart stored)

-- The text `sql` is a query for a whole table, and `found` has all its rows. It is `None` if they
-- aren't typed rows with numbers in range.
abbrev pub ReadsTable : {X : Type 0} → (X → Row) → (X → Type 0) → Bool → List ℕ → Database → Option (TableRows X) → Type 0
ReadsTable encode fits by_rowid sql db found =
    (table : ℕ → Table) → IsWhole sql table by_rowid → (tree : ℕ) → Finds db.schema (table tree)
    → MatchOption found (NoneFit encode fits (given_rows by_rowid (db.trees tree))) (HasAll encode by_rowid (db.trees tree))

-- ---- tables, under any tree number

-- The rows of the table are exactly `rows`, in any order.
abbrev pub Has : (ℕ → Table) → Bool → List Row → Database → Type 0
Has table by_rowid rows db = (tree : ℕ) → Finds db.schema (table tree) → IsPermutation rows (given_rows by_rowid (db.trees tree))

-- The rows were read, and `apart` tells whether all rowids are different.
abbrev pub HasWhole : {X : Type 0} → (ℕ → Table) → Bool → (X → Row) → Database → TableRows X → Type 0
HasWhole table by_rowid encode db all = (tree : ℕ) → Finds db.schema (table tree) → HasAll encode by_rowid (db.trees tree) all

abbrev pub HasGroupings : Version → Database → TableRows StoredGrouping → Type 0
HasGroupings v db all = HasWhole (groupings_at v) false grouping_row db all

-- version 1 has no release marks
abbrev pub HasMarks : Version → Database → TableRows Mark → Type 0
HasMarks One db all = all.rows.items ≡ []
HasMarks Two db all = HasWhole mark_at false mark_row db all
HasMarks Three db all = HasWhole mark_at false mark_row db all

-- ---- all tables except `reply`

-- the rows of all tables, if the rows of every table were read
abbrev pub held_of : MostRows → Option HeldRows
held_of found =
    option_and_then (λ products.
    option_and_then (λ lots.
    option_and_then (λ batches.
    option_and_then (λ records.
    option_and_then (λ groupings.
    option_and_then (λ sessions.
    option_and_then (λ words.
    option_and_then (λ blanks.
    option_and_then (λ remakes.
    option_map (λ marks. record {
      tables = record {
        products = products.rows.items;
        lots = lots.rows.items;
        batches = batches.rows.items;
        records = records.rows.items;
        groupings = groupings.rows.items;
        sessions = sessions.rows.items;
        words = words.rows.items;
        blanks = blanks.rows.items;
        remakes = remakes.rows.items;
        replies = [];
        marks = marks.rows.items;
      };
      apart = ((((((((products.apart && lots.apart) && batches.apart) && records.apart) && groupings.apart) && sessions.apart) && words.apart) && blanks.apart) && remakes.apart) && marks.apart;
    }) found.marks) found.remakes) found.blanks) found.words) found.sessions) found.groupings) found.records) found.batches) found.lots) found.products

-- the tables of the current schema except `version` and `reply`
abbrev pub most_tables : List Table
most_tables = product_table ∷ lot_table ∷ batch_table ∷ record_table ∷ grouping_table ∷ session_table ∷ word_table ∷ blank_table ∷ remake_table ∷ mark_table ∷ []

abbrev pub MarksAre : Version → List Mark → Database → Type 0
MarksAre One marks db = marks ≡ []
MarksAre Two marks db = Has mark_at false (map mark_row marks) db
MarksAre Three marks db = Has mark_at false (map mark_row marks) db

-- The rows of all tables except `version` and `reply`, under any tree number. `apart` tells whether
-- all rowids in each of these tables are different.
pub record HasMost (v : Version) (db : Database) (held : HeldRows) : Type 0 where
  pub products : Has product_at false (map product_row held.tables.products) db
  pub lots : Has lot_at false (map lot_row held.tables.lots) db
  pub batches : Has batch_at true (map batch_row held.tables.batches) db
  pub records : Has record_at false (map record_row held.tables.records) db
  pub groupings : Has (groupings_at v) false (map grouping_row held.tables.groupings) db
  pub sessions : Has session_at true (map session_row held.tables.sessions) db
  pub words : Has word_at false (map word_row held.tables.words) db
  pub blanks : Has blank_at true (map blank_row held.tables.blanks) db
  pub remakes : Has remake_at false (map remake_row held.tables.remakes) db
  pub marks : MarksAre v held.tables.marks db
  pub apart : v ≡ Three → db.schema ≡ our_schema → IsTrue held.apart ↔ AllByRecursion (λ t. AreApart (db.trees t.tree)) most_tables

-- ---- all tables

-- The rows for the audit: all rows, without the bytes of replies. `apart` tells whether all rowids
-- in each table are different.
pub record IsForAudit (v : Version) (db : Database) (held : HeldRows) : Type 0 where
  pub rows : Tables
  pub holds : HoldsRows v rows db
  pub tables : held.tables ≡ without_reply_bytes rows
  pub apart : db.schema ≡ our_schema → IsTrue held.apart ↔ HasRowidsApart db

abbrev pub HasForAudit : Version → Database → HeldRows → Type 0
HasForAudit v db held = HasExactly db.schema (schema_of v) → AreThere db.schema (schema_of v).tables → SaysVersion v db → IsForAudit v db held
