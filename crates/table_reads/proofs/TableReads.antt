-- The result of each read, for all tables.
use Rattle.std.proofs.Common.{ℕ, Bool, false, List, map, Option, MatchOption, All, IsTrue}
use Rattle.sqlite.specs.Effect.{Database}
use Rattle.sqlite.specs.Order.{Row}
use Rattle.sqlite.specs.State.{State}
use Rattle.sqlite.specs.Table.{Table}
use Rattle.job_facts.specs.Contents.{Mark}
use Rattle.table_rows.specs.Tables.{StoredGrouping, Tables}
use Rattle.sql_base.specs.Ends.{IsKept}
use Rattle.sql_tables.specs.Tables.{grouping_at, mark_at}
use Rattle.sql_rows.specs.Encoding.{grouping_row, mark_row}
use Rattle.sql_tables.specs.Versions.{unmixed_grouping_at}
use Rattle.sql_tables.specs.declared.versions.Version.{Version}
use Rattle.sql_tables.specs.declared.versions.Version.TheVariants.{One, Two, Three}
use Rattle.table_reads.specs.Shown.{FitsGrouping, IsAny}
use Rattle.table_reads.specs.Whole.{IsWhole}
use Rattle.table_reads.proofs.Meanings.{wholes}
use Rattle.table_reads.specs.Texts.{groupings_text, marks_text, unmixed_groupings_text}
use Rattle.table_reads.specs.Holding.{Holds, HoldsRows}
use Rattle.table_reads.specs.Reading.{Fit, HasGroupings, HasMarks, HasWhole, HoldsNoneOf, Reads, ReadsTable}
use Rattle.table_reads.specs.declared.reads.TableRows.{TableRows}
use Rattle.table_reads.proofs.Together.{carried, found_as}

-- the result of reading one whole table
abbrev pub Answers : {X : Type 0} → List ℕ → (X → Row) → (X → Type 0) → Bool → State → Option (TableRows X) → Type 0
Answers sql encode fits by_rowid s found = IsTrue s.is_open × ReadsTable encode fits by_rowid sql s.now found

-- The rows of the table were read, or the database holds no rows of the version.
abbrev pub IsRead : {X : Type 0} → Version → (X → Row) → (ℕ → Table) → Bool → Database → Option (TableRows X) → Type 0
IsRead v encode table by_rowid db found = MatchOption found (HoldsNoneOf v db) (HasWhole table by_rowid encode db)

module _ {X : Type 0} (encode : X → Row) (fits : X → Type 0) (table : ℕ → Table) (by_rowid : Bool) (v : Version) (rows : Tables → List X) (fit : (t : Tables) → Fit t → All fits (rows t)) where
  -- for the database from which the table was read
  pub read_in : ((t : Tables) (db : Database) → HoldsRows v t db → Holds table by_rowid (map encode (rows t)) db) → (sql : List ℕ) → IsWhole sql table by_rowid → (s : State) (found : Option (TableRows X)) → Answers sql encode fits by_rowid s found
      → Reads (HoldsNoneOf v) (HasWhole table by_rowid encode) s found
  read_in held sql whole s found given_is =
      (given_is.0, found_as encode fits table by_rowid s.now (HoldsNoneOf v s.now) (λ lacks t ranged holds. lacks (rows t) (fit t ranged) (held t s.now holds)) found (given_is.1 table whole))

  -- for the database at the start of all reads
  pub read_of : ((t : Tables) (db : Database) → HoldsRows v t db → Holds table by_rowid (map encode (rows t)) db) → (sql : List ℕ) → IsWhole sql table by_rowid → (old mid : State) → IsKept old mid → (found : Option (TableRows X)) → Answers sql encode fits by_rowid mid found
      → IsRead v encode table by_rowid old.now found
  read_of held sql whole old mid kept found given_is = carried (HoldsNoneOf v) (HasWhole table by_rowid encode) old mid kept found (read_in held sql whole mid found given_is)

-- ---- the tables that differ between versions

abbrev pub GroupingsRead : Version → State → Option (TableRows StoredGrouping) → Type 0
GroupingsRead v s found = Reads (HoldsNoneOf v) (HasGroupings v) s found

abbrev pub MarksRead : Version → Database → Option (TableRows Mark) → Type 0
MarksRead v db found = MatchOption found (HoldsNoneOf v db) (HasMarks v db)

pub unmixed_read_one : (s : State) (found : Option (TableRows StoredGrouping)) → Answers unmixed_groupings_text grouping_row FitsGrouping false s found → GroupingsRead One s found
unmixed_read_one = read_in grouping_row FitsGrouping unmixed_grouping_at false One (λ t. t.groupings) (λ t fit. fit.groupings) (λ t db held. held.groupings) unmixed_groupings_text wholes.unmixed_groupings

pub unmixed_read_two : (s : State) (found : Option (TableRows StoredGrouping)) → Answers unmixed_groupings_text grouping_row FitsGrouping false s found → GroupingsRead Two s found
unmixed_read_two = read_in grouping_row FitsGrouping unmixed_grouping_at false Two (λ t. t.groupings) (λ t fit. fit.groupings) (λ t db held. held.groupings) unmixed_groupings_text wholes.unmixed_groupings

pub groupings_read : (s : State) (found : Option (TableRows StoredGrouping)) → Answers groupings_text grouping_row FitsGrouping false s found → GroupingsRead Three s found
groupings_read = read_in grouping_row FitsGrouping grouping_at false Three (λ t. t.groupings) (λ t fit. fit.groupings) (λ t db held. held.groupings) groupings_text wholes.groupings

pub marks_read_two : (s : State) (found : Option (TableRows Mark)) → Answers marks_text mark_row IsAny false s found → MarksRead Two s.now found
marks_read_two s found given_is = (read_in mark_row IsAny mark_at false Two (λ t. t.marks) (λ t fit k d low. tt) (λ t db held. held.marks) marks_text wholes.marks s found given_is).1

pub marks_read_three : (s : State) (found : Option (TableRows Mark)) → Answers marks_text mark_row IsAny false s found → MarksRead Three s.now found
marks_read_three s found given_is = (read_in mark_row IsAny mark_at false Three (λ t. t.marks) (λ t fit k d low. tt) (λ t db held. held.marks) marks_text wholes.marks s found given_is).1
