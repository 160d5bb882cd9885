-- The rows of a batch file, inserted in groups of sixteen by parts of a transaction.
use Rattle.std.specs.Prelude.{◌≡◌, ◌+◌, ◌++◌, ℕ, List, [], ◌∷◌, Bool, if◌then◌else◌, length, map, bytes_eq, Ok}
use Rattle.std.specs.List.{enumerate_from, list_any, position_or_len}
use Rattle.sqlite.specs.State.{HasCleanDisk, State}
use Rattle.store_data.specs.Groups.{first_appearances}
use Rattle.store_data.specs.declared.row.Row.{Row}
use Rattle.batch_import.specs.Batch.{Coming, coming_of}
use Rattle.batch_import.specs.Rows.{Left}
use Rattle.batch_import.specs.Walks.{rows_then}
use Rattle.sql_rows.specs.Image.{Moves}
use Rattle.sql_rows.specs.Many.{GoesOn, with_groupings, with_records}
use Rattle.table_rows.specs.After.{new_grouping, new_record}
use Rattle.table_rows.specs.Tables.{StoredRecord, Tables}
use Rattle.row_writes.specs.FileRows.{grouping_of, record_of}
use Rattle.row_writes.specs.declared.new_rows.FileRow.{FileRow}
use Rattle.row_writes.specs.declared.new_rows.NewRecord.{NewRecord}

-- the names of the rows' records, in order of first appearance
abbrev pub names_of : List Row → List (List ℕ)
names_of rows = first_appearances (map (λ (row : Row). row.rec) rows)

-- the tables with the records and the rows of a batch file
abbrev pub with_file_rows : ℕ → List Row → Tables → Tables
with_file_rows batch rows t =
    with_groupings (map (new_grouping batch (names_of rows)) (enumerate_from 2 rows))
    (with_records (map (new_record batch) (enumerate_from 0 (names_of rows))) t)

-- a record for `name`, unless `names` contains it already
abbrev pub record_if_new : ℕ → List (List ℕ) → List ℕ → List StoredRecord
record_if_new batch names name =
    if list_any (bytes_eq name) names then [] else new_record batch (position_or_len (bytes_eq name) names, name) ∷ []

-- the tables with rows of a batch file, and the records for their new names
abbrev pub with_next : List FileRow → List NewRecord → Tables → Tables
with_next rows records t = with_groupings (map grouping_of rows) (with_records (map record_of records) t)

-- The rows `taken` of the file were read. Their records have the names `names`, the next row has
-- the number `line`, and `left` are the remaining rows.
pub record IsTaken (check : Bool) (raw : List ℕ) (taken : List Row) (names : List (List ℕ)) (line : ℕ) (left : Left) : Type 0 where
  pub more : Coming
  pub left_is : left ≡ Ok more
  pub all : coming_of check raw ≡ rows_then taken more
  pub named : names ≡ names_of taken
  pub numbered : line ≡ 2 + length taken

-- The names, the number and the remaining rows belong to some batch file.
abbrev pub AreOfFile : List (List ℕ) → ℕ → Left → Type 0
AreOfFile names line left = (check : Bool) × ((raw : List ℕ) × ((taken : List Row) × IsTaken check raw taken names line left))

-- After the rows `taken`, the rows `rows` were read. Their new names have the records `records`.
pub record TakesRows (check : Bool) (raw : List ℕ) (taken : List Row) (batch : ℕ) (names : List (List ℕ)) (line : ℕ)
    (rows : List FileRow) (records : List NewRecord) (more_names : List (List ℕ)) (left : Left) : Type 0 where
  pub next : List Row
  pub new : List (List ℕ)
  pub taken_too : IsTaken check raw (taken ++ next) more_names (line + length next) left
  pub named_too : more_names ≡ names ++ new
  pub rows_are : map grouping_of rows ≡ map (new_grouping batch more_names) (enumerate_from line next)
  pub records_are : map record_of records ≡ map (new_record batch) (enumerate_from (length names) new)

-- A step of an import: the first rows of the file were inserted.
pub record IsImported (check : Bool) (raw : List ℕ) (batch : ℕ) (names : List (List ℕ)) (line : ℕ) (left : Left) (old new : State) : Type 0 where
  pub taken : List Row
  pub is : IsTaken check raw taken names line left
  pub well : HasCleanDisk new → GoesOn (Moves (with_file_rows batch taken)) old new
