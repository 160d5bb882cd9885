-- The tables in which the store keeps its facts and replies, and the schema that they form in this
-- order.
use Rattle.std.specs.Prelude.{false, List, [], ◌∷◌, Some, None, codes, ℕ, pos}
use Rattle.sqlite.specs.declared.types.Value.TheVariants.{Int}
use Rattle.sqlite.specs.Schema.{Schema}
use Rattle.sqlite.specs.Table.{Table}
use Rattle.sqlite.specs.Term.{col, lit}
use Rattle.sqlite_catalog.specs.Listing.{automatic}
use Rattle.sqlite_schema.specs.declared.schema.Action.TheVariants.{NoAction}
use Rattle.sqlite_schema.specs.declared.schema.Index.{Index}
use Rattle.sqlite_schema.specs.declared.schema.Reference.{Reference}
use Rattle.sqlite_value.specs.Keys.{plain}
use Rattle.sql_base.specs.Columns.{between, blob_column, int_column, no_stamps, text_column}
use Rattle.sql_base.specs.Queries.{is_equal}

abbrev refers_to : List ℕ → List ℕ → List (List ℕ) → Reference
refers_to columns parent parent_columns =
    record { columns = columns; parent = parent; parent_columns = parent_columns; on_delete = NoAction; on_update = NoAction; is_deferred = false }

-- a table with this name and tree number, and no columns, keys, checks or references
abbrev plain_table : List ℕ → ℕ → Table
plain_table name tree = record {
  name = name;
  tree = tree;
  columns = [];
  key = None;
  primary = [];
  uniques = [];
  orders = [];
  checks = [];
  references = [];
  computed = [];
  stamps = no_stamps;
  is_counted = false;
}

abbrev pub version_at : ℕ → Table
version_at tree = record (plain_table (codes "version") tree) {
  columns = int_column (codes "id") ∷ int_column (codes "number") ∷ [];
  key = Some 0;
  primary = 0 ∷ [];
  checks = is_equal (col 1 0) (lit (Int (pos 1))) ∷ is_equal (col 1 2) (lit (Int (pos 3))) ∷ [];
}

abbrev pub product_at : ℕ → Table
product_at tree = record (plain_table (codes "product") tree) {
  columns = text_column (codes "name") ∷ int_column (codes "max") ∷ int_column (codes "low") ∷ int_column (codes "checked") ∷ [];
  primary = 1 ∷ [];
  uniques = (1 ∷ []) ∷ [];
  orders = plain ∷ [];
  checks = between 2 16 255 ∷ between 3 0 31 ∷ between 4 0 1 ∷ [];
}

abbrev pub lot_at : ℕ → Table
lot_at tree = record (plain_table (codes "lot") tree) {
  columns = text_column (codes "name") ∷ text_column (codes "product") ∷ int_column (codes "low_serial") ∷ int_column (codes "amount") ∷ int_column (codes "discarded") ∷ [];
  primary = 1 ∷ [];
  uniques = (1 ∷ []) ∷ [];
  orders = plain ∷ [];
  checks = between 4 1 1000000 ∷ [];
  references = refers_to (2 ∷ []) (codes "product") (codes "name" ∷ []) ∷ [];
}

abbrev pub batch_at : ℕ → Table
batch_at tree = record (plain_table (codes "batch") tree) {
  columns = int_column (codes "id") ∷ text_column (codes "name") ∷ text_column (codes "product") ∷ blob_column (codes "raw") ∷ int_column (codes "closed") ∷ int_column (codes "waiting") ∷ int_column (codes "running") ∷ int_column (codes "failed") ∷ int_column (codes "withdrawn") ∷ int_column (codes "good") ∷ int_column (codes "sessions") ∷ int_column (codes "spoiled") ∷ [];
  key = Some 0;
  primary = 0 ∷ [];
  uniques = (2 ∷ []) ∷ [];
  orders = plain ∷ [];
  checks = between 5 0 1 ∷ [];
  references = refers_to (3 ∷ []) (codes "product") (codes "name" ∷ []) ∷ [];
}

abbrev pub record_at : ℕ → Table
record_at tree = record (plain_table (codes "record") tree) {
  columns = int_column (codes "batch") ∷ int_column (codes "place") ∷ text_column (codes "name") ∷ int_column (codes "state") ∷ int_column (codes "spoiled") ∷ int_column (codes "remakes") ∷ [];
  primary = 1 ∷ 2 ∷ [];
  uniques = (1 ∷ 2 ∷ []) ∷ (1 ∷ 3 ∷ []) ∷ [];
  orders = plain ∷ plain ∷ [];
  checks = between 4 0 4 ∷ [];
  references = refers_to (1 ∷ []) (codes "batch") (codes "id" ∷ []) ∷ [];
}

abbrev pub grouping_at : ℕ → Table
grouping_at tree = record (plain_table (codes "grouping2") tree) {
  columns = int_column (codes "batch") ∷ int_column (codes "line") ∷ int_column (codes "place") ∷ blob_column (codes "aid") ∷ int_column (codes "rank") ∷ int_column (codes "enc") ∷ int_column (codes "tol") ∷ blob_column (codes "coded") ∷ [];
  primary = 1 ∷ 2 ∷ [];
  uniques = (1 ∷ 2 ∷ []) ∷ [];
  orders = plain ∷ [];
  checks = between 5 1 999 ∷ between 6 0 2 ∷ between 7 0 1 ∷ [];
  references = refers_to (1 ∷ 3 ∷ []) (codes "record") (codes "batch" ∷ codes "place" ∷ []) ∷ [];
}

abbrev pub session_at : ℕ → Table
session_at tree = record (plain_table (codes "session") tree) {
  columns = int_column (codes "id") ∷ text_column (codes "machine") ∷ int_column (codes "batch") ∷ int_column (codes "place") ∷ int_column (codes "serial") ∷ int_column (codes "state") ∷ int_column (codes "ended") ∷ int_column (codes "words") ∷ int_column (codes "app") ∷ int_column (codes "segment") ∷ int_column (codes "at_offset") ∷ int_column (codes "block") ∷ [];
  key = Some 0;
  primary = 0 ∷ [];
  uniques = (5 ∷ []) ∷ [];
  orders = plain ∷ [];
  checks = between 6 0 2 ∷ between 7 0 1 ∷ [];
  references = refers_to (3 ∷ 4 ∷ []) (codes "record") (codes "batch" ∷ codes "place" ∷ []) ∷ [];
}

abbrev pub word_at : ℕ → Table
word_at tree = record (plain_table (codes "word") tree) {
  columns = int_column (codes "session") ∷ int_column (codes "place") ∷ int_column (codes "sw") ∷ [];
  primary = 1 ∷ 2 ∷ [];
  uniques = (1 ∷ 2 ∷ []) ∷ [];
  orders = plain ∷ [];
  checks = between 3 0 65535 ∷ [];
  references = refers_to (1 ∷ []) (codes "session") (codes "id" ∷ []) ∷ [];
}

abbrev pub blank_at : ℕ → Table
blank_at tree = record (plain_table (codes "blank") tree) {
  columns = int_column (codes "serial") ∷ text_column (codes "lot") ∷ int_column (codes "kind") ∷ [];
  key = Some 0;
  primary = 0 ∷ [];
  checks = between 3 0 1 ∷ [];
  references = refers_to (2 ∷ []) (codes "lot") (codes "name" ∷ []) ∷ [];
}

abbrev pub remake_at : ℕ → Table
remake_at tree = record (plain_table (codes "remake") tree) {
  columns = int_column (codes "batch") ∷ int_column (codes "place") ∷ int_column (codes "turn") ∷ [];
  primary = 1 ∷ 2 ∷ 3 ∷ [];
  uniques = (1 ∷ 2 ∷ 3 ∷ []) ∷ [];
  orders = plain ∷ [];
  references = refers_to (1 ∷ 2 ∷ []) (codes "record") (codes "batch" ∷ codes "place" ∷ []) ∷ [];
}

abbrev pub reply_at : ℕ → Table
reply_at tree = record (plain_table (codes "reply") tree) {
  columns = text_column (codes "client") ∷ int_column (codes "number") ∷ blob_column (codes "ask") ∷ int_column (codes "status") ∷ blob_column (codes "body") ∷ [];
  primary = 1 ∷ 2 ∷ [];
  uniques = (1 ∷ 2 ∷ []) ∷ [];
  orders = plain ∷ [];
}

abbrev pub mark_at : ℕ → Table
mark_at tree = record (plain_table (codes "mark") tree) {
  columns = text_column (codes "client") ∷ int_column (codes "upto") ∷ [];
  primary = 1 ∷ [];
  uniques = (1 ∷ []) ∷ [];
  orders = plain ∷ [];
  checks = between 2 1 999999999999999999 ∷ [];
}

abbrev pub version_table : Table
version_table = version_at 0

abbrev pub product_table : Table
product_table = product_at 1

abbrev pub lot_table : Table
lot_table = lot_at 3

abbrev pub batch_table : Table
batch_table = batch_at 5

abbrev pub record_table : Table
record_table = record_at 7

abbrev pub grouping_table : Table
grouping_table = grouping_at 10

abbrev pub session_table : Table
session_table = session_at 12

abbrev pub word_table : Table
word_table = word_at 14

abbrev pub blank_table : Table
blank_table = blank_at 16

abbrev pub remake_table : Table
remake_table = remake_at 17

abbrev pub reply_table : Table
reply_table = reply_at 19

abbrev pub mark_table : Table
mark_table = mark_at 21

-- The indexes only speed up reads: the running session of a machine, the rows of a record with
-- `enc` and `tol`, the states of the sessions of a batch, the columns of a batch without its bytes,
-- and the lot that contains a serial.
abbrev pub session_running_at : ℕ → Index
session_running_at tree = record { name = codes "session_running"; tree = tree; table = 12; columns = 2 ∷ 6 ∷ []; order = plain; is_unique = false }

abbrev pub grouping_place_at : ℕ → Index
grouping_place_at tree = record { name = codes "grouping_place"; tree = tree; table = 10; columns = 1 ∷ 3 ∷ 4 ∷ 5 ∷ 2 ∷ 6 ∷ 7 ∷ []; order = plain; is_unique = false }

abbrev pub session_stands_at : ℕ → Index
session_stands_at tree = record { name = codes "session_stands"; tree = tree; table = 12; columns = 3 ∷ 6 ∷ []; order = plain; is_unique = false }

abbrev pub batch_told_at : ℕ → Index
batch_told_at tree = record { name = codes "batch_told"; tree = tree; table = 5; columns = 2 ∷ 3 ∷ 5 ∷ []; order = plain; is_unique = false }

abbrev pub batch_named_at : ℕ → Index
batch_named_at tree = record { name = codes "batch_named"; tree = tree; table = 5; columns = 0 ∷ 2 ∷ []; order = plain; is_unique = false }

abbrev pub lot_serial_at : ℕ → Index
lot_serial_at tree = record { name = codes "lot_serial"; tree = tree; table = 3; columns = 3 ∷ []; order = plain; is_unique = false }

abbrev pub our_schema : Schema
our_schema = record {
  tables = version_table ∷ product_table ∷ lot_table ∷ batch_table ∷ record_table ∷ grouping_table ∷ session_table ∷ word_table ∷ blank_table ∷ remake_table ∷ reply_table ∷ mark_table ∷ [];
  indexes =
      automatic product_table 0 (1 ∷ []) 2
      ∷ automatic lot_table 0 (1 ∷ []) 4
      ∷ automatic batch_table 0 (2 ∷ []) 6
      ∷ automatic record_table 0 (1 ∷ 2 ∷ []) 8
      ∷ automatic record_table 1 (1 ∷ 3 ∷ []) 9
      ∷ automatic grouping_table 0 (1 ∷ 2 ∷ []) 11
      ∷ automatic session_table 0 (5 ∷ []) 13
      ∷ automatic word_table 0 (1 ∷ 2 ∷ []) 15
      ∷ automatic remake_table 0 (1 ∷ 2 ∷ 3 ∷ []) 18
      ∷ automatic reply_table 0 (1 ∷ 2 ∷ []) 20
      ∷ automatic mark_table 0 (1 ∷ []) 22
      ∷ session_running_at 23 ∷ grouping_place_at 24 ∷ session_stands_at 25 ∷ batch_told_at 26 ∷ batch_named_at 27 ∷ lot_serial_at 28 ∷ [];
  views = [];
}
