-- Rows that are added to others.
use Rattle.std.specs.Prelude.{List, [], ◌++◌, map}
use Rattle.std.specs.List.{fold}
use Rattle.table_rows.specs.Tables.{StoredBatch, Tables, with_batch}
use Rattle.row_writes.specs.Raw.{with_raw_set}

-- the tables after adding the rows one after the other
abbrev pub with_each : {X : Type 0} → (X → Tables → Tables) → List X → Tables → Tables
with_each with_row rows t = fold (λ u row. with_row row u) t rows

-- the batch without its bytes
abbrev pub bare : StoredBatch → StoredBatch
bare b = record b { raw = [] }

abbrev pub with_bare : StoredBatch → Tables → Tables
with_bare b = with_batch (bare b)

-- the tables after the batch with the id of `b` gets the bytes of `b`
abbrev pub with_bytes : StoredBatch → Tables → Tables
with_bytes b = with_raw_set b.id b.raw

abbrev pub without_bytes : Tables → Tables
without_bytes rows = record rows { batches = map bare rows.batches }

-- the tables with the rows of `rows` added to each table
abbrev pub with_all : Tables → Tables → Tables
with_all rows t = record {
  products = rows.products ++ t.products;
  lots = rows.lots ++ t.lots;
  batches = rows.batches ++ t.batches;
  records = rows.records ++ t.records;
  groupings = rows.groupings ++ t.groupings;
  sessions = rows.sessions ++ t.sessions;
  words = rows.words ++ t.words;
  blanks = rows.blanks ++ t.blanks;
  remakes = rows.remakes ++ t.remakes;
  replies = rows.replies ++ t.replies;
  marks = rows.marks ++ t.marks;
}
