-- The parts of rows that are read.
use Rattle.std.specs.Prelude.{◌<◌, ◌^◌}
use Rattle.job_facts.specs.declared.rows.BatchTotals.{BatchTotals}
use Rattle.table_rows.specs.Tables.{StoredBatch, StoredLot, totals_of}
use Rattle.row_reads.specs.declared.batches.BatchHead.{BatchHead}
use Rattle.row_reads.specs.declared.batches.BatchAt.{BatchAt}
use Rattle.row_reads.specs.declared.lots.LotRow.{LotRow}

-- the batch `b` without the bytes of its file
abbrev pub head_of : StoredBatch → BatchHead
head_of b = record { id = b.id; product = b.product; is_closed = b.closed; totals = totals_of b }

-- Each counter is below 2^63, so it is an integer of SQLite.
pub record AreCounts (totals : BatchTotals) : Type 0 where
  pub waiting : totals.waiting < 2 ^ 63
  pub running : totals.running < 2 ^ 63
  pub failed : totals.failed < 2 ^ 63
  pub withdrawn : totals.withdrawn < 2 ^ 63
  pub good : totals.good < 2 ^ 63
  pub sessions : totals.sessions < 2 ^ 63
  pub spoiled : totals.spoiled < 2 ^ 63

-- The id and the counters of `h` are below 2^63.
pub record IsHead (h : BatchHead) : Type 0 where
  pub id : h.id < 2 ^ 63
  pub totals : AreCounts h.totals

-- the batch `b` without the bytes of its file and without its counters
abbrev pub batch_at : StoredBatch → BatchAt
batch_at b = record { id = b.id; product = b.product; is_closed = b.closed }

-- The id of `b` is below 2^63.
abbrev pub IsBatchAt : BatchAt → Type 0
IsBatchAt b = b.id < 2 ^ 63

-- the lot `l` with the number of its discarded blanks
abbrev pub lot_row_of : StoredLot → LotRow
lot_row_of l = record { lot = l.lot; discarded = l.discarded }

-- The number of discarded blanks of `l` is below 2^63.
abbrev pub IsLotRow : LotRow → Type 0
IsLotRow l = l.discarded < 2 ^ 63
