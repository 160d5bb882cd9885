-- Parts of a batch, from its row without the bytes of its file.
use Rattle.std.specs.Prelude.{◌==◌, ◌&&◌, Bool, Option, Some, None}
use Rattle.job_facts.specs.declared.rows.BatchRow.{BatchRow}
use Rattle.job_facts.specs.declared.rows.BatchTotals.{BatchTotals}
use Rattle.row_reads.specs.declared.batches.BatchHead.{BatchHead}
use Rattle.row_reads.specs.declared.batches.BatchAt.{BatchAt}
use Rattle.row_reads.specs.declared.records.RecordAt.{RecordAt}
use Rattle.table_rows.specs.declared.writing.RecordPlace.{RecordPlace}
use Rattle.table_rows.specs.Tables.{StoredBatch, totals_of}
use Rattle.store_reads.specs.declared.known.BatchCounters.{BatchCounters}
use Rattle.row_laws.specs.RowValues.{no_totals}

abbrev pub row_of : BatchAt → BatchRow
row_of b = record { product = b.product; is_closed = b.is_closed }

-- the counters of a batch, which are all 0 if the batch doesn't exist
abbrev pub totals_in : Option BatchHead → BatchTotals
totals_in None = no_totals
totals_in (Some h) = h.totals

-- No record is waiting, running or failed.
abbrev pub is_over : BatchTotals → Bool
is_over totals = (totals.waiting == 0) && ((totals.running == 0) && (totals.failed == 0))

-- the counters in `h`, with the id of the batch
abbrev pub counters_at : BatchHead → BatchCounters
counters_at h = record { batch = h.id; totals = h.totals }

-- the counters in the row `b`, with the id of the batch
abbrev pub counters_of : StoredBatch → BatchCounters
counters_of b = record { batch = b.id; totals = totals_of b }

-- the row of the record `r` before a change, with the counters of its batch
abbrev pub place_at : BatchCounters → RecordAt → RecordPlace
place_at counters r = record { batch = counters.batch; place = r.place; spoiled = r.spoiled; remakes = r.remakes; totals = counters.totals }
