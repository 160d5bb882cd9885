-- The counters of a product's blanks, from the rows of its lots and batches.
use Rattle.std.specs.Prelude.{◌<◌, ◌^◌, List, length, sum_by}
use Rattle.job_facts.specs.declared.rows.BlankTotals.{BlankTotals}
use Rattle.row_reads.specs.declared.batches.BatchHead.{BatchHead}
use Rattle.row_reads.specs.declared.lots.LotRow.{LotRow}
use Rattle.store_reads.specs.declared.sums.BatchSums.{BatchSums}
use Rattle.store_reads.specs.declared.sums.LotSums.{LotSums}

abbrev pub lot_sums : List LotRow → LotSums
lot_sums lots = record { total = sum_by (λ (l : LotRow). l.lot.count) lots; discarded = sum_by (λ (l : LotRow). l.discarded) lots }

abbrev pub batch_sums : List BatchHead → BatchSums
batch_sums heads = record {
  good = sum_by (λ (h : BatchHead). h.totals.good) heads;
  running = sum_by (λ (h : BatchHead). h.totals.running) heads;
  spoiled = sum_by (λ (h : BatchHead). h.totals.spoiled) heads;
}

-- Each sum is below 2^64.
pub record AreLotSums (sums : LotSums) : Type 0 where
  pub total : sums.total < 2 ^ 64
  pub discarded : sums.discarded < 2 ^ 64

pub record AreBatchSums (sums : BatchSums) : Type 0 where
  pub good : sums.good < 2 ^ 64
  pub running : sums.running < 2 ^ 64
  pub spoiled : sums.spoiled < 2 ^ 64

abbrev pub totals_of_rows : List LotRow → List BatchHead → BlankTotals
totals_of_rows lots heads = record {
  lots = length lots;
  total = (lot_sums lots).total;
  good = (batch_sums heads).good;
  running = (batch_sums heads).running;
  spoiled = (batch_sums heads).spoiled;
  discarded = (lot_sums lots).discarded;
}
