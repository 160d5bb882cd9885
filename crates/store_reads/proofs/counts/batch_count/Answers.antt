use Rattle.std.proofs.Common.{length}
use Rattle.sqlite.specs.Held.{state}
use Rattle.store_reads.proofs.Counting.{counted}
use Rattle.store_reads.proofs.ReadContents.{reads}
use Rattle.store_reads.proofs.counts.batch_count.Goals as goal

pub returns : goal.returns
returns g c = record {
  value =
      reads (state g.S.Store c.args.conn.now) (state g.S.Store c.last_batch.new.conn) c.last_batch.result _ _ c.last_batch.ensures.finds.found
      (λ d sound x is. counted _ (length d.facts.batches) x (c.numbers_of_rows.ensures.batch_ids d.facts) is);
  looks = c.last_batch.ensures.finds.looks;
}
