use Rattle.sqlite.specs.Held.{state}
use Rattle.store_reads.proofs.ReadContents.{reads}
use Rattle.store_reads.proofs.counts.product_count.Goals as goal

pub returns : goal.returns
returns g c = record {
  value = reads (state g.S.Store c.args.conn.now) (state g.S.Store c.product_count.new.conn) c.product_count.result _ _ c.product_count.ensures.found (λ d sound x is. is);
  looks = c.product_count.ensures.looks;
}
