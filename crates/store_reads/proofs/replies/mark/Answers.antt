use Rattle.sqlite.specs.Held.{state}
use Rattle.store_reads.proofs.ReadContents.{reads}
use Rattle.store_reads.proofs.replies.mark.Goals as goal

pub returns : goal.returns
returns g c = record {
  value = reads (state g.S.Store c.args.conn.now) (state g.S.Store c.mark.new.conn) c.mark.result _ _ c.mark.ensures.finds.found (λ d sound x is. is (c.replies_by_number.ensures.marks_named d sound));
  looks = c.mark.ensures.finds.looks;
}
