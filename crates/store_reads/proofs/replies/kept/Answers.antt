use Rattle.sqlite.specs.Held.{state}
use Rattle.store_reads.proofs.ReadContents.{reads}
use Rattle.store_reads.proofs.replies.kept.Goals as goal

pub returns : goal.returns
returns g c = record {
  value = reads (state g.S.Store c.args.conn.now) (state g.S.Store c.kept.new.conn) c.kept.result _ _ c.kept.ensures.found (λ d sound x is. is (c.replies_by_number.ensures.once d c.args.client.now c.args.number sound));
  looks = c.kept.ensures.looks;
}

pub kept-requires-clause-number : goal.kept-requires-clause-number
kept-requires-clause-number g c = c.is_in_range.ensures.0 c.if-not-is_in_range.false
