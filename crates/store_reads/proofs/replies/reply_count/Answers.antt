use Rattle.sqlite.specs.Held.{state}
use Rattle.store_reads.proofs.ReadContents.{reads}
use Rattle.store_reads.proofs.replies.reply_count.Goals as goal

pub returns : goal.returns
returns g c = record {
  value = reads (state g.S.Store c.args.conn.now) (state g.S.Store c.reply_count.new.conn) c.reply_count.result _ _ c.reply_count.ensures.found (λ d sound x is. is);
  looks = c.reply_count.ensures.looks;
}
