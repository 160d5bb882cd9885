use Rattle.row_reads.proofs.Walking.{one_further}
use Rattle.row_reads.proofs.answered.all.Goals as goal

pub loop-answered-preserved : goal.loop-answered-preserved
loop-answered-preserved g c =
    let t = g.T.Answered in
    one_further t.value t.fits c.args.rows.now c.loop-answered.answered-index c.answered-item.result c.loop-answered-test.true c.answered-item.is
    c.in_ok-read.field-0 c.in_ok-read.ensures.value c.in_ok-read.ensures.ranged c.loop-answered.all.items _ c.loop-answered.invariant c.in_ok-push.ensures.items
