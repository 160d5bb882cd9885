use Rattle.row_reads.proofs.Walking.{AreSoFar}
use Rattle.row_reads.proofs.answered.all.Given as goal

abbrev pub invariant-loop-answered : goal.invariant-loop-answered
invariant-loop-answered g l = AreSoFar g.T.Answered.value g.T.Answered.fits l.rows l.answered-index l.all.items
