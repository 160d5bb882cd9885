use Rattle.loopback.proofs.ArrivedLemmas.{dropped_more}
use Rattle.loopback.proofs.drain.Drain.drop_there.Goals as goal

pub returns-in-Nothing : goal.returns-in-Nothing
returns-in-Nothing g c = dropped_more _ _ _ _ _ _ c.loop.invariant c.drop_once.ensures

pub returns-in-All : goal.returns-in-All
returns-in-All g c = dropped_more _ _ _ _ _ _ c.loop.invariant c.drop_once.ensures

pub loop-preserved : goal.loop-preserved
loop-preserved g c = dropped_more _ _ _ _ _ _ c.loop.invariant c.drop_once.ensures
