use Rattle.store_data.proofs.IsPlanLemmas.{IsPlan-of_sound}
use Rattle.store_data.proofs.record_plan.plan_of_sound.Goals as goal

pub invariant_of-result : goal.invariant_of-result
invariant_of-result c = rw c.in_ok-applications.ensures (IsPlan-of_sound c.args.p.now c.args.rows.now c.requires)
