use Rattle.plan_print.proofs.plan.plan_engine.Goals as goal

pub returns : goal.returns
returns g c =
    let (raw, agrees, (ends, noted)) = c.plan_with_events.ensures in
    (raw, agrees, ends)
