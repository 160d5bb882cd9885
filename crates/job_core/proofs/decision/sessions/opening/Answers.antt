use Rattle.job_facts.proofs.PlanLemmas.{plan_there}
use Rattle.job_facts.proofs.RunningLemmas.{waiting_there}
use Rattle.job_core.proofs.decision.sessions.opening.Goals as goal

pub returns-clause-value : goal.returns-clause-value
returns-clause-value g c = λ honest c' held may session.
    let f = c'.facts in
    let sound = (g.met.S.JobStore.sound c.args.store.now c' held).facts in
    let plan = plan_there f c.args.opens.now.batch c.args.opens.now.rec sound (waiting_there f c.args.opens.now.batch c.args.opens.now.rec may.waits) in
    let command = c.in_ok-command.ensures.value honest c' held plan.0 0 plan.1 plan.2 (c.start.ensures plan.0) in
    c.opened.ensures f plan.0 sound may session plan.1 command
