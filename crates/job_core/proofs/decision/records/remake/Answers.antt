use Rattle.std.proofs.Common.{subst}
use Rattle.job_facts.specs.Handing.{IsOpenRecord}
use Rattle.job_core.proofs.decision.records.remake.Goals as goal

pub returns-in-Ok-clause-value : goal.returns-in-Ok-clause-value
returns-in-Ok-clause-value g c = λ honest c' held.
    c.remake_by.ensures c'.facts (g.met.S.JobStore.sound c.args.store.now c' held).facts
    (subst (IsOpenRecord c'.facts c.args.batch.now c.args.rec.now) c.in-Ok.is (c.in_ok-refusal.ensures.value honest c' held))
