use Rattle.std.proofs.Common.{Ok, subst}
use Rattle.job_facts.specs.Handing.{IsOpenRecord}
use Rattle.job_facts.specs.Steps.{remade, step}
use Rattle.job_facts.proofs.SoundFacts.{sound_remake}
use Rattle.job_core.proofs.decision.records.remake_by.Goals as goal

pub returns-in-Failed : goal.returns-in-Failed
unfolding step
returns-in-Failed c = λ f sound found.
    let b = c.args.batch.now in
    let r = c.args.rec.now in
    let is = subst (λ s. IsOpenRecord f b r (Ok s)) c.in-Failed.is found in
    record { step_is = is.2 (remade f b r); keeps = record { before = is.1; sound = sound_remake f b r sound is.0 is.1; after = tt } }
