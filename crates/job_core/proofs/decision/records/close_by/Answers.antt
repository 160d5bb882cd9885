use Rattle.std.proofs.Common.{refl, sym, ◌∙◌}
use Rattle.job_facts.specs.Steps.{step}
use Rattle.job_facts.proofs.SoundFacts.{sound_close}
use Rattle.job_core.proofs.decision.records.close_by.Goals as goal

pub returns-in-Ok : goal.returns-in-Ok
unfolding step
returns-in-Ok c = λ f sound row finished.
    let kept = c.in-Ok.ensures f c.args.batch.now row in
    let done = sym finished ∙ c.if-finished.true in
    record {
      step_is = rw (kept.1, kept.3, done) refl;
      keeps = record { before = tt; sound = sound_close f c.args.batch.now kept.0 sound kept.3 kept.1 done; after = tt };
    }
