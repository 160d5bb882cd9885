use Rattle.std.proofs.Common.{refl, sym, ◌∙◌}
use Rattle.job_facts.specs.Steps.{step}
use Rattle.job_facts.proofs.SoundSessions.{running_numbered, sound_end}
use Rattle.job_core.proofs.decision.sessions.reset_by.Goals as goal

pub returns-in-Some : goal.returns-in-Some
unfolding step
returns-in-Some c = λ f sound session.
    let there = sym session ∙ c.in-Some.is in
    let run = running_numbered f c.args.client.now c.in-Some.session there in
    record { step_is = rw (there) refl; keeps = record { before = (_, (run.0, run.1, run.3, refl)); sound = sound_end f c.in-Some.session run.0 sound run.1 run.3; after = tt } }
