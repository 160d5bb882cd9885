use Rattle.std.proofs.Common.{refl, sym, subst}
use Rattle.job_facts.specs.Facts.{with_end}
use Rattle.job_facts.specs.Sound.{Makes}
use Rattle.job_facts.specs.Steps.{step}
use Rattle.job_facts.specs.declared.reply.Reply.TheVariants as reply
use Rattle.job_facts.specs.declared.request.Request.TheVariants as request
use Rattle.job_facts.proofs.SoundSessions.{sound_end}
use Rattle.job_core.proofs.decision.sessions.abort_by.Goals as goal

pub returns-in-Err : goal.returns-in-Err
unfolding step
returns-in-Err c = λ f sound row.
    let s = c.args.session in
    subst (λ d. Makes f (step f c.args.client.now (request.Abort s)) d.0 d.1) (sym c.refused.ensures)
    (record { step_is = c.in-Err.ensures.is f row (λ x. (with_end f s, reply.Spoiled s)); keeps = record { before = tt; sound = sound; after = tt } })

pub returns-in-Ok : goal.returns-in-Ok
unfolding step
returns-in-Ok c = λ f sound row.
    let s = c.args.session in
    let is = c.in-Ok.ensures.is f row in
    record { step_is = is.4 (λ x. (with_end f s, reply.Spoiled s)); keeps = record { before = (_, (is.0, is.1, is.2, refl)); sound = sound_end f s is.0 sound is.1 is.2; after = tt } }
