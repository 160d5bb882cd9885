use Rattle.std.proofs.Common.{refl, sym, subst, ◌∙◌}
use Rattle.job_facts.specs.Sound.{Decides}
use Rattle.job_facts.specs.Steps.{step}
use Rattle.job_facts.specs.declared.request.Request.TheVariants as request
use Rattle.job_facts.proofs.SoundFacts.{sound_discard}
use Rattle.job_core.proofs.decision.records.discard_by.Goals as goal

pub returns-in-Some-2 : goal.returns-in-Some-2
unfolding step
returns-in-Some-2 c = λ f sound lot charged.
    let blank = c.args.blank in
    let there = sym lot ∙ c.in-Some-2.is in
    let free = sym charged ∙ c.if-charged.false in
    subst (λ d. Decides f c.args.client.now (request.Discard blank) d.0 d.1) (sym c.discarded.ensures)
    (record { step_is = rw (there, free) refl; keeps = record { before = (c.in-Some.field-0, sym lot ∙ c.in-Some.is, refl); sound = sound_discard f blank _ sound there free; after = tt } })
