use Rattle.std.proofs.Common.{Ok, true, false, refl, sym, subst, inl, inr}
use Rattle.job_facts.specs.Handing.{IsOpenRecord}
use Rattle.job_facts.specs.Sound.{Decides}
use Rattle.job_facts.specs.Steps.{withdrawn, step}
use Rattle.job_facts.specs.declared.change.Change.TheVariants.{Withdraws}
use Rattle.job_facts.specs.declared.facts.RecordState.{RecordState}
use Rattle.job_facts.specs.declared.reply.Reply.TheVariants.{Withdrawn}
use Rattle.job_facts.specs.declared.request.Request.TheVariants as request
use Rattle.job_facts.proofs.SoundFacts.{sound_withdraw}
use Rattle.job_core.proofs.decision.records.withdraw_by.Goals as goal

pub returns-in-Waiting : goal.returns-in-Waiting
unfolding step
returns-in-Waiting c = λ f sound found.
    let b = c.args.batch.now in
    let r = c.args.rec.now in
    let by = λ (s : RecordState). Decides f c.args.client.now (request.Withdraw b r) (Withdrawn b r) (Withdraws b r s) in
    subst (λ d. Decides f c.args.client.now (request.Withdraw b r) d.0 d.1) (sym c.withdrawn.ensures)
    (elim c.in-Waiting.is [
      | inl waits ↦
          let is = subst (λ s. IsOpenRecord f b r (Ok s)) waits found in
          subst by (sym waits) (record { step_is = is.2 (withdrawn f b r); keeps = record { before = (is.1, inl refl); sound = sound_withdraw f b r false sound is.0 is.1; after = tt } })
      | inr failed ↦
          let is = subst (λ s. IsOpenRecord f b r (Ok s)) failed found in
          subst by (sym failed) (record { step_is = is.2 (withdrawn f b r); keeps = record { before = (is.1, inr refl); sound = sound_withdraw f b r true sound is.0 is.1; after = tt } })
    ])
