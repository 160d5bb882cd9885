use Rattle.std.specs.Prelude.{if◌then◌else◌, ◌==◌}
use Rattle.std.proofs.Common.{◌≡◌, length, eqb, true, false, arith, ap, refl, sym, subst, ◌∙◌}
use Rattle.std.proofs.lemmas.Bool.{eq-eqb, ne_eqb}
use Rattle.std.proofs.lemmas.Result.{IfOk-weaker}
use Rattle.job_facts.specs.declared.change.Change.{Change}
use Rattle.job_facts.specs.declared.refusal.Refusal.TheVariants as refusal
use Rattle.job_facts.specs.declared.reply.Reply.{Reply}
use Rattle.job_facts.specs.declared.request.Request.TheVariants as request
use Rattle.job_facts.specs.declared.rows.SessionRow.{SessionRow}
use Rattle.job_facts.specs.Sound.{Makes}
use Rattle.job_facts.specs.Steps.{Outcome, refused, step, take_word}
use Rattle.job_facts.specs.Store.{IsHonest}
use Rattle.job_facts.proofs.RunningLemmas.{runs_there}
use Rattle.job_core.proofs.decision.sessions.answer.Goals as goal

pub returns-then-row-from-clause-value : goal.returns-then-row-from-clause-value
unfolding step
returns-then-row-from-clause-value g c = λ honest c' held.
    let f = c'.facts in
    let s = c.args.word.session in
    let k = c.args.word.index in
    let sw = c.args.word.sw in
    let is = c.in-Ok.ensures.is f (c.in_ok-session.ensures.value honest c' held) in
    let words = ap (λ (r : SessionRow). r.words) is.3 in
    let differ : eqb k (length is.0.words) ≡ false = ne_eqb k (length is.0.words) (λ e. c.if-row-from.true (words ∙ sym e ∙ sym c.from.ensures)) in
    let sound = (g.met.S.JobStore.sound c.args.store.now c' held).facts in
    subst (λ (d : Reply × Change). Makes f (step f c.args.client.now (request.Answer s k sw)) d.0 d.1) (sym c.refused-then-row-from.ensures)
    (record {
      step_is = is.4 (λ x. if k == length x.words then take_word f s k sw x else refused f refusal.OutOfTurn) ∙ (rw (differ) refl);
      keeps = record { before = tt; sound = sound; after = tt };
    })

pub returns-clause-value : goal.returns-clause-value
unfolding step
returns-clause-value g c = λ honest c' held.
    let f = c'.facts in
    let s = c.args.word.session in
    let k = c.args.word.index in
    let sw = c.args.word.sw in
    let early : IsHonest (g.S.JobStore.state c.session.new.self) = omega (arith, c.taking_word.ensures.leaves.stays.doubts) in
    let still = c.session.ensures.leaves.stays.contents early c' held in
    let is = c.in-Ok.ensures.is f (c.in_ok-session.ensures.value early c' held) in
    let sound = (g.met.S.JobStore.sound c.args.store.now c' held).facts in
    let runs = runs_there f s is.0 sound is.1 is.2 in
    let index : k ≡ length is.0.words = sym c.from.ensures ∙ sym c.if-row-from.false ∙ ap (λ (r : SessionRow). r.words) is.3 in
    let same : eqb k (length is.0.words) ≡ true = eq-eqb k (length is.0.words) index in
    let outcome : step f c.args.client.now (request.Answer s k sw) ≡ take_word f s k sw is.0 =
    is.4 (λ x. if k == length x.words then take_word f s k sw x else refused f refusal.OutOfTurn) ∙ (rw (same) refl) in
    IfOk-weaker c.taking_word.result _ _ (λ answer made. subst (λ (o : Outcome). Makes f o answer.0 answer.1) (sym outcome) (made is.0 runs.0 runs.1 is.3 index))
    (c.taking_word.ensures.value honest c' still)
