use Rattle.std.proofs.Common.{◌∙◌, length, sym, ap, subst}
use Rattle.std.proofs.lemmas.Bool.{false≢true}
use Rattle.std.proofs.lemmas.List.{length-map}
use Rattle.store_data.specs.Sequence.{commands_of}
use Rattle.job_facts.specs.Sound.{AreWords}
use Rattle.table_rows.specs.Tables.{StoredWord}
use Rattle.audit_laws.specs.Audited.{named_session}
use Rattle.audit_cards.specs.Cards.{Leaves}
use Rattle.audit_cards.proofs.SessionLemmas.{audited_session, cursor_says, says}
use Rattle.audit_order.proofs.Tested.{refused}
use Rattle.audit_cards.proofs.sessions.is_audited_session.Goals as goal

pub returns-in_default : goal.returns-in_default
returns-in_default c =
    refused (λ a. c.card_after.ensures.none c.in_default.is
    (subst (AreWords (commands_of c.args.plan.now)) (sym c.words_of-words.ensures) (says c.args.tables.now c.args.session.now c.args.batch.now c.args.plan.now c.requires.plan a).words))

pub returns-then-not-is_sized : goal.returns-then-not-is_sized
returns-then-not-is_sized c =
    refused (λ a. false≢true (sym c.if-not-is_sized.true ∙ c.is_sized.ensures.1
    (a.machine, a.count ∙ sym (ap length c.words_of-words.ensures) ∙ length-map c.words_of-words.result.now (λ (w : StoredWord). w.sw))))

pub returns-then-not-stands : goal.returns-then-not-stands
returns-then-not-stands c =
    let left = subst (λ ws. Leaves c.args.plan.now ws c.in-Some.card.cursor c.in-Some.card.stops) c.words_of-words.ensures c.in-Some.ensures.some in
    refused (λ a. false≢true (sym c.if-not-stands.true ∙ c.stands.ensures.1
    ((says c.args.tables.now c.args.session.now c.args.batch.now c.args.plan.now c.requires.plan a).state
    ∙ sym (c.state_of.ensures (named_session c.args.tables.now c.args.session.now) left (λ i. c.args.session.now.ended)))))

pub returns-then-not-is_at : goal.returns-then-not-is_at
returns-then-not-is_at c =
    let left = subst (λ ws. Leaves c.args.plan.now ws c.in-Some.card.cursor c.in-Some.card.stops) c.words_of-words.ensures c.in-Some.ensures.some in
    refused (λ a. false≢true (sym c.if-not-is_at.true ∙ c.is_at.ensures.1
    (cursor_says c.args.tables.now c.args.session.now c.args.batch.now c.args.plan.now c.requires.plan _ _ left
    (says c.args.tables.now c.args.session.now c.args.batch.now c.args.plan.now c.requires.plan a))))

pub returns : goal.returns
returns c =
    let t = c.args.tables.now in
    let s = c.args.session.now in
    let left = subst (λ ws. Leaves c.args.plan.now ws c.in-Some.card.cursor c.in-Some.card.stops) c.words_of-words.ensures c.in-Some.ensures.some in
    let sized = c.is_sized.ensures.0 c.if-not-is_sized.false in (
      λ yes. audited_session t s c.args.batch.now c.args.plan.now c.requires.plan c.in-Some.card.cursor c.in-Some.card.stops left sized.0
          (sized.1 ∙ sym (length-map c.words_of-words.result.now (λ (w : StoredWord). w.sw)) ∙ ap length c.words_of-words.ensures)
          (c.stands.ensures.0 c.if-not-stands.false ∙ c.state_of.ensures (named_session t s) left (λ i. s.ended))
          (c.is_at.ensures.0 c.if-not-is_at.false)
          (c.is_for.ensures.0 yes),
      λ a. c.is_for.ensures.1 (says t s c.args.batch.now c.args.plan.now c.requires.plan a).fits,
    )
