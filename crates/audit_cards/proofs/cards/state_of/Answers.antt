use Rattle.std.proofs.Common.{◌≡◌, ◌∙◌, false, ap, sym, subst}
use Rattle.std.proofs.lemmas.Bool.{false≢true}
use Rattle.table_rows.specs.Tables.{StoredSession}
use Rattle.audit_cards.specs.Cards.{Leaves}
use Rattle.audit_cards.proofs.cards.state_of.Goals as goal
use Rattle.audit_cards.proofs.cards.state_of.Goals.{then-session, else-session}

pub returns-else-card : goal.returns-else-card
returns-else-card c = λ s left ended.
    let none : (c.session.inside.ended ≡ false) × (c.args.card.now.stops ≡ false) = elim c.if-session.branch [
      | then-session w ↦ absurd (false≢true (sym c.if-card.false ∙ w.value-is ∙ w.if-session.true))
      | else-session w ↦ (w.if-session.false, sym w.value-is ∙ c.if-card.false)
    ] in
    c.state_at.ensures s (subst (Leaves c.args.plan.now s.words c.args.card.now.cursor) none.1 left)
    (ended ∙ sym (ap (λ (x : StoredSession). x.ended) c.session.view_is) ∙ none.0)
