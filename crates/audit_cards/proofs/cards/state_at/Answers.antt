use Rattle.std.proofs.Common.{◌∙◌, true, false, not, ap, sym}
use Rattle.audit_cards.proofs.CardLemmas.{state_at_end}
use Rattle.audit_cards.proofs.cards.state_at.Goals as goal

pub returns-then-is_none : goal.returns-then-is_none
returns-then-is_none c = λ s left ended.
    sym (state_at_end c.args.plan.now c.requires s c.args.cursor.now true left ended c.segment.result c.segment.ensures (c.is_none.ensures ∙ ap not c.if-is_none.true))

pub returns-else-is_none : goal.returns-else-is_none
returns-else-is_none c = λ s left ended.
    sym (state_at_end c.args.plan.now c.requires s c.args.cursor.now false left ended c.segment.result c.segment.ensures (c.is_none.ensures ∙ ap not c.if-is_none.false))
