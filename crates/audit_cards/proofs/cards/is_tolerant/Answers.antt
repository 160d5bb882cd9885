use Rattle.std.proofs.Common.{◌∙◌, ◌&&◌, sym, ap}
use Rattle.step_laws.proofs.CursorLemmas.{tolerance_at}
use Rattle.audit_cards.proofs.cards.is_tolerant.Goals as goal

pub returns-then-segment : goal.returns-then-segment
returns-then-segment c = λ plan k is at there max.
    sym (ap (λ b. b && c.at_end-at_end.result) c.if-segment.true) ∙ tolerance_at plan is k _ (c.at_end-at_end.ensures.tolerance plan k is at there max)

pub returns-else-segment : goal.returns-else-segment
returns-else-segment c = λ plan k is at there max.
    c.if-segment.false ∙ sym (ap (λ b. b && c.at_end-at_end.result) c.if-segment.false) ∙ tolerance_at plan is k _ (c.at_end-at_end.ensures.tolerance plan k is at there max)
