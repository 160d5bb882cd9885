use Rattle.audit_cards.proofs.CardLemmas.{Leaves-none}
use Rattle.audit_cards.proofs.cards.new_card.Goals as goal

pub returns : goal.returns
returns c = λ plan. Leaves-none plan _ (c.start.ensures plan)
