use Rattle.step_laws.proofs.GoodCards.{one_of_blank}
use Rattle.step_laws.proofs.cards.blank_has_one_session.Goals as goal

pub returns : goal.returns
returns c = one_of_blank
