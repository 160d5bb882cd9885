use Rattle.step_laws.proofs.GoodCards.{one_good}
use Rattle.step_laws.proofs.cards.record_has_one_good_session.Goals as goal

pub returns : goal.returns
returns c = one_good
