use Rattle.step_laws.proofs.GoodCards.{good_record, good_session}
use Rattle.step_laws.proofs.cards.good_stays_good.Goals as goal

pub returns : goal.returns
returns c = record { session = good_session; rec = good_record }
