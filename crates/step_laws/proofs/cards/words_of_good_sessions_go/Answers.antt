use Rattle.step_laws.proofs.GoodCards.{good_whole, running_begun}
use Rattle.step_laws.proofs.cards.words_of_good_sessions_go.Goals as goal

pub returns : goal.returns
returns c = record { good = good_whole; running = running_begun }
