use Rattle.arrivals.proofs.MeaningLists.{contents_after-append}
use Rattle.arrivals.proofs.in_turn.Goals as goal

pub returns : goal.returns
returns c = λ k earlier later are. contents_after-append k earlier later are
