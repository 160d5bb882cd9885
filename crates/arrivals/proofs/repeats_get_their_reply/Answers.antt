use Rattle.arrivals.proofs.Repeats.{repeats_get_their_reply}
use Rattle.arrivals.proofs.repeats_get_their_reply.Goals as goal

pub returns : goal.returns
returns c = repeats_get_their_reply
