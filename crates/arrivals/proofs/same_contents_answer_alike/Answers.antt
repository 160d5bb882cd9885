use Rattle.arrivals.proofs.AlikeContents.{same_answered_alike}
use Rattle.arrivals.proofs.same_contents_answer_alike.Goals as goal

pub returns : goal.returns
returns c = same_answered_alike c.same_facts_answer_alike.ensures.replies
