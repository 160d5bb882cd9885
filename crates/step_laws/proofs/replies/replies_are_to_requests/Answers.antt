use Rattle.step_laws.proofs.ReplyFacts.{step_may}
use Rattle.step_laws.proofs.replies.replies_are_to_requests.Goals as goal

pub returns : goal.returns
returns c = step_may
