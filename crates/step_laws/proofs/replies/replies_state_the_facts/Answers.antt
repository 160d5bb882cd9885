use Rattle.step_laws.proofs.ReplyFacts.{step_says}
use Rattle.step_laws.proofs.replies.replies_state_the_facts.Goals as goal

pub returns : goal.returns
returns c = step_says
