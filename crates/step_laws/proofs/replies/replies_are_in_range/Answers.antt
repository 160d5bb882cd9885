use Rattle.step_laws.proofs.ReplyRanges.{step_in_range}
use Rattle.step_laws.proofs.replies.replies_are_in_range.Goals as goal

pub returns : goal.returns
returns c = step_in_range
