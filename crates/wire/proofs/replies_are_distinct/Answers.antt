use Rattle.wire.proofs.ParseLemmas.{distinct_replies}
use Rattle.wire.proofs.replies_are_distinct.Goals as goal

pub returns : goal.returns
returns c = distinct_replies
