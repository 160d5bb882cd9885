-- Several reads, one after the other.
use Rattle.std.proofs.Common.{◌∙◌}
use Rattle.sqlite.specs.State.{State}
use Rattle.sql_base.specs.Ends.{IsKept}

-- two reads, one after the other
pub kept_then : (a b c : State) → IsKept a b → IsKept b c → IsKept a c
kept_then a b c one two = record {
  was_open = λ live. one.was_open (two.was_open live);
  now_is = λ live. two.now_is live ∙ one.now_is (two.was_open live);
  committed_is = λ live. two.committed_is live ∙ one.committed_is (two.was_open live);
}
