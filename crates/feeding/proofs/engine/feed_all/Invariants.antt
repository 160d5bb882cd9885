use Rattle.std.proofs.Common.{◌≤◌, ◌^◌}
use Rattle.feeding.specs.Tries.{IsSettled}
use Rattle.feeding.specs.Views.{feed_view}
use Rattle.feeding.proofs.Going.{left_of}
use Rattle.feeding.proofs.Turns.{SoFar}
use Rattle.feeding.proofs.engine.feed_all.Given as goal

abbrev pub invariant-loop-number : goal.invariant-loop-number
invariant-loop-number g l = record {
  few : (feed_view l.feed).tries ≤ 10;
  settled : IsSettled (feed_view l.feed);
  heard : SoFar g.E.Write.contents (feed_view l.fn.feed) (feed_view l.feed) (g.X.Exchange.log l.fn.exchange) (g.X.Exchange.log l.exchange) (g.W.Write.contents l.fn.writer) (g.W.Write.contents l.writer) l.fn.events l.events;
}

abbrev pub decreases-loop-number : goal.decreases-loop-number
decreases-loop-number g l = left_of (10 ^ 18) (feed_view l.feed)
