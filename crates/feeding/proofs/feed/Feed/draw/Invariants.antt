use Rattle.std.proofs.Common.{◌≡◌, ◌-◌, length}
use Rattle.feeding.specs.Feeds.{draws}
use Rattle.feeding.specs.Views.{feed_view}
use Rattle.feeding.proofs.feed.Feed.draw.Given as goal

abbrev pub invariant-loop-self : goal.invariant-loop-self
invariant-loop-self l = draws (feed_view l.fn.self) (feed_view l.fn.self).left ≡ draws (feed_view l.self) (feed_view l.self).left

abbrev pub decreases-loop-self : goal.decreases-loop-self
decreases-loop-self l = length l.self.lines.now - l.self.at
