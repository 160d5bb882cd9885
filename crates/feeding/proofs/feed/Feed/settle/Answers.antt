use Rattle.std.proofs.Common.{◌∙◌, ap, sym, map, Bor, List, ℕ}
use Rattle.feeding.specs.Events.{cards_in}
use Rattle.feeding.specs.Feeds.{Feed}
use Rattle.feeding.specs.Views.{feed_view}
use Rattle.feeding.proofs.Putting.{idle_after, other_after}
use Rattle.feeding.proofs.feed.Feed.settle.Goals as goal

pub returns-in-Idle-clause-lines : goal.returns-in-Idle-clause-lines
returns-in-Idle-clause-lines c =
    ap (λ ls. cards_in (map (λ (l : Bor (List ℕ)). l.now) ls)) c.left-left.ensures
    ∙ idle_after (feed_view c.args.self.now) (sym (ap (λ (f : Feed). f.feeder.stand) c.in_ok-go_on.ensures) ∙ sym c.stand.ensures ∙ c.in-Idle.is)

pub returns-in_default-clause-lines : goal.returns-in_default-clause-lines
returns-in_default-clause-lines c =
    other_after (feed_view c.args.self.now) (λ idle. c.in_default.not-Idle (c.stand.ensures ∙ ap (λ (f : Feed). f.feeder.stand) c.in_ok-go_on.ensures ∙ idle))
