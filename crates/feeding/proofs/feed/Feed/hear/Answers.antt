use Rattle.std.proofs.Common.{◌<◌, ◌∙◌, Bor, ap, sym, subst, option_map}
use Rattle.job_facts.specs.declared.reply.Reply.{Reply}
use Rattle.feeding.specs.Views.{feed_view}
use Rattle.feeding.specs.Events.{without_numbers}
use Rattle.feeding.proofs.Going.{same_tries}
use Rattle.feeding.proofs.Putting.{without_same}
use Rattle.feeding.proofs.feed.Feed.hear.Goals as goal

pub count-requires : goal.count-requires
count-requires c =
    let f = record (feed_view c.args.self.now) { text = c.clear.new.self.items } in
    record {
      few = subst (λ n. n < 10) (sym (same_tries f (feed_view c.take.new.self) (feed_view c.settle.new.self) c.args.number (option_map (λ (r : Bor Reply). r.now) c.args.reply) c.in_ok-card.ensures.feed c.in_ok-lines.ensures.feed))
          c.requires.few;
    }

pub returns-clause-rejected : goal.returns-clause-rejected
returns-clause-rejected c = (
  c.in_ok-card.ensures.card,
  c.in_ok-lines.ensures.lines ∙ ap without_numbers c.in_ok-card.ensures.feed ∙ without_same (feed_view c.args.self.now) c.clear.new.self.items c.args.number (option_map (λ (r : Bor Reply). r.now) c.args.reply),
)
