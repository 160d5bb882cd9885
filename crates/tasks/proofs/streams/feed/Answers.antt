use Rattle.std.proofs.Common.{None}
use Rattle.subcommands.proofs.RunLemmas.{feeds_of}
use Rattle.tasks.proofs.streams.feed.Goals as goal

pub returns-clause-runs : goal.returns-clause-runs
returns-clause-runs g c = c.run_feed.ensures

pub returns-clause-feeds : goal.returns-clause-feeds
returns-clause-feeds g c = feeds_of g.E.Write.contents c.args.events.now c.run_feed.new.events None None None None None c.args.start c.run_feed.result c.run_feed.ensures
