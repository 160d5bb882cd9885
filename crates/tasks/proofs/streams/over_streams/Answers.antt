use Rattle.subcommands.proofs.RunLemmas.{memory_runs}
use Rattle.tasks.proofs.streams.over_streams.Goals as goal

pub returns-in-Ok : goal.returns-in-Ok
returns-in-Ok g c = c.run.ensures.end

pub returns-in-Err : goal.returns-in-Err
returns-in-Err g c = memory_runs g.E.Write.contents c.args.events.now c.args.words c.requires.streams
