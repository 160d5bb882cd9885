use Rattle.std.proofs.Common.{map}
use Rattle.clap.specs.Words.{app_of, fault_of}
use Rattle.arguments.proofs.words.matches_of.Goals as goal

pub returns-in-Ok-clause-taken : goal.returns-in-Ok-clause-taken
returns-in-Ok-clause-taken g c = c.in-Ok.ensures.kinds c.requires

pub returns-in_ok-refusal_of-in-Err-clause-refused : goal.returns-in_ok-refusal_of-in-Err-clause-refused
returns-in_ok-refusal_of-in-Err-clause-refused g c =
    c.in_ok-refusal_of-in-Err.ensures (fault_of (app_of c.args.command) (map g.S.AsStr.text c.args.words.now)) (c.in-Err.ensures.kinds c.requires)
