use Rattle.arguments.proofs.CommandLemmas.{one_more}
use Rattle.arguments.proofs.commands.with_argument.Goals as goal

pub returns : goal.returns
returns c = λ app rule so own. one_more c.args.command app c.args.argument rule c.arg.result c.arg.ensures so own
