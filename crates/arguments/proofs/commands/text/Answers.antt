use Rattle.std.proofs.Common.{rules}
use Rattle.arguments.proofs.commands.text.Goals as goal

pub returns : goal.returns
returns c = (search rules, search rules)
