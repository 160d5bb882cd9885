use Rattle.std.proofs.Common.{codes}
use Rattle.book_arguments.specs.Words.{file_command}
use Rattle.arguments.specs.Words.{flag}
use Rattle.book_arguments.proofs.commands.book_command.Goals as goal

pub returns : goal.returns
returns c = c.with_argument.ensures (file_command c.args.name.now) (flag (codes "json")) c.in_ok-file_command.ensures c.flag.ensures
