use Rattle.std.proofs.Common.{true, codes}
use Rattle.arguments.specs.Words.{text_rule}
use Rattle.book_arguments.specs.Words.{file_command}
use Rattle.book_arguments.proofs.commands.sheet_command.Goals as goal

pub returns : goal.returns
returns c = c.with_argument.ensures (file_command (codes "sheet")) (text_rule (codes "batch") true) c.in_ok-file_command.ensures c.text-batch.ensures
