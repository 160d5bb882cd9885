use Rattle.std.proofs.Common.{true, codes}
use Rattle.arguments.specs.Words.{text_rule}
use Rattle.book_arguments.specs.Words.{book_command}
use Rattle.book_arguments.proofs.commands.cards_command.Goals as goal

pub returns : goal.returns
returns c = c.with_argument.ensures (book_command (codes "cards")) (text_rule (codes "batch") true) c.in_ok-book_command.ensures c.text-batch.ensures
