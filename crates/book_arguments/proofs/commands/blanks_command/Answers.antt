use Rattle.std.proofs.Common.{true, false, codes}
use Rattle.clap.specs.Words.{with_rule}
use Rattle.arguments.specs.Words.{text_rule}
use Rattle.book_arguments.specs.Words.{book_command}
use Rattle.book_arguments.proofs.commands.blanks_command.Goals as goal

pub returns : goal.returns
returns c =
    let start = book_command (codes "blanks") in
    let one = c.in_ok-with_argument.ensures start (text_rule (codes "product") true) c.in_ok-command.ensures c.text-product.ensures in
    c.with_argument-2.ensures (with_rule start (text_rule (codes "product") true)) (text_rule (codes "state") false) one c.text-state.ensures
