use Rattle.std.proofs.Common.{rules, ◌≡◌, codes}
use Rattle.clap.specs.Words.{App, app_of, new_app, with_subcommand}
use Rattle.arguments.specs.Words.{versioned}
use Rattle.book_arguments.specs.Words.{blanks_command, book_command, cards_command, sheet_command}
use Rattle.book_arguments.proofs.commands.program.Goals as goal

pub returns : goal.returns
returns c =
    let none : App = versioned (new_app (codes "shopbook")) in
    let one : App = with_subcommand none (book_command (codes "check")).top in
    let two : App = with_subcommand one (book_command (codes "list")).top in
    let three : App = with_subcommand two cards_command.top in
    let four : App = with_subcommand three blanks_command.top in
    let five : App = with_subcommand four (book_command (codes "machines")).top in
    let start : app_of c.subcommand_required-program.result ≡ none = search rules in
    let first = c.in_ok-program.ensures none (book_command (codes "check")) start c.book_command.ensures in
    let second = c.in_ok-program-2.ensures one (book_command (codes "list")) first c.book_command-2.ensures in
    let third = c.in_ok-program-3.ensures two cards_command second c.cards_command.ensures in
    let fourth = c.in_ok-program-4.ensures three blanks_command third c.blanks_command.ensures in
    let fifth = c.in_ok-program-5.ensures four (book_command (codes "machines")) fourth c.book_command-3.ensures in
    c.with_subcommand-6.ensures five sheet_command fifth c.sheet_command.ensures
