use Rattle.std.proofs.Common.{rules, ◌≡◌, codes}
use Rattle.clap.specs.Words.{App, app_of, new_app, with_subcommand}
use Rattle.arguments.specs.Words.{drill_command, feed_command, plan_command, report_command, serve_command, versioned}
use Rattle.arguments.proofs.commands.program.Goals as goal

pub returns : goal.returns
returns c =
    let none : App = versioned (new_app (codes "persod")) in
    let one : App = with_subcommand none plan_command.top in
    let two : App = with_subcommand one drill_command.top in
    let three : App = with_subcommand two serve_command.top in
    let four : App = with_subcommand three report_command.top in
    let start : app_of c.subcommand_required-program.result ≡ none = search rules in
    let first = c.in_ok-program.ensures none plan_command start c.plan_command.ensures in
    let second = c.in_ok-program-2.ensures one drill_command first c.drill_command.ensures in
    let third = c.in_ok-program-3.ensures two serve_command second c.serve_command.ensures in
    let fourth = c.in_ok-program-4.ensures three report_command third c.report_command.ensures in
    c.with_subcommand-5.ensures four feed_command fourth c.feed_command.ensures
