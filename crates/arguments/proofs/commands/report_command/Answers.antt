use Rattle.std.proofs.Common.{rules, true, codes}
use Rattle.clap.specs.Words.{App, Rule, new_app, with_rule}
use Rattle.arguments.specs.Words.{IsCommand, text_rule}
use Rattle.arguments.proofs.commands.report_command.Goals as goal

pub returns : goal.returns
returns c =
    let db : Rule = text_rule (codes "db") true in
    let none : App = new_app (codes "report") in
    let start : IsCommand none c.after_help-command.result = (search rules, search rules) in
    let one = c.in_ok-command.ensures none db start c.text.ensures in
    c.with_argument-2.ensures (with_rule none db) (text_rule (codes "batch") true) one c.batch_needed.ensures
