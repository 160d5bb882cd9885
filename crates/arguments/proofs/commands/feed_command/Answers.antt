use Rattle.std.proofs.Common.{rules, true, codes}
use Rattle.clap.specs.Words.{App, Rule, new_app, with_rule}
use Rattle.arguments.specs.Words.{IsCommand, boot_needed, port_needed, text_rule}
use Rattle.arguments.proofs.commands.feed_command.Goals as goal

pub returns : goal.returns
returns c =
    let machine : Rule = text_rule (codes "machine") true in
    let none : App = new_app (codes "feed") in
    let one : App = with_rule none port_needed in
    let two : App = with_rule one machine in
    let three : App = with_rule two boot_needed in
    let start : IsCommand none c.after_help-command.result = (search rules, search rules) in
    let first = c.in_ok-command.ensures none port_needed start c.port_needed.ensures in
    let second = c.in_ok-command-2.ensures one machine first c.text.ensures in
    let third = c.in_ok-command-3.ensures two boot_needed second c.boot_needed.ensures in
    c.with_argument-4.ensures three (text_rule (codes "batch") true) third c.batch_needed.ensures
