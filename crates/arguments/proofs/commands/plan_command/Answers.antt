use Rattle.std.proofs.Common.{rules, ◌≡◌, codes}
use Rattle.clap.specs.Words.{App, Rule, new_app, with_rule}
use Rattle.arguments.specs.Words.{IsArgument, IsCommand, flag, number_or, numbers}
use Rattle.arguments.proofs.commands.plan_command.Goals as goal

pub returns : goal.returns
returns c =
    let max : Rule = number_or (codes "max") (numbers 16 255) (codes "255") in
    let low : Rule = number_or (codes "low") (numbers 0 31) (codes "0") in
    let from_16 : c.range.result ≡ numbers 16 255 = search rules in
    let to_31 : c.range-2.result ≡ numbers 0 31 = search rules in
    let is_max : IsArgument max c.number_or.result = rw from_16 at c.number_or.ensures in
    let is_low : IsArgument low c.number_or-2.result = rw to_31 at c.number_or-2.ensures in
    let none : App = new_app (codes "plan") in
    let start : IsCommand none c.after_help-command.result = (search rules, search rules) in
    let one = c.in_ok-command.ensures none max start is_max in
    let two = c.in_ok-command-2.ensures (with_rule none max) low one is_low in
    c.with_argument-3.ensures (with_rule (with_rule none max) low) (flag (codes "check")) two c.flag.ensures
