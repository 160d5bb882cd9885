use Rattle.std.proofs.Common.{rules, ◌≡◌, true, codes}
use Rattle.clap.specs.Words.{App, Rule, new_app, with_rule}
use Rattle.arguments.specs.Words.{IsArgument, IsCommand, number_needed, numbers, port_needed, text_rule}
use Rattle.arguments.proofs.commands.serve_command.Goals as goal

pub returns : goal.returns
returns c =
    let db : Rule = text_rule (codes "db") true in
    let turns : Rule = number_needed (codes "turns") (numbers 1 1000000) in
    let to_million : c.range-turns.result ≡ numbers 1 1000000 = search rules in
    let is_turns : IsArgument turns c.number_needed.result = rw to_million at c.number_needed.ensures in
    let none : App = new_app (codes "serve") in
    let start : IsCommand none c.after_help-command.result = (search rules, search rules) in
    let one = c.in_ok-command.ensures none db start c.text.ensures in
    let two = c.in_ok-command-2.ensures (with_rule none db) port_needed one c.port_needed.ensures in
    c.with_argument-3.ensures (with_rule (with_rule none db) port_needed) turns two is_turns
