use Rattle.std.proofs.Common.{rules, ◌≡◌, IfOk, Ok, subst}
use Rattle.arguments.specs.Words.{IsCommand}
use Rattle.arguments.proofs.CommandLemmas.{part_more}
use Rattle.arguments.proofs.commands.with_subcommand.Goals as goal

pub returns : goal.returns
returns c = λ app sub is so.
    let part = c.in_ok-part.field-0 in
    let there : c.args.part ≡ Ok part = search rules in
    part_more c.args.program app part sub c.subcommand.result c.subcommand.ensures is (subst (λ o. IfOk o (IsCommand sub)) there so)
