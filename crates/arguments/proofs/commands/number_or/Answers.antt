use Rattle.std.proofs.Common.{◌∙◌, [], ◌∷◌, ap}
use Rattle.clap.specs.Words.{Rule, rule_of}
use Rattle.clap.specs.declared.builder.arg.Arg.{Arg}
use Rattle.arguments.proofs.commands.number_or.Goals as goal

pub returns : goal.returns
returns c =
    let option = c.number_option.ensures in
    let more = c.default_value.ensures in
    (ap rule_of more ∙ ap (λ (r : Rule). record r { defaults = c.args.default.now ∷ [] }) option.0, ap (λ (a : Arg). a.global) more ∙ option.1)
