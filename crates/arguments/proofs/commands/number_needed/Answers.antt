use Rattle.std.proofs.Common.{◌∙◌, true, ap}
use Rattle.clap.specs.Words.{Rule, rule_of}
use Rattle.clap.specs.declared.builder.arg.Arg.{Arg}
use Rattle.arguments.proofs.commands.number_needed.Goals as goal

pub returns : goal.returns
returns c =
    let option = c.number_option.ensures in
    (ap rule_of c.required.ensures ∙ ap (λ (r : Rule). record r { required = true }) option.0, ap (λ (a : Arg). a.global) c.required.ensures ∙ option.1)
