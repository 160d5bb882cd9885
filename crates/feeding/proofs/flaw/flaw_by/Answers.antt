use Rattle.std.proofs.Common.{◌∙◌, ap, not}
use Rattle.feeding.proofs.Flaws.{flaw_read}
use Rattle.feeding.proofs.flaw.flaw_by.Goals as goal

pub returns : goal.returns
returns c =
    c.then_some.ensures
    ∙ flaw_read c.args.words.now c.in-Some.serial.now c.in-Some.rest.now c.number_within.result c.has_other.result c.in-Some.ensures.cases.0 c.number_within.ensures.value (c.is_none.ensures ∙ ap not c.if-is_none.false)
    c.has_other.ensures
