use Rattle.std.proofs.Common.{ap, sym, ◌∙◌}
use Rattle.store_data.specs.Faults.{are_alike}
use Rattle.store_data.proofs.faults.marks.are_alike.Goals as goal

pub returns-in-Some : goal.returns-in-Some
returns-in-Some c = c.all_have_marks_of.ensures ∙ sym (ap are_alike c.in-Some.ensures.cases.0)
