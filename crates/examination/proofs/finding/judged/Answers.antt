use Rattle.std.proofs.Common.{refl}
use Rattle.examination.proofs.FoundLemmas.{verdict_of}
use Rattle.examination.proofs.finding.judged.Goals as goal

pub returns-clause-value : goal.returns-clause-value
returns-clause-value c =
    let e = c.in_ok-failing.ensures in
    (refl, e.same, c.are_both.ensures, verdict_of c.args.held.tables c.first_failing.new.tables c.in_ok-failing.failing e.sound e.first e.sorted e.same)

pub returns-clause-whole : goal.returns-clause-whole
returns-clause-whole c =
    let e = c.in_ok-failing.ensures in
    verdict_of c.args.held.tables c.first_failing.new.tables c.in_ok-failing.failing e.sound e.first e.sorted e.same
