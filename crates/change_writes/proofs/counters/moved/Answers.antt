use Rattle.std.proofs.Common.{◌+◌}
use Rattle.job_facts.specs.declared.facts.RecordState.TheVariants as rec
use Rattle.table_rows.specs.After.{less, more, one_opened, one_spoiled}
use Rattle.change_writes.proofs.Totals.{given_has}
use Rattle.change_writes.proofs.counters.moved.Goals as goal

pub returns-in-Opens-clause-totals : goal.returns-in-Opens-clause-totals
returns-in-Opens-clause-totals c =
    let p = c.in-Opens.place in
    rw c.in-Opens.is (λ t entry. given_has p rec.Running p.spoiled p.remakes (one_opened (more rec.Running (less rec.Waiting p.totals))) c.opened.result c.opened.ensures.value t)

pub returns-in-Ends-clause-totals : goal.returns-in-Ends-clause-totals
returns-in-Ends-clause-totals c =
    let p = c.in-Ends.place in
    rw c.in-Ends.is (λ t entry. given_has p rec.Failed (p.spoiled + 1) p.remakes (one_spoiled (more rec.Failed (less rec.Running p.totals))) c.spoiled.result c.spoiled.ensures.value t)

pub returns-in-Remakes-clause-totals : goal.returns-in-Remakes-clause-totals
returns-in-Remakes-clause-totals c =
    let p = c.in-Remakes.place in
    rw c.in-Remakes.is (λ t entry. given_has p rec.Waiting p.spoiled (p.remakes + 1) (more rec.Waiting (less rec.Failed p.totals)) c.passed-remade.result c.passed-remade.ensures.value t)

pub returns-in-Withdraws-clause-totals : goal.returns-in-Withdraws-clause-totals
returns-in-Withdraws-clause-totals c =
    let p = c.in-Withdraws.place in
    rw c.in-Withdraws.is (λ t entry. given_has p rec.Withdrawn p.spoiled p.remakes (more rec.Withdrawn (less c.in-Withdraws.was p.totals)) c.passed-withdrawn.result c.passed-withdrawn.ensures.value t)
