use Rattle.std.proofs.Common.{◌+◌}
use Rattle.job_facts.specs.declared.facts.RecordState.TheVariants as rec
use Rattle.table_rows.specs.After.{less, more, one_spoiled}
use Rattle.change_writes.proofs.Totals.{given_has}
use Rattle.change_writes.proofs.counters.stopped.Goals as goal

pub returns-in-Good : goal.returns-in-Good
returns-in-Good c =
    let p = c.args.place.now in
    rw c.in-Good.is (λ t. given_has p rec.Good p.spoiled p.remakes (more rec.Good (less rec.Running p.totals)) c.passed.result c.passed.ensures.value t)

pub returns-in-Spoiled : goal.returns-in-Spoiled
returns-in-Spoiled c =
    let p = c.args.place.now in
    rw c.in-Spoiled.is (λ t. given_has p rec.Failed (p.spoiled + 1) p.remakes (one_spoiled (more rec.Failed (less rec.Running p.totals))) c.spoiled.result c.spoiled.ensures.value t)
