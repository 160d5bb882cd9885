use Rattle.plan_print.proofs.PrintLemmas.{rows_of_records}
use Rattle.worked_files.proofs.plans.records.Goals as goal

pub returns-in_ok-grouped-in-Ok : goal.returns-in_ok-grouped-in-Ok
returns-in_ok-grouped-in-Ok c =
    rows_of_records (λ v. v.items) c.in_ok-grouped-in-Ok.field-0.items c.in-Ok.batch.rows.items c.in-Ok.ensures.ranges c.in_ok-grouped-in-Ok.ensures
