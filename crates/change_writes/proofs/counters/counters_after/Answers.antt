use Rattle.std.proofs.Common.{subst, sym}
use Rattle.table_rows.specs.After.{rows_written}
use Rattle.table_rows.specs.Tables.{HasTotals}
use Rattle.change_writes.proofs.counters.counters_after.Goals as goal

pub returns-clause-totals : goal.returns-clause-totals
returns-clause-totals c t entry =
    let sum = c.in_ok-summed in
    subst (λ n. HasTotals c.in_ok-batch.batch n (rows_written c.args.writing.now entry t)) (sym sum.ensures) (c.in_ok-batch.ensures.totals t entry)
