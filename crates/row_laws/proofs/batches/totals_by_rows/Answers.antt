use Rattle.row_laws.proofs.BatchRows.{finished_in_rows, totals_in_rows}
use Rattle.row_laws.proofs.batches.totals_by_rows.Goals as goal

pub returns : goal.returns
returns call = record { totals = λ f n sound. totals_in_rows f sound n; finished = λ f n sound. finished_in_rows f sound n }
