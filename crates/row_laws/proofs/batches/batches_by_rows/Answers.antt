use Rattle.row_laws.proofs.BatchValues.{has_any, has_in_rows, row_in_rows, size_in_rows}
use Rattle.row_laws.proofs.batches.batches_by_rows.Goals as goal

pub returns : goal.returns
returns call = record { row = row_in_rows; bytes = has_in_rows; any_with = λ f b raw sound. has_any f b sound raw; size = size_in_rows }
