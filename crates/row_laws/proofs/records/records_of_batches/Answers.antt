use Rattle.row_laws.proofs.BatchRecords.{records_rise, rows_of_batch, waiting_in_rows, waiting_rise}
use Rattle.row_laws.proofs.records.records_of_batches.Goals as goal

pub returns : goal.returns
returns call = record { rows = rows_of_batch; rising = records_rise; waiting_rising = waiting_rise; waiting = waiting_in_rows }
