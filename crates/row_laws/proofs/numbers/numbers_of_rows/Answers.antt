use Rattle.row_laws.proofs.RowNumbers.{batch_count, batch_ids, batch_ids_within, lot_count, session_count, session_ids, session_ids_within}
use Rattle.row_laws.proofs.numbers.numbers_of_rows.Goals as goal

pub returns : goal.returns
returns call = record {
  sessions = session_count;
  session_ids = session_ids;
  session_ids_within = session_ids_within;
  batches = batch_count;
  batch_ids = batch_ids;
  batch_ids_within = batch_ids_within;
  lots = lot_count;
}
