use Rattle.row_laws.proofs.BatchRows.{id_once, id_row}
use Rattle.row_laws.proofs.batches.batches_by_id.Goals as goal

pub returns : goal.returns
returns call = record { once = id_once; found = id_row }
