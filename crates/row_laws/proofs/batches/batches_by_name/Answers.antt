use Rattle.row_laws.proofs.BatchRows.{name_once, named_row}
use Rattle.row_laws.proofs.batches.batches_by_name.Goals as goal

pub returns : goal.returns
returns call = record { once = λ f n sound. name_once f sound n; found = named_row }
