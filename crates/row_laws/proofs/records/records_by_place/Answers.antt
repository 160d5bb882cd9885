use Rattle.row_laws.proofs.RecordRows.{place_once, place_row}
use Rattle.row_laws.proofs.records.records_by_place.Goals as goal

pub returns : goal.returns
returns call = record { once = place_once; found = place_row }
