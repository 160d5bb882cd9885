use Rattle.row_laws.proofs.RecordRows.{name_once, name_row, place_in_rows, rows_there, state_in_rows}
use Rattle.row_laws.proofs.records.records_by_name.Goals as goal

pub returns : goal.returns
returns call = record { once = name_once; found = name_row; state = state_in_rows; place = place_in_rows; there = rows_there }
