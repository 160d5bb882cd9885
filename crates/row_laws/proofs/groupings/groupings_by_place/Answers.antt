use Rattle.row_laws.proofs.GroupingRows.{count_of_batch, groupings_rise, rows_for, rows_read}
use Rattle.row_laws.proofs.groupings.groupings_by_place.Goals as goal

pub returns : goal.returns
returns call = record { rows = rows_for; rising = groupings_rise; read = rows_read; number = count_of_batch }
