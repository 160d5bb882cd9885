use Rattle.image_laws.proofs.Changing.{rows_after_change_are}
use Rattle.image_laws.proofs.next_rows.rows_after_change.Goals as goal

pub returns : goal.returns
returns call c change given = rows_after_change_are c change given
