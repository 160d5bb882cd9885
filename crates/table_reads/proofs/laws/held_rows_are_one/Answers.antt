use Rattle.table_reads.proofs.OneHeld.{one_held}
use Rattle.table_reads.proofs.laws.held_rows_are_one.Goals as goal

pub returns : goal.returns
returns c = one_held
