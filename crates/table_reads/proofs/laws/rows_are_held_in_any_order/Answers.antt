use Rattle.table_reads.proofs.AnyOrder.{any_order}
use Rattle.table_reads.proofs.laws.rows_are_held_in_any_order.Goals as goal

pub returns : goal.returns
returns c = any_order
