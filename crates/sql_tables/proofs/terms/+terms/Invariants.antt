use Rattle.std.proofs.Common.{◌+◌, ◌*◌}
use Rattle.sql_tables.proofs.terms.+terms.Given as goal

abbrev pub decreases-same_at : goal.decreases-same_at
decreases-same_at l = 2 * l.a.now.depth

abbrev pub decreases-same_op : goal.decreases-same_op
decreases-same_op l = 2 * l.a.now.depth + 1
