use Rattle.std.proofs.Common.{◌↔◌, length}
use Rattle.sql_tables.specs.Alike.{IsApart}
use Rattle.sql_tables.proofs.alike.is_apart.Given as goal

abbrev pub invariant-loop-rest : goal.invariant-loop-rest
invariant-loop-rest l = IsApart l.table l.rest ↔ IsApart l.table l.others

abbrev pub decreases-loop-rest : goal.decreases-loop-rest
decreases-loop-rest l = length l.rest
