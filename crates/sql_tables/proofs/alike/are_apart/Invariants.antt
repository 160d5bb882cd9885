use Rattle.std.proofs.Common.{◌↔◌, length}
use Rattle.sql_tables.specs.Alike.{AreApart}
use Rattle.sql_tables.proofs.alike.are_apart.Given as goal

abbrev pub invariant-loop-rest : goal.invariant-loop-rest
invariant-loop-rest l = AreApart l.rest ↔ AreApart l.tables

abbrev pub decreases-loop-rest : goal.decreases-loop-rest
decreases-loop-rest l = length l.rest
