use Rattle.std.proofs.Common.{◌↔◌, length}
use Rattle.table_reads.specs.Rowids.{IsRisingFrom}
use Rattle.table_reads.proofs.rowids.is_rising_from.Given as goal

abbrev pub invariant-loop-rest : goal.invariant-loop-rest
invariant-loop-rest l = IsRisingFrom l.last l.rest ↔ IsRisingFrom l.floor l.rows

abbrev pub decreases-loop-rest : goal.decreases-loop-rest
decreases-loop-rest l = length l.rest
