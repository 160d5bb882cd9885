use Rattle.std.proofs.Common.{◌≡◌, take}
use Rattle.store_reads.specs.Sums.{lot_sums}
use Rattle.store_reads.proofs.sums.lot_sums.Given as goal

abbrev pub invariant-loop-row : goal.invariant-loop-row
invariant-loop-row l = l.sums ≡ lot_sums (take l.row-index l.lots)
