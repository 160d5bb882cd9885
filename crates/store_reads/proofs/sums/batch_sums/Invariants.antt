use Rattle.std.proofs.Common.{◌≡◌, take}
use Rattle.store_reads.specs.Sums.{batch_sums}
use Rattle.store_reads.proofs.sums.batch_sums.Given as goal

abbrev pub invariant-loop-head : goal.invariant-loop-head
invariant-loop-head l = l.sums ≡ batch_sums (take l.head-index l.heads)
