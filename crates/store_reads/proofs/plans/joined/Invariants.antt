use Rattle.std.proofs.Common.{◌≡◌, take}
use Rattle.std.specs.List.{flat_map}
use Rattle.row_reads.specs.declared.groupings.CodedAt.{CodedAt}
use Rattle.store_reads.proofs.plans.joined.Given as goal

abbrev pub invariant-loop-g : goal.invariant-loop-g
invariant-loop-g l = l.bytes.items ≡ flat_map (λ (g : CodedAt). g.coded) (take l.g-index l.groupings)
