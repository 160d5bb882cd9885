use Rattle.std.proofs.Common.{◌≡◌, map, take}
use Rattle.store_data.specs.Groups.{first_appearances, grouped}
use Rattle.row_reads.specs.declared.groupings.GroupingAt.{GroupingAt}
use Rattle.store_reads.proofs.plans.by_application.Given as goal

abbrev pub invariant-loop-g : goal.invariant-loop-g
invariant-loop-g l = record {
  aids : l.aids.keys ≡ first_appearances (map (λ (g : GroupingAt). g.aid) (take l.g-index l.groupings));
  groups : map (λ own. own.items) l.groups.items ≡ grouped (λ (g : GroupingAt). g.aid) (take l.g-index l.groupings);
}
