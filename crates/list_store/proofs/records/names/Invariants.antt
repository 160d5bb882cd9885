use Rattle.std.proofs.Common.{◌≡◌, map, take}
use Rattle.store_data.specs.Groups.{first_appearances}
use Rattle.store_data.specs.declared.row.Row.{Row}
use Rattle.list_store.proofs.records.names.Given as goal

abbrev pub invariant-loop-row : goal.invariant-loop-row
invariant-loop-row l = l.names.items ≡ first_appearances (map (λ (row : Row). row.rec) (take l.row-index l.rows))
