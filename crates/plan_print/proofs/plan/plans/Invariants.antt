use Rattle.std.proofs.Common.{◌≡◌, map, take}
use Rattle.plan_print.specs.Printed.{planned_of}
use Rattle.plan_print.proofs.plan.plans.Given as goal

abbrev pub invariant-loop-rows : goal.invariant-loop-rows
invariant-loop-rows l = l.plans.items ≡ map (λ v. planned_of l.product v.items) (take l.rows-index l.records)
