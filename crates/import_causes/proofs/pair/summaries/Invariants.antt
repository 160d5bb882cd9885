use Rattle.std.proofs.Common.{◌≡◌, map, take}
use Rattle.import_causes.specs.Causes.{Numbered}
use Rattle.import_causes.proofs.pair.summaries.Given as goal

abbrev pub invariant-loop-summary : goal.invariant-loop-summary
invariant-loop-summary l = l.summaries.items ≡ map (λ (e : Numbered). e.1) (take l.summary-index l.rows)
