use Rattle.std.proofs.Common.{◌≡◌, drop}
use Rattle.std.specs.List.{find}
use Rattle.import_causes.specs.Causes.{Numbered}
use Rattle.import_causes.specs.Pairs.{clash}
use Rattle.import_causes.proofs.pair.first_with.Given as goal

abbrev pub invariant-loop-earlier : goal.invariant-loop-earlier
invariant-loop-earlier l = find (λ (e : Numbered). clash l.fault e.1 l.row) l.rows ≡ find (λ (e : Numbered). clash l.fault e.1 l.row) (drop l.earlier-index l.rows)
