use Rattle.batch_import.specs.Walks.{coming_count}
use Rattle.import_causes.specs.Walks.{IsWalked}
use Rattle.import_causes.proofs.pair.add_named.Given as goal

abbrev pub invariant-loop-row : goal.invariant-loop-row
invariant-loop-row l = IsWalked l.fn.stream l.name l.kept.items l.number l.stream

abbrev pub decreases-loop-row : goal.decreases-loop-row
decreases-loop-row l = coming_count l.stream
