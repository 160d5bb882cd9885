use Rattle.batch_import.specs.Walks.{IsWalked, coming_count}
use Rattle.batch_import.proofs.batch.take_rows.Given as goal

abbrev pub invariant-loop-row : goal.invariant-loop-row
invariant-loop-row l = IsWalked l.fn.stream l.keep l.fn.kept.items l.kept.items l.outline l.number l.stream

abbrev pub decreases-loop-row : goal.decreases-loop-row
decreases-loop-row l = coming_count l.stream
