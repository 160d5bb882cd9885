use Rattle.std.proofs.Common.{◌≡◌, Some}
use Rattle.store_data.specs.Cursor.{cursor_at}
use Rattle.worked_files.proofs.walks.is_walked.Given as goal

abbrev pub invariant-loop-k : goal.invariant-loop-k
invariant-loop-k l = cursor_at l.plan l.k ≡ Some l.cursor
