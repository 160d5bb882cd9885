use Rattle.std.proofs.Common.{◌≡◌, Some}
use Rattle.store_data.specs.Cursor.{cursor_at}
use Rattle.list_store.proofs.cursors.cursor_at.Given as goal

abbrev pub invariant-loop-place : goal.invariant-loop-place
invariant-loop-place l = cursor_at l.plan l._place ≡ Some l.cursor
