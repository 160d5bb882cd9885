use Rattle.std.proofs.Common.{length}
use Rattle.std.specs.List.{range_with_len}
use Rattle.audit_order.proofs.SameLists.{AreSameBelow}
use Rattle.audit_rows.proofs.ids.are_counted.Given as goal

abbrev pub invariant-loop-place : goal.invariant-loop-place
invariant-loop-place g l = AreSameBelow g.T.Counted.id l.rows (range_with_len 1 (length l.rows)) l.place
