use Rattle.std.proofs.Common.{◌≡◌, ◌↔◌, length}
use Rattle.sql_tables.proofs.same.same_all.Given as goal

abbrev pub invariant-loop-first : goal.invariant-loop-first
invariant-loop-first g l = (l.first ≡ l.second) ↔ (l.a ≡ l.b)

abbrev pub decreases-loop-first : goal.decreases-loop-first
decreases-loop-first g l = length l.first
