use Rattle.std.proofs.Common.{◌≤◌}
use Rattle.batch_import.proofs.wide.commas_of.Given as goal

abbrev pub invariant-loop-byte : goal.invariant-loop-byte
invariant-loop-byte l = l.commas ≤ l.byte-index
