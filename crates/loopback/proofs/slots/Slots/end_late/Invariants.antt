use Rattle.std.proofs.Common.{◌≤◌, vec_len}
use Rattle.loopback.proofs.slots.Slots.end_late.Given as goal

abbrev pub invariant-loop-at : goal.invariant-loop-at
invariant-loop-at g l = l.at ≤ vec_len l.self.pending

abbrev pub decreases-loop-at : goal.decreases-loop-at
decreases-loop-at g l = l.at
