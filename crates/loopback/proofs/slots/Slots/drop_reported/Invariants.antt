use Rattle.std.proofs.Common.{◌≤◌, vec_len}
use Rattle.loopback.proofs.slots.Slots.drop_reported.Given as goal

abbrev pub invariant-loop-at : goal.invariant-loop-at
invariant-loop-at g l = l.at ≤ vec_len l.self.drains

abbrev pub decreases-loop-at : goal.decreases-loop-at
decreases-loop-at g l = l.at
