use Rattle.std.proofs.Common.{◌<◌, IfSome, vec_len}
use Rattle.loopback.proofs.slots.Slots.find_largest.Given as goal

abbrev pub invariant-loop-at : goal.invariant-loop-at
invariant-loop-at g l = IfSome l.found (λ at. at < vec_len l.self.pending)
