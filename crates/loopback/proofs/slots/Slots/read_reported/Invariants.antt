use Rattle.std.proofs.Common.{◌≡◌, vec_len}
use Rattle.loopback.proofs.slots.Slots.read_reported.Given as goal

abbrev pub invariant-loop-at : goal.invariant-loop-at
invariant-loop-at g l = record {
  end : vec_len l.self.pending ≡ l.at-end;
  pending : vec_len l.self.pending ≡ vec_len l.fn.self.pending;
  drains : vec_len l.self.drains ≡ vec_len l.fn.self.drains;
}
