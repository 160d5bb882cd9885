use Rattle.std.proofs.Common.{◌≡◌, IfSome, Some}
use Rattle.loopback.proofs.timed.TimedStream.write_in_time.Given as goal

abbrev pub invariant-loop : goal.invariant-loop
invariant-loop g l = record {
  begun : IfSome l.fn.self.begun (λ begun. l.self.begun ≡ Some begun);
  side : l.self.side ≡ l.fn.self.side;
}
