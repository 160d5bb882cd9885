use Rattle.std.proofs.Common.{◌<◌}
use Rattle.loopback.proofs.listening.Loopback.wait_for_settled.Given as goal

abbrev pub invariant-loop : goal.invariant-loop
invariant-loop g l = l.faults < 50
