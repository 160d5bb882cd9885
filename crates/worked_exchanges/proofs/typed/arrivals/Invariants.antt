use Rattle.std.proofs.Common.{All}
use Rattle.job_facts.specs.Requests.{IsArrival}
use Rattle.worked_exchanges.proofs.typed.arrivals.Given as goal

abbrev pub invariant-loop-exchange : goal.invariant-loop-exchange
invariant-loop-exchange l = All IsArrival l.arrivals.items
