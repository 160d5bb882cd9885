use Rattle.std.proofs.Common.{All, IfSome, subst, sym}
use Rattle.std.proofs.lemmas.List.Elements.{All-push}
use Rattle.job_facts.specs.Requests.{IsArrival}
use Rattle.wire.specs.Asks.{IsInRange}
use Rattle.worked_exchanges.proofs.typed.arrivals.Goals as goal

pub loop-exchange-preserved : goal.loop-exchange-preserved
loop-exchange-preserved c =
    let ranged = subst IsInRange c.in-Some-Arrival.field-0-is (subst (λ o. IfSome o IsInRange) c.in-Some-Arrival.is c.in_ok-arrival.ensures) in
    subst (All IsArrival) (sym c.in_ok-push.ensures.items) (All-push IsArrival c.loop-exchange.arrivals.items c.in-Some-Arrival.arrival c.loop-exchange.invariant ranged)
