use Rattle.std.proofs.Common.{◌≡◌, ◌≤◌, ◌-◌, List, length}
use Rattle.server.specs.Exchanges.{Exchange, Moves, ServesAll}
use Rattle.server.proofs.many.serve_all.Given as goal

abbrev pub invariant-loop-turn : goal.invariant-loop-turn
invariant-loop-turn g l =
    let state = g.S.JobStore.state in
    let queue = g.C.Connections.queue in
    (l.turn ≤ l.turns) × (es : List Exchange) × Moves (queue l.fn.connections) (queue l.connections) es × ServesAll (state l.fn.store) (state l.store) es × (length es ≡ l.turn)

abbrev pub decreases-loop-turn : goal.decreases-loop-turn
decreases-loop-turn g l = l.turns - l.turn
