use Rattle.std.proofs.Common.{◌≡◌, ◌≤◌, ◌-◌, false, List, length}
use Rattle.server.specs.Exchanges.{Exchange}
use Rattle.server_run.specs.declared.observation.Observation.{Observation}
use Rattle.server_run.specs.ObservedRuns.{ObservesAll}
use Rattle.server_run.proofs.RunLemmas.{fails_through}
use Rattle.server_run.proofs.sequence.serve_connections.Given as goal

abbrev pub invariant-loop-count : goal.invariant-loop-count
invariant-loop-count g l =
    let state = g.S.JobStore.state in
    let queue = g.C.Connections.queue in
    let contents = g.E.Write.contents in
    (l.count ≤ l.turns) × (l.events.level ≡ l.fn.events.level) × (es : List Exchange) × (os : List Observation)
    × ObservesAll state l.fn.store l.store (queue l.fn.connections) (queue l.connections) l.fn.events.level (contents l.fn.events.writer) (contents l.events.writer) es os
    × (length es ≡ l.count) × (l.is_failing ≡ fails_through false os)

abbrev pub decreases-loop-count : goal.decreases-loop-count
decreases-loop-count g l = l.turns - l.count
