use Rattle.std.proofs.Common.{◌≡◌, ◌+◌, ℕ, List, length}
use Rattle.std.specs.Io.KnownBytes.{Consumes}
use Rattle.loopback.proofs.drain.Drain.drop_there.Given as goal

abbrev pub invariant-loop : goal.invariant-loop
invariant-loop g l = (more : List ℕ) × Consumes (g.S.Read.remaining l.initial.self.stream) (g.S.Read.remaining l.self.stream) more × (length more + l.self.left ≡ l.initial.self.left)
