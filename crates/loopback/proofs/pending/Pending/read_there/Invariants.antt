use Rattle.std.proofs.Common.{◌≡◌, ◌≤◌, ◌++◌, ℕ, List}
use Rattle.std.specs.Io.KnownBytes.{Consumes}
use Rattle.loopback.specs.Arriving.{bytes_of}
use Rattle.loopback.proofs.pending.Pending.read_there.Given as goal

abbrev pub invariant-loop : goal.invariant-loop
invariant-loop g l = record {
  came : (more : List ℕ) × (bytes_of l.self.arrived ≡ bytes_of l.initial.self.arrived ++ more) × Consumes (g.S.Read.remaining l.initial.self.stream) (g.S.Read.remaining l.self.stream) more;
  limit : l.self.arrived.reserved ≤ l.limit;
  begun : l.self.begun ≡ l.initial.self.begun;
}
