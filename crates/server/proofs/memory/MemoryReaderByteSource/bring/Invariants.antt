use Rattle.std.proofs.Common.{◌≡◌, ◌≤◌, ◌-◌, ◌++◌, length, take, drop}
use Rattle.server.proofs.memory.MemoryReaderByteSource.bring.Given as goal

abbrev pub invariant-loop-count : goal.invariant-loop-count
invariant-loop-count l = record {
  same : l.self.bytes ≡ l.fn.self.bytes;
  within : l.count ≤ length l.buf;
  came : drop l.fn.self.at l.fn.self.bytes.items ≡ take l.count l.buf ++ drop l.self.at l.fn.self.bytes.items;
}

abbrev pub decreases-loop-count : goal.decreases-loop-count
decreases-loop-count l = length l.initial.buf - l.count
