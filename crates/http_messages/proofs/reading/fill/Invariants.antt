use Rattle.std.proofs.Common.{◌≡◌, ◌≤◌, ◌-◌, length, take}
use Rattle.std.specs.Io.KnownBytes.{Consumes}
use Rattle.http_messages.proofs.reading.fill.Given as goal

abbrev pub invariant-loop-at : goal.invariant-loop-at
invariant-loop-at g l = record {
  within : l.at ≤ length l.buf;
  cut : g.I.ByteSource.cut l.incoming ≡ g.I.ByteSource.cut l.fn.incoming;
  came : Consumes (g.I.ByteSource.brings l.fn.incoming) (g.I.ByteSource.brings l.incoming) (take l.at l.buf);
}

abbrev pub decreases-loop-at : goal.decreases-loop-at
decreases-loop-at g l = length l.buf - l.at
