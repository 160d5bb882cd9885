use Rattle.std.proofs.Common.{◌≡◌, ◌≤◌, ◌-◌, None, length, take}
use Rattle.std.specs.Io.KnownBytes.{Consumes}
use Rattle.http_messages.specs.Heads.{ends_head, least}
use Rattle.http_messages.proofs.reading.read_head.Given as goal

abbrev pub invariant-loop-filled : goal.invariant-loop-filled
invariant-loop-filled g l = record {
  size : length l.buf ≡ 8192;
  within : l.filled ≤ 8192;
  cut : g.I.ByteSource.cut l.incoming ≡ g.I.ByteSource.cut l.fn.incoming;
  came : Consumes (g.I.ByteSource.brings l.fn.incoming) (g.I.ByteSource.brings l.incoming) (take l.filled l.buf);
  none : least (ends_head l.buf) l.filled ≡ None;
}

abbrev pub decreases-loop-filled : goal.decreases-loop-filled
decreases-loop-filled g l = 8192 - l.filled
