use Rattle.std.proofs.Common.{◌≡◌, ◌+◌, ◌≤◌, false, drop}
use Rattle.http_messages.specs.Heads.{pairs_after}
use Rattle.http_messages.proofs.head.pairs.Given as goal

abbrev pub invariant-loop-byte : goal.invariant-loop-byte
invariant-loop-byte l = record {
  few : l.pairs ≤ l.byte-index;
  rest : pairs_after false l.head ≡ l.pairs + pairs_after l.cr (drop l.byte-index l.head);
}
