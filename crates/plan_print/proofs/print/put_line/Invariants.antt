use Rattle.std.proofs.Common.{◌≡◌, ◌+◌, length, take}
use Rattle.hex.specs.Hex.{encode_upper}
use Rattle.plan_print.proofs.print.put_line.Given as goal

abbrev pub invariant-loop-byte : goal.invariant-loop-byte
invariant-loop-byte l = record {
  twice : l.at ≡ l.byte-index + l.byte-index;
  size : length l.text ≡ 521;
  digits : take l.at l.text ≡ encode_upper (take l.byte-index l.bytes);
}
