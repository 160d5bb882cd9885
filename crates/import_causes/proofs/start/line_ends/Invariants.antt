use Rattle.std.proofs.Common.{◌≡◌, ◌≤◌, ◌+◌, false, drop}
use Rattle.import_causes.specs.Starts.{line_ends}
use Rattle.import_causes.proofs.start.line_ends.Given as goal

abbrev pub invariant-loop-byte : goal.invariant-loop-byte
invariant-loop-byte l = record {
  few : l.ends ≤ l.byte-index;
  all : line_ends false l.text ≡ l.ends + line_ends l.after_cr (drop l.byte-index l.text);
}
