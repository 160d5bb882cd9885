use Rattle.std.proofs.Common.{◌≤◌, drop}
use Rattle.import_causes.specs.RowTexts.{IsReading}
use Rattle.import_causes.proofs.fields.read_row.Given as goal

abbrev pub invariant-loop-byte : goal.invariant-loop-byte
invariant-loop-byte l = record {
  few : l.reader.row.count ≤ l.byte-index;
  reading : IsReading l.text l.reader (drop l.byte-index l.text);
}
