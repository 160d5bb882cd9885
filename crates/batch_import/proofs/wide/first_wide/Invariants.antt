use Rattle.std.proofs.Common.{◌≡◌, ◌≤◌, drop}
use Rattle.csv.specs.declared.parser.State.TheVariants as st
use Rattle.batch_import.specs.Grammar.{state_of}
use Rattle.batch_import.specs.WideRows.{wide_after}
use Rattle.batch_import.proofs.wide.first_wide.Given as goal

abbrev pub invariant-loop-byte : goal.invariant-loop-byte
invariant-loop-byte l = record {
  records : l.records ≤ l.byte-index;
  fields : l.fields ≤ 6;
  rest : wide_after st.StartRecord 0 0 l.text ≡ wide_after (state_of l.place) l.records l.fields (drop l.byte-index l.text);
}
