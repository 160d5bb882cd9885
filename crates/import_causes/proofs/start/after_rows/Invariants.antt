use Rattle.std.proofs.Common.{drop}
use Rattle.batch_import.specs.Grammar.{state_of}
use Rattle.import_causes.proofs.StartLemmas.{IsSkipping}
use Rattle.import_causes.proofs.start.after_rows.Given as goal

abbrev pub invariant-loop-i : goal.invariant-loop-i
invariant-loop-i l = IsSkipping l.text l.rows (state_of l.place) l.left (drop l.i l.text)
