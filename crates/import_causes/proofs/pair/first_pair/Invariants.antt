use Rattle.std.proofs.Common.{◌≡◌, [], drop, take}
use Rattle.import_causes.specs.Pairs.{first_pair}
use Rattle.import_causes.proofs.pair.first_pair.Given as goal

abbrev pub invariant-loop-i : goal.invariant-loop-i
invariant-loop-i l = first_pair l.fault l.max [] l.rows ≡ first_pair l.fault l.max (take l.i l.rows) (drop l.i l.rows)
