use Rattle.std.proofs.Common.{◌≡◌, map, take}
use Rattle.store_reads.specs.Lines.{line_for}
use Rattle.store_reads.proofs.lines.lines_for.Given as goal

abbrev pub invariant-loop-rec : goal.invariant-loop-rec
invariant-loop-rec l = l.lines.items ≡ map (line_for l.good) (take l.rec-index l.records)
