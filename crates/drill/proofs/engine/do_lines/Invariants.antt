use Rattle.std.proofs.Common.{◌≤◌, ◌-◌, drop, length, map}
use Rattle.drill.specs.Floors.{empty_floor}
use Rattle.drill.specs.Ends.{Goes}
use Rattle.drill.proofs.ScriptLemmas.{text_of}
use Rattle.drill.proofs.engine.do_lines.Given as goal

abbrev pub invariant-loop-at : goal.invariant-loop-at
invariant-loop-at g l = record {
  within : l.at ≤ length l.lines;
  goes : Goes g.S.JobStore.state g.S.Reopen.usable l.fn.store empty_floor (map text_of l.lines) (g.W.Write.contents l.fn.writer) (g.W.Write.contents l.writer) l.store l.floor (drop l.at (map text_of l.lines));
}

abbrev pub decreases-loop-at : goal.decreases-loop-at
decreases-loop-at g l = length l.lines - l.at
