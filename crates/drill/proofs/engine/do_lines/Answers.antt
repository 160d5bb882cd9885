use Rattle.std.proofs.Common.{◌+◌, ◌-◌, ap, arith, drop, length, refl, take}
use Rattle.std.proofs.lemmas.List.{length-drop}
use Rattle.std.proofs.lemmas.Result.{err_from_is_err_and}
use Rattle.drill.specs.Floors.{empty_floor}
use Rattle.drill.proofs.Runs.{line_last, line_more}
use Rattle.drill.proofs.ScriptLemmas.{behind_is}
use Rattle.drill.proofs.engine.do_lines.Goals as goal

pub loop-at-preserved : goal.loop-at-preserved
loop-at-preserved g c =
    let ls = c.args.lines.now in
    let at = c.loop-at.at in
    let behind = take (length ls - (at + 1)) (drop (at + 1) ls) in
    let is = behind_is ls ls (at + 1) refl in
    record {
      within = omega (arith, c.loop-at-test.true, c.in_ok-next.ensures.within, ap length is, length-drop (at + 1) ls);
      goes = line_more g.S.JobStore.state g.S.Reopen.usable c.args.store empty_floor ls behind at c.in_ok-next.taken _ (g.W.Write.contents c.args.writer.now)
          (g.W.Write.contents c.loop-at.writer) (g.W.Write.contents c.do_line.new.writer) c.loop-at.store c.loop-at.floor c.in_ok-next.next c.do_line.new.floor
          c.loop-at-test.true is c.loop-at.invariant.goes c.in_ok-next.ensures.done;
    }

pub returns-in_err-next : goal.returns-in_err-next
returns-in_err-next g c =
    let ls = c.args.lines.now in
    let at = c.loop-at.at in
    let behind = take (length ls - (at + 1)) (drop (at + 1) ls) in
    let p = err_from_is_err_and c.from_residual.result c.from_residual.ensures.1 in
    rw (p.1, p.2)
    (line_last g.S.JobStore.state g.S.Reopen.usable c.args.store empty_floor ls behind at (at + 1) _ (g.W.Write.contents c.args.writer.now)
    (g.W.Write.contents c.loop-at.writer) (g.W.Write.contents c.do_line.new.writer) c.loop-at.store c.loop-at.floor _
    c.loop-at-test.true refl (behind_is ls ls (at + 1) refl) c.loop-at.invariant.goes c.in_err-next.ensures.ends)
