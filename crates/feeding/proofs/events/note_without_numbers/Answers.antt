use Rattle.std.proofs.Common.{◌∷◌, ◌++◌, [], drop}
use Rattle.feeding.specs.Events.{exhausted_line}
use Rattle.feeding.proofs.Noting.{exhausted_next, exhausted_of, noted_front, noted_line, noted_then}
use Rattle.feeding.proofs.events.note_without_numbers.Goals as goal

pub returns-in_default : goal.returns-in_default
returns-in_default g c =
    let so_far = c.loop-line.invariant in
    noted_front g.E.Write.contents c.args.events.now c.loop-line.events so_far.0 (exhausted_of (drop c.loop-line.line-index c.args.lines.now)) (exhausted_of c.args.lines.now) so_far.1 so_far.2

pub loop-line-preserved : goal.loop-line-preserved
loop-line-preserved g c =
    let so_far = c.loop-line.invariant in
    let line = exhausted_line c.in-Some.serial ∷ [] in (
      so_far.0 ++ line,
      noted_then g.E.Write.contents c.args.events.now c.loop-line.events c.note.new.self so_far.0 line so_far.1
          (noted_line g.E.Write.contents c.loop-line.events c.note.new.self c.exhausted_line.result _ c.exhausted_line.ensures c.note.ensures.level c.note.ensures.noted),
      exhausted_next c.args.lines.now c.loop-line.line-index _ c.in-Some.serial so_far.0 c.loop-line-test.true c.in-Some.ensures so_far.2,
    )
