use Rattle.std.proofs.Common.{Err, Ok, subst, ◌∙◌}
use Rattle.event_lines.proofs.NotesLemmas.{none-all}
use Rattle.event_lines.specs.Notes.{NotesAll}
use Rattle.plan_print.specs.PlanEnds.{PlanEnds, stop_lines}
use Rattle.plan_print.proofs.plan.plan_with_events.Goals as goal

pub returns-in-Ok : goal.returns-in-Ok
returns-in-Ok g c =
    let (raw, agrees, (same, few)) = c.in_ok-raw.ensures in
    let bytes = g.W.Write.contents in
    let notes = g.E.Write.contents in (
      raw,
      agrees,
      (
        subst (λ xs. PlanEnds c.args.product.now xs (bytes c.args.writer.now) (bytes c.plan_bytes.new.writer) (Ok tt)) (c.as_slice.ensures.value ∙ same) c.in-Ok.ensures,
        none-all c.args.events.now.level (notes c.args.events.now.writer),
      ),
    )

pub returns : goal.returns
returns g c =
    let (raw, agrees, (same, few)) = c.in_ok-raw.ensures in
    let bytes = g.W.Write.contents in
    let notes = g.E.Write.contents in
    let stop = c.in-Err.stop in (
      raw,
      agrees,
      (
        subst (λ xs. PlanEnds c.args.product.now xs (bytes c.args.writer.now) (bytes c.plan_bytes.new.writer) (Err stop)) (c.as_slice.ensures.value ∙ same) c.in-Err.ensures,
        subst (λ xs. NotesAll c.args.events.now.level (notes c.args.events.now.writer) (notes c.note_stop.new.events.writer) (stop_lines c.args.product.now xs stop)) (c.as_slice-in-Err.ensures.value ∙ same) c.note_stop.ensures,
      ),
    )
