use Rattle.std.proofs.Common.{◌∙◌, ◌&&◌, sym, ap}
use Rattle.std.specs.Prelude.{option_map}
use Rattle.store_data.specs.Cursor.{shown}
use Rattle.step_laws.proofs.CursorLemmas.{no_tolerance_past, no_tolerance_at_end, tolerance_at}
use Rattle.list_store.proofs.cursors.is_tolerant.Goals as goal

pub returns-in-None : goal.returns-in-None
returns-in-None c = no_tolerance_past c.args.plan.now c.cursor_at.ensures.plan c.args.place (sym c.cursor_at.ensures.value ∙ c.in-None.is)

pub returns-in-None-segment : goal.returns-in-None-segment
returns-in-None-segment c =
    no_tolerance_at_end c.args.plan.now c.cursor_at.ensures.plan c.args.place c.in-Some.cursor (sym c.cursor_at.ensures.value ∙ c.in-Some.is) (sym c.segment.ensures ∙ ap (option_map shown) c.in-None-segment.is)

pub returns-else-segment : goal.returns-else-segment
returns-else-segment c =
    let plan = c.args.plan.now in
    let there = c.at_end-at_end.ensures.tolerance plan c.args.place c.max.ensures.plan (sym c.cursor_at.ensures.value ∙ c.in-Some.is) (sym c.segment.ensures ∙ ap (option_map shown) c.in-Some-segment.is) (sym c.max.ensures.value) in
    c.if-segment.false ∙ sym (ap (λ b. b && c.at_end-at_end.result) c.if-segment.false) ∙ tolerance_at plan c.max.ensures.plan c.args.place _ there
