use Rattle.std.proofs.Common.{◌∙◌, ap, sym, arith}
use Rattle.std.specs.Prelude.{option_map}
use Rattle.store_data.specs.Cursor.{shown}
use Rattle.step_laws.proofs.CursorLemmas.{IsCursor-at, cursor_past, end_at}
use Rattle.list_store.proofs.cursors.cursor_at.Goals as goal

pub returns-in_err-segment-clause-value : goal.returns-in_err-segment-clause-value
returns-in_err-segment-clause-value c =
    let end = end_at c.args.plan.now c.max-max.ensures.plan _ _ c.loop-place.invariant (sym c.segment.ensures ∙ ap (option_map shown) c.in_err-segment.was) in
    c.from_residual.ensures ∙ sym (cursor_past c.args.plan.now c.max-max.ensures.plan c.args.count (omega arith))

pub step_from-requires : goal.step_from-requires
step_from-requires c = IsCursor-at c.args.plan.now c.max-max.ensures.plan _ _ c.loop-place.invariant

pub loop-place-preserved : goal.loop-place-preserved
loop-place-preserved c =
    c.step_from.ensures c.args.plan.now _ c.max-max.ensures.plan c.loop-place.invariant (sym c.segment.ensures ∙ ap (option_map shown) c.in_ok-segment.was) (sym c.max-max.ensures.value)

pub returns-clause-ranged : goal.returns-clause-ranged
returns-clause-ranged c = IsCursor-at c.args.plan.now c.max-max.ensures.plan _ _ c.loop-place.invariant
