use Rattle.std.proofs.Common.{◌≡◌, ◌<◌, Bool, ◌&&◌, length, arith, ap, sym, ◌∙◌}
use Rattle.std.specs.Prelude.{option_map}
use Rattle.std.proofs.lemmas.Option.{none-some}
use Rattle.store_data.specs.Cursor.{PlacedSegment, is_last_piece}
use Rattle.store_data.specs.Sequence.{goes_on, sequence}
use Rattle.store_data.proofs.CursorLemmas.{segment_before, tolerance_there, length-sequence}
use Rattle.job_facts.specs.declared.rows.SegmentRow.{SegmentRow}
use Rattle.job_facts.specs.Rows.{segment_row}
use Rattle.job_facts.proofs.Lists.{mapped}
use Rattle.job_facts.proofs.RunningLemmas.{class_stops, goes_by}
use Rattle.job_core.proofs.decision.sessions.after_word.Goals as goal
use Rattle.job_core.proofs.decision.sessions.after_word.Goals.{else-segment, then-segment}

pub returns-in_default : goal.returns-in_default
returns-in_default c = λ plan k is at before segment.
    let within : k < length (sequence plan) = omega (arith, before, length-sequence plan) in
    let v = segment_before plan is k c.args.cursor.now at within in
    absurd (none-some (segment_row plan v.0) (sym c.in_default.is ∙ segment ∙ ap (option_map (segment_row plan)) v.1))

pub returns-in-Stop : goal.returns-in-Stop
returns-in-Stop c = λ plan k is at before segment.
    let v = mapped (segment_row plan) _ c.in-Some.segment (sym segment ∙ c.in-Some.is) in
    let tolerance_is = tolerance_there plan is k c.args.cursor.now at v.0 v.1 in
    let by_class = class_stops (goes_on c.args.sw c.if-segment.tolerated) (sym c.class.ensures ∙ c.in-Stop.is) in
    let last : Bool = is_last_piece plan.max c.args.cursor.now v.0.segment.bytes in
    let bytes : v.0.segment.bytes ≡ c.view-view.result.bytes.now = ap (λ (r : SegmentRow). r.bytes) v.2 ∙ sym (ap (λ (p : PlacedSegment). p.segment.bytes) c.view-view.ensures.shown) in
    let most : plan.max ≡ c.in-Some.segment.max = ap (λ (r : SegmentRow). r.max) v.2 in
    let marked : v.0.segment.tol ≡ c.in-Some.segment.tol = ap (λ (r : SegmentRow). r.tol) v.2 in
    let tolerated : c.if-segment.tolerated ≡ (v.0.segment.tol && last) = elim c.if-segment.branch [
      | then-segment w ↦
          w.tolerated-is ∙ w.at_end-tolerated.ensures.piece ∙ ap (is_last_piece c.in-Some.segment.max c.args.cursor.now) (sym bytes)
          ∙ ap (λ m. is_last_piece m c.args.cursor.now v.0.segment.bytes) (sym most) ∙ ap (λ t. t && last) (sym (marked ∙ w.if-segment.true))
      | else-segment w ↦ w.tolerated-is ∙ w.if-segment.false ∙ ap (λ t. t && last) (sym (marked ∙ w.if-segment.false))
    ] in
    goes_by plan k c.args.sw (v.0.segment.tol && last) tolerance_is ∙ ap (goes_on c.args.sw) (sym tolerated) ∙ by_class
