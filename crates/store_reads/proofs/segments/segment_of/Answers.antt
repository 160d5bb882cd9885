use Rattle.std.proofs.Common.{Some, ap, map, ◌∙◌}
use Rattle.std.specs.List.{flat_map}
use Rattle.image_laws.specs.Image.{image}
use Rattle.row_reads.specs.declared.groupings.CodedAt.{CodedAt}
use Rattle.store_reads.specs.declared.segments.BatchProduct.{BatchProduct}
use Rattle.store_reads.specs.Segments.{head_at}
use Rattle.store_reads.proofs.ByKnown.{sound_apart, with_head, without_head}
use Rattle.store_reads.proofs.SegmentRows.{row_of_head}
use Rattle.store_reads.proofs.segments.segment_of.Goals as goal

pub returns-in_default-clause-value : goal.returns-in_default-clause-value
returns-in_default-clause-value g c clean d sound is known =
    let k = c.args.card.now in
    without_head d k known (sound_apart c.batches_by_name.ensures.once c.records_by_name.ensures.once d sound) c.args.app c.args.segment (c.plans_by_rows.ensures d.facts k.batch k.rec)
    (c.groupings_by_place.ensures.rising d.facts k.id k.place)
    ((rw c.in_default.is at c.head_at.ensures) ∙ ap (λ vs. head_at (map (λ own. own.items) vs) c.args.app c.args.segment) c.as_slice.ensures.value)

pub returns-clause-value : goal.returns-clause-value
returns-clause-value g c clean d sound is known =
    let k = c.args.card.now in
    let s = c.in_ok-coded.ensures.finds.found clean in
    ap (λ bytes. Some (row_of_head (let e : BatchProduct = record { id = k.id; product = k.product } in e) c.in-Some.placed bytes)) (c.in_ok-bytes.ensures ∙ ap (flat_map (λ (g : CodedAt). g.coded)) c.as_slice-2.ensures.value)
    ∙ with_head d k known (sound_apart c.batches_by_name.ensures.once c.records_by_name.ensures.once d sound) c.args.app c.args.segment (c.plans_by_rows.ensures d.facts k.batch k.rec)
    (c.groupings_by_place.ensures.rising d.facts k.id k.place) c.in-Some.placed
    ((rw c.in-Some.is at c.head_at.ensures) ∙ ap (λ vs. head_at (map (λ own. own.items) vs) c.args.app c.args.segment) c.as_slice.ensures.value) c.in_ok-coded.coded.items (s.1 (image d) (is s.0))
