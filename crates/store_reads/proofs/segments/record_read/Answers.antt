use Rattle.std.proofs.Common.{refl}
use Rattle.sqlite.specs.Held.{state}
use Rattle.store_reads.proofs.ByKnown.{sound_apart}
use Rattle.store_reads.proofs.KnownRows.{read_known, records_once}
use Rattle.store_reads.proofs.SegmentRows.{segment_without_product, segment_without_record}
use Rattle.store_reads.proofs.ReadContents.{looks_then, rows_both, rows_then, shown}
use Rattle.store_reads.proofs.segments.record_read.Goals as goal

pub returns-in_default-clause-none : goal.returns-in_default-clause-none
returns-in_default-clause-none g c =
    let b = c.args.batch.now in
    let r = c.args.rec.now in
    shown (state g.S.Store c.args.conn.now) (state g.S.Store c.product_in.new.conn) _ _ (rw c.in_default.is at c.in_ok-found.ensures.value)
    (λ d sound is none a q. segment_without_product d.facts b r a q (c.plans_by_rows.ensures d.facts b r) (is (sound_apart c.batches_by_name.ensures.once c.records_by_name.ensures.once d sound)))

pub returns-in_default-2-clause-none : goal.returns-in_default-2-clause-none
returns-in_default-2-clause-none g c =
    let b = c.args.batch.now in
    let r = c.args.rec.now in
    let e = c.in-Some.found in
    let old = state g.S.Store c.args.conn.now in
    let new = state g.S.Store c.record_named.new.conn in
    shown old new _ _
    (rows_both old (state g.S.Store c.product_in.new.conn) new _ _ c.product_in.ensures.looks c.record_named.ensures.finds.looks
    (rw c.in-Some.is at c.in_ok-found.ensures.value) (rw c.in_default-2.is at c.in_ok-card.ensures.finds.found))
    (λ d sound both none a q.
    segment_without_record d.facts b r a q (c.plans_by_rows.ensures d.facts b r) e
    (both.0 (sound_apart c.batches_by_name.ensures.once c.records_by_name.ensures.once d sound)) (both.1 (c.records_by_name.ensures.once d.facts e.id r)))

pub returns-clause-known : goal.returns-clause-known
returns-clause-known g c =
    let b = c.args.batch.now in
    let r = c.args.rec.now in
    let e = c.in-Some.found in
    let x = c.in-Some-2.card in
    let old = state g.S.Store c.args.conn.now in
    let mid = state g.S.Store c.product_in.new.conn in
    let late = state g.S.Store c.record_named.new.conn in
    let new = state g.S.Store c.heads_at.new.conn in
    rows_then old late new _ _ _ (looks_then old mid late c.product_in.ensures.looks c.record_named.ensures.finds.looks) c.heads_at.ensures.looks
    (rows_both old mid late _ _ c.product_in.ensures.looks c.record_named.ensures.finds.looks
    (rw c.in-Some.is at c.in_ok-found.ensures.value) (rw c.in-Some-2.is at c.in_ok-card.ensures.finds.found))
    c.in_ok-heads.ensures.value
    (λ t both heads apart. read_known t _ e (both.0 apart) x (both.1 (records_once t apart e.id r)) heads refl refl refl)
