use Rattle.std.proofs.Common.{arith, subst, sym}
use Rattle.std.proofs.Math.Logic.{∥∥₁_elim}
use Rattle.std.specs.Coded.{coded_option}
use base.Stored.{Coded-set}
use Rattle.sqlite.specs.Held.{state}
use Rattle.sqlite.specs.State.{HasCleanDisk}
use Rattle.image_laws.specs.Image.{image}
use Rattle.image_laws.specs.WritingOf.{IsPlaceOf}
use Rattle.row_reads.specs.contracts.records.RecordAt.{the_row}
use Rattle.sql_rows.specs.Image.{IsImage}
use Rattle.store_reads.proofs.ByKnown.{sound_apart}
use Rattle.store_reads.proofs.KnownRows.{all_known_in, standing_told}
use Rattle.store_reads.proofs.Placed.{record_placed}
use Rattle.store_reads.proofs.changes.place_of.Goals as goal

pub returns-in-Some-stands-clause-value : goal.returns-in-Some-stands-clause-value
returns-in-Some-stands-clause-value g c clean live d sound is =
    let b = c.args.batch.now in
    let r = c.args.rec.now in
    let counters = c.in-Some.counters in
    let card = c.in-Some-stands.card.now in
    let old = state g.S.Store c.args.conn.now in
    let early : HasCleanDisk old = omega (arith, clean, c.counters_of.ensures.looks.survives.clean) in
    let was_open = (c.counters_of.ensures.looks.kept clean).was_open live in
    subst (IsPlaceOf d.facts b r) (sym c.place_at.ensures)
    (record_placed d.facts b r (c.records_by_name.ensures.place d.facts b r) counters ((rw c.in-Some.is at c.in_ok-counters.ensures.value) clean live d sound is) card
    (∥∥₁_elim (all_known_in old c.args.known.now c.requires.knows early was_open (image d) is) (Coded-set (coded_option the_row.coded) _ _)
    (λ all. standing_told (image d) c.args.known.now (sound_apart c.batches_by_name.ensures.once c.records_by_name.ensures.once d sound) all counters.batch r card c.in-Some-stands.ensures.known)))

pub returns-clause-value : goal.returns-clause-value
returns-clause-value g c clean live d sound is =
    let b = c.args.batch.now in
    let r = c.args.rec.now in
    let counters = c.in-Some.counters in
    let mid = state g.S.Store c.counters_of.new.conn in
    let early : HasCleanDisk mid = omega (arith, clean, c.record_named.ensures.finds.looks.survives.clean) in
    let found = (rw c.in-Some-2.is at c.in_ok-card.ensures.finds.found) clean in
    let here : IsImage (image d) mid.now = subst (IsImage (image d)) (sym ((c.counters_of.ensures.looks.kept early).now_is found.0)) is in
    subst (IsPlaceOf d.facts b r) (sym c.place_at-2.ensures)
    (record_placed d.facts b r (c.records_by_name.ensures.place d.facts b r) counters ((rw c.in-Some.is at c.in_ok-counters.ensures.value) early found.0 d sound is)
    c.in-Some-2.card (found.1 (image d) here (c.records_by_name.ensures.once d.facts counters.batch r)))
