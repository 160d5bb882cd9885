use Rattle.std.proofs.Common.{◌≡◌, Some, sym, ◌∙◌}
use Rattle.std.specs.Prelude.{find, option_map}
use Rattle.sqlite.specs.Held.{state}
use Rattle.image_laws.specs.Image.{image, stored_batches, stored_records}
use Rattle.table_rows.specs.Keys.{is_batch_named}
use Rattle.table_rows.specs.Tables.{StoredBatch}
use Rattle.store_reads.specs.Waiting.{IsFirstWaiting}
use Rattle.store_reads.proofs.ByKnown.{sound_apart, waiting_by_known}
use Rattle.store_reads.proofs.Knowing.{knows_after}
use Rattle.store_reads.proofs.ReadShown.{reads_shown_then}
use Rattle.store_reads.proofs.ReadContents.{reads, shown}
use Rattle.store_reads.proofs.Waiting.{first_waits, none_waits}
use Rattle.store_reads.proofs.records.first_waiting.Goals as goal

pub returns-in-Some-clause-value : goal.returns-in-Some-clause-value
returns-in-Some-clause-value g c =
    waiting_by_known (state g.S.Store c.args.conn.now) (state g.S.Store c.waiting_of.new.conn) c.args.known.now c.in-Some.card.now c.args.batch.now c.requires.knows
    c.in-Some.ensures.known c.in-Some.ensures.batch c.waiting_of.ensures.looks (sound_apart c.batches_by_name.ensures.once c.records_by_name.ensures.once)
    (λ f. c.records_of_batches.ensures.waiting_rising f c.in-Some.card.now.id) (λ f. c.records_of_batches.ensures.waiting f c.args.batch.now) c.waiting_of.result c.waiting_of.ensures.value

pub returns-in_err-id-clause-knows : goal.returns-in_err-id-clause-knows
returns-in_err-id-clause-knows g c =
    knows_after (state g.S.Store c.args.conn.now) (state g.S.Store c.batch_id.new.conn) c.args.known.now c.batch_id.ensures.finds.looks c.requires.knows

pub returns-in_default-2-clause-knows : goal.returns-in_default-2-clause-knows
returns-in_default-2-clause-knows g c =
    knows_after (state g.S.Store c.args.conn.now) (state g.S.Store c.batch_id.new.conn) c.args.known.now c.batch_id.ensures.finds.looks c.requires.knows

pub waiting_of-requires-2-clause-knows : goal.waiting_of-requires-2-clause-knows
waiting_of-requires-2-clause-knows g c =
    knows_after (state g.S.Store c.args.conn.now) (state g.S.Store c.batch_id.new.conn) c.args.known.now c.batch_id.ensures.finds.looks c.requires.knows

pub returns-in_default-2-clause-value : goal.returns-in_default-2-clause-value
returns-in_default-2-clause-value g c =
    let b = c.args.batch.now in
    shown (state g.S.Store c.args.conn.now) (state g.S.Store c.batch_id.new.conn) _ _ (rw c.in_default-2.is at c.in_ok-id.ensures.finds.found)
    (λ d sound is.
    none_waits (stored_batches d.facts) (stored_records d.facts) b (is (c.batches_by_name.ensures.once d.facts b sound.facts))
    ∙ sym (c.records_of_batches.ensures.waiting d.facts b))

pub returns-clause-value : goal.returns-clause-value
returns-clause-value g c =
    let b = c.args.batch.now in
    let id = c.in-Some-2.id in
    let old = state g.S.Store c.args.conn.now in
    let mid = state g.S.Store c.batch_id.new.conn in
    let new = state g.S.Store c.waiting_of-2.new.conn in
    reads_shown_then old mid new c.waiting_of-2.result (λ d. Some id ≡ option_map (λ (row : StoredBatch). row.id) (find (is_batch_named b) (stored_batches d.facts))) (λ d. IsFirstWaiting id (image d)) _
    c.batch_id.ensures.finds.looks c.waiting_of-2.ensures.looks
    (shown old mid _ _ (rw c.in-Some-2.is at c.in_ok-id.ensures.finds.found) (λ d sound is. is (c.batches_by_name.ensures.once d.facts b sound.facts)))
    (reads mid new c.waiting_of-2.result _ _ c.waiting_of-2.ensures.value (λ d sound x is. is))
    (λ d sound one name first.
    first_waits (stored_batches d.facts) (stored_records d.facts) b id one (c.records_of_batches.ensures.waiting_rising d.facts id) name first ∙ sym (c.records_of_batches.ensures.waiting d.facts b))
