use Rattle.std.proofs.Common.{rules, sym, ◌∙◌}
use Rattle.sqlite.specs.Held.{state}
use Rattle.image_laws.specs.Image.{stored_batches, stored_records}
use Rattle.store_reads.proofs.Found.{no_batch_of, state_read}
use Rattle.store_reads.proofs.ReadContents.{both_shown, shown, looks_then}
use Rattle.store_reads.proofs.records.record_state.Goals as goal

pub returns-in_default : goal.returns-in_default
returns-in_default g c = record {
  value =
      let b = c.args.batch.now in
      shown (state g.S.Store c.args.conn.now) (state g.S.Store c.batch_id.new.conn) _ _ (rw c.in_default.is at c.in_ok-id.ensures.finds.found)
      (λ d sound is.
      no_batch_of (stored_batches d.facts) (stored_records d.facts) b c.args.rec.now (is (c.batches_by_name.ensures.once d.facts b sound.facts))
      ∙ sym (c.records_by_name.ensures.state d.facts b c.args.rec.now));
  looks = c.batch_id.ensures.finds.looks;
}

pub returns : goal.returns
returns g c = record {
  value =
      let b = c.args.batch.now in
      let r = c.args.rec.now in
      both_shown (state g.S.Store c.args.conn.now) (state g.S.Store c.batch_id.new.conn) (state g.S.Store c.record_named.new.conn) _ _ _
      c.batch_id.ensures.finds.looks c.record_named.ensures.finds.looks (rw c.in-Some.is at c.in_ok-id.ensures.finds.found) c.in_ok-found.ensures.finds.found
      (λ d sound one two.
      search rules ∙ state_read (stored_batches d.facts) (stored_records d.facts) b r c.in-Some.id (one (c.batches_by_name.ensures.once d.facts b sound.facts)) c.in_ok-found.found
      (two (c.records_by_name.ensures.once d.facts c.in-Some.id r)) ∙ sym (c.records_by_name.ensures.state d.facts b r));
  looks = looks_then (state g.S.Store c.args.conn.now) (state g.S.Store c.batch_id.new.conn) (state g.S.Store c.record_named.new.conn) c.batch_id.ensures.finds.looks c.record_named.ensures.finds.looks;
}
