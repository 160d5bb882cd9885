use Rattle.std.proofs.Common.{sym, ◌∙◌}
use Rattle.std.specs.Prelude.{find}
use Rattle.sqlite.specs.Held.{state}
use Rattle.table_rows.specs.Keys.{is_batch_named}
use Rattle.image_laws.specs.Image.{stored_batches, stored_groupings}
use Rattle.store_reads.proofs.Sizes.{no_size, size_read}
use Rattle.store_reads.proofs.ReadContents.{both_shown, shown, looks_then}
use Rattle.store_reads.proofs.batches.batch_size.Goals as goal

pub returns-in_default : goal.returns-in_default
returns-in_default g c = record {
  value =
      let n = c.args.name.now in
      shown (state g.S.Store c.args.conn.now) (state g.S.Store c.batch_head.new.conn) _ _ (rw c.in_default.is at c.in_ok-head.ensures.finds.found)
      (λ d sound is.
      no_size (stored_groupings d.facts) (find (is_batch_named n) (stored_batches d.facts)) (is (c.batches_by_name.ensures.once d.facts n sound.facts))
      ∙ sym (c.batches_by_rows.ensures.size d.facts n));
  looks = c.batch_head.ensures.finds.looks;
}

pub returns : goal.returns
returns g c = record {
  value =
      let n = c.args.name.now in
      both_shown (state g.S.Store c.args.conn.now) (state g.S.Store c.batch_head.new.conn) (state g.S.Store c.grouping_count.new.conn) _ _ _
      c.batch_head.ensures.finds.looks c.grouping_count.ensures.looks (rw c.in-Some.is at c.in_ok-head.ensures.finds.found) c.in_ok-rows.ensures.found
      (λ d sound one two.
      size_read (stored_groupings d.facts) (find (is_batch_named n) (stored_batches d.facts)) c.in-Some.head c.in_ok-rows.rows (one (c.batches_by_name.ensures.once d.facts n sound.facts)) two
      ∙ sym (c.batches_by_rows.ensures.size d.facts n));
  looks = looks_then (state g.S.Store c.args.conn.now) (state g.S.Store c.batch_head.new.conn) (state g.S.Store c.grouping_count.new.conn) c.batch_head.ensures.finds.looks c.grouping_count.ensures.looks;
}
