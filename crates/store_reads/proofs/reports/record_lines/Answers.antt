use Rattle.std.proofs.Common.{◌≡◌, sym, ◌∙◌}
use Rattle.std.specs.Prelude.{find, option_map, unwrap_or}
use Rattle.sqlite.specs.Held.{state}
use Rattle.table_rows.specs.Keys.{is_batch_named}
use Rattle.table_rows.specs.Tables.{StoredBatch}
use Rattle.image_laws.specs.Image.{stored_batches}
use Rattle.store_reads.specs.Lines.{lines_with}
use Rattle.store_reads.proofs.RecordLines.{lines_by_id}
use Rattle.store_reads.proofs.ReadShown.{reads_shown_then}
use Rattle.store_reads.proofs.ReadContents.{shown, looks_then}
use Rattle.store_reads.proofs.reports.record_lines.Goals as goal

pub returns : goal.returns
returns g c = record {
  value =
      let b = c.args.batch.now in
      let found = c.in_ok-batch_id.field-0 in
      let old = state g.S.Store c.args.conn.now in
      let mid = state g.S.Store c.batch_id.new.conn in
      let new = state g.S.Store c.lines_with.new.conn in
      reads_shown_then old mid new c.lines_with.result (λ d. found ≡ option_map (λ (row : StoredBatch). row.id) (find (is_batch_named b) (stored_batches d.facts)))
      (λ d lines. lines.items ≡ lines_with d.facts (unwrap_or found 0)) _
      c.batch_id.ensures.finds.looks c.lines_with.ensures.looks
      (shown old mid _ _ c.in_ok-batch_id.ensures.finds.found (λ d sound is. is (c.batches_by_name.ensures.once d.facts b sound.facts)))
      (rw c.unwrap_or-id.ensures at c.lines_with.ensures.value)
      (λ d sound one lines two. two ∙ lines_by_id d.facts b found one ∙ sym (c.lines_by_rows.ensures d.facts b sound.facts));
  looks = looks_then (state g.S.Store c.args.conn.now) (state g.S.Store c.batch_id.new.conn) (state g.S.Store c.lines_with.new.conn) c.batch_id.ensures.finds.looks c.lines_with.ensures.looks;
}
