use Rattle.std.proofs.Common.{◌≡◌, sym, ◌∙◌, IsPermutation, map}
use Rattle.std.specs.Prelude.{filter}
use Rattle.sqlite.specs.Held.{state}
use Rattle.row_reads.specs.RowValues.{head_of, lot_row_of}
use Rattle.table_rows.specs.Keys.{is_batch_for, is_lot_for}
use Rattle.image_laws.specs.Image.{stored_batches, stored_lots}
use Rattle.store_reads.specs.Sums.{totals_of_rows}
use Rattle.store_reads.proofs.BlankSums.{blanks_read}
use Rattle.store_reads.proofs.ReadShown.{reads_shown}
use Rattle.store_reads.proofs.ReadContents.{shown, shown_then, looks_then}
use Rattle.store_reads.proofs.reports.blank_totals.Goals as goal

pub returns : goal.returns
returns g c = record {
  value =
      let p = c.args.product.now in
      let lots = c.in_ok-lots.lots.items in
      let heads = c.in_ok-heads.heads.items in
      let old = state g.S.Store c.args.conn.now in
      let mid = state g.S.Store c.lots_of.new.conn in
      let new = state g.S.Store c.batches_of.new.conn in
      reads_shown old new c.totals_of_rows.result
      (λ d. IsPermutation (map lot_row_of (filter (is_lot_for p) (stored_lots d.facts))) lots × IsPermutation (map head_of (filter (is_batch_for p) (stored_batches d.facts))) heads)
      (λ totals. totals ≡ totals_of_rows lots heads) _
      (shown_then old mid new _ _ _ c.lots_of.ensures.looks c.batches_of.ensures.looks
      (shown old mid _ _ c.in_ok-lots.ensures.found (λ d sound is. is)) (shown mid new _ _ c.in_ok-heads.ensures.found (λ d sound is. is)) (λ d sound one two. (one, two)))
      (rw (c.as_slice.ensures.value, c.as_slice-2.ensures.value) at c.totals_of_rows.ensures.value)
      (λ d sound both totals made.
      made ∙ blanks_read (filter (is_lot_for p) (stored_lots d.facts)) (filter (is_batch_for p) (stored_batches d.facts)) lots heads both.0 both.1
      ∙ sym (c.blanks_by_rows.ensures d.facts p sound.facts));
  looks = looks_then (state g.S.Store c.args.conn.now) (state g.S.Store c.lots_of.new.conn) (state g.S.Store c.batches_of.new.conn) c.lots_of.ensures.looks c.batches_of.ensures.looks;
}
