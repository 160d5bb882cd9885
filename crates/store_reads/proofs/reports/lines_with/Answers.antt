use Rattle.std.proofs.Common.{◌≡◌, ◌≤◌, ℕ, ◌∙◌, IsPermutation, map}
use Rattle.std.specs.Prelude.{count_by, filter}
use Rattle.sqlite.specs.Held.{state}
use Rattle.row_reads.specs.CardDecoding.{good_at, place_of, record_at}
use Rattle.row_reads.specs.Extremes.{AreSorted}
use Rattle.table_rows.specs.Keys.{is_good_of, is_record_of}
use Rattle.image_laws.specs.Image.{stored_records, stored_sessions}
use Rattle.store_reads.specs.Lines.{is_card_at, line_for}
use Rattle.store_reads.proofs.RecordLines.{lines_are}
use Rattle.store_reads.proofs.ReadShown.{ok_both, reads_shown}
use Rattle.store_reads.proofs.ReadContents.{shown, shown_then, looks_then}
use Rattle.store_reads.proofs.reports.lines_with.Goals as goal

pub returns : goal.returns
returns g c = record {
  value =
      let id = c.args.id in
      let records = c.in_ok-records.records.items in
      let good = c.in_ok-good.good.items in
      let old = state g.S.Store c.args.conn.now in
      let mid = state g.S.Store c.records_of.new.conn in
      let new = state g.S.Store c.good_sessions.new.conn in
      reads_shown old new c.lines_for.result
      (λ d. AreSorted place_of (map record_at (filter (is_record_of id) (stored_records d.facts))) records × IsPermutation (map good_at (filter (is_good_of id) (stored_sessions d.facts))) good)
      (λ lines. (lines.items ≡ map (line_for good) records) × ((k : ℕ) → count_by (is_card_at k) good ≤ 1)) _
      (shown_then old mid new _ _ _ c.records_of.ensures.finds.looks c.good_sessions.ensures.finds.looks
      (shown old mid _ _ c.in_ok-records.ensures.finds.found (λ d sound is. is)) (shown mid new _ _ c.in_ok-good.ensures.finds.found (λ d sound is. is)) (λ d sound one two. (one, two)))
      (ok_both c.lines_for.result _ _ (rw (c.as_slice.ensures.value, c.as_slice-2.ensures.value) at c.lines_for.ensures.value) (rw c.as_slice-2.ensures.value at c.lines_for.ensures.once))
      (λ d sound both lines made.
      made.0 ∙ lines_are (filter (is_good_of id) (stored_sessions d.facts)) good both.1 made.1 (filter (is_record_of id) (stored_records d.facts)) (c.records_of_batches.ensures.rising d.facts id) records both.0);
  looks = looks_then (state g.S.Store c.args.conn.now) (state g.S.Store c.records_of.new.conn) (state g.S.Store c.good_sessions.new.conn) c.records_of.ensures.finds.looks c.good_sessions.ensures.finds.looks;
}
