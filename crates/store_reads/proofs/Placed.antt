-- Lemmas about the earlier values of the rows that a change updates.
use Rattle.std.proofs.Common.{◌≡◌, ℕ, List, Some, sym, subst}
use Rattle.std.specs.Prelude.{find, option_map}
use Rattle.job_facts.specs.declared.facts.Lot.{Lot}
use Rattle.job_facts.specs.declared.rows.SessionRow.{SessionRow}
use Rattle.job_facts.specs.Facts.{Facts}
use Rattle.job_facts.specs.Rows.{session_row, session_row_of}
use Rattle.job_facts.specs.States.{lot_named, session_numbered}
use Rattle.table_rows.specs.declared.writing.RecordPlace.{RecordPlace}
use Rattle.table_rows.specs.Keys.{is_batch_named, is_lot_named, is_record_named}
use Rattle.table_rows.specs.Tables.{StoredBatch, StoredLot, StoredRecord}
use Rattle.row_reads.specs.declared.lots.LotRow.{LotRow}
use Rattle.row_reads.specs.declared.records.RecordAt.{RecordAt}
use Rattle.row_reads.specs.CardDecoding.{record_at}
use Rattle.row_reads.specs.RowValues.{lot_row_of}
use Rattle.row_laws.specs.RowValues.{place_of}
use Rattle.image_laws.specs.WritingOf.{IsPlaceOf, IsPlaceOfSession}
use Rattle.image_laws.specs.Image.{stored_batches, stored_lots, stored_records}
use Rattle.step_laws.specs.Sums.{discarded_in}
use Rattle.store_reads.specs.declared.known.BatchCounters.{BatchCounters}
use Rattle.store_reads.specs.Heads.{counters_of, place_at}
use Rattle.store_reads.proofs.Found.{found_some}

module _ (f : Facts) where
  pub record_placed : (b r : List ℕ) → ((row : StoredBatch) (x : StoredRecord) → find (is_batch_named b) (stored_batches f) ≡ Some row → find (is_record_named row.id r) (stored_records f) ≡ Some x → IsPlaceOf f b r (place_of row x))
      → (counters : BatchCounters) → Some counters ≡ option_map counters_of (find (is_batch_named b) (stored_batches f)) → (y : RecordAt) → Some y ≡ option_map record_at (find (is_record_named counters.batch r) (stored_records f))
      → IsPlaceOf f b r (place_at counters y)
  record_placed b r law counters one y two =
      let row = found_some counters_of (find (is_batch_named b) (stored_batches f)) counters one in
      let x = found_some record_at (find (is_record_named counters.batch r) (stored_records f)) y two in
      let x_at = subst (λ (k : BatchCounters). find (is_record_named k.batch r) (stored_records f) ≡ Some x.0) row.2 x.1 in
      subst (λ (z : RecordAt). IsPlaceOf f b r (place_at counters z)) (sym x.2) (subst (λ (k : BatchCounters). IsPlaceOf f b r (place_at k (record_at x.0))) (sym row.2) (law row.0 x.0 row.1 x_at))

  pub session_placed : (s : ℕ) (row : SessionRow) → Some row ≡ session_row_of f s → (p : RecordPlace) → IsPlaceOf f row.batch row.rec p → IsPlaceOfSession f s p
  session_placed s row is p placed =
      let x = found_some (session_row f) (session_numbered f.sessions s) row is in
      (x.0, x.1, subst (λ (t : SessionRow). IsPlaceOf f t.batch t.rec p) x.2 placed)

  pub lot_discarded : (n : List ℕ) → ((row : StoredLot) → find (is_lot_named n) (stored_lots f) ≡ Some row → (lot_named f.lots n ≡ Some row.lot) × (row.discarded ≡ discarded_in f row.lot))
      → (l : LotRow) → Some l ≡ option_map lot_row_of (find (is_lot_named n) (stored_lots f)) → (lot : Lot) × (lot_named f.lots n ≡ Some lot) × (l.discarded ≡ discarded_in f lot)
  lot_discarded n law l is =
      let row = found_some lot_row_of (find (is_lot_named n) (stored_lots f)) l is in
      let as_read = law row.0 row.1 in
      (row.0.lot, as_read.0, subst (λ (k : LotRow). k.discarded ≡ discarded_in f row.0.lot) (sym row.2) as_read.1)
