-- The values in the row of a batch: its product, its bytes, and the numbers of its rows and
-- records.
use Rattle.std.proofs.Common.{◌≡◌, ℕ, false, List, length, map, Option, Some, None, refl, sym, ap, ◌∙◌}
use Rattle.std.specs.Prelude.{bytes_eq, find, option_map, unwrap_or}
use Rattle.std.specs.List.{list_any}
use Rattle.std.proofs.lemmas.List.{length-map}
use Rattle.store_data.specs.declared.row.Row.{Row}
use Rattle.store_data.specs.Groups.{first_appearances, grouped}
use Rattle.batch_import.specs.Batch.{records_of_rows}
use Rattle.batch_import.proofs.OutlineLemmas.{keys_of_numbered}
use Rattle.job_facts.specs.declared.rows.BatchRow.{BatchRow}
use Rattle.job_facts.specs.declared.rows.BatchSize.{BatchSize}
use Rattle.job_facts.specs.declared.rows.BatchTotals.{BatchTotals}
use Rattle.job_facts.specs.Accounts.{batch_totals, record_states}
use Rattle.job_facts.specs.Facts.{Batch, Facts}
use Rattle.job_facts.specs.Rows.{batch_has, batch_row, batch_row_of, batch_size, batch_size_of, has_bytes}
use Rattle.job_facts.specs.Sound.{IsSound}
use Rattle.job_facts.specs.States.{batch_named, is_closed, record_state, records_named, records_of, rows_of}
use Rattle.table_rows.specs.Keys.{is_batch_named, is_batch_with}
use Rattle.table_rows.specs.Tables.{StoredBatch}
use Rattle.image_laws.specs.Image.{batch_id, stored_batch, stored_batches, stored_groupings}
use Rattle.row_laws.specs.RowValues.{batch_of_row, has_raw_in, size_of}
use Rattle.row_laws.proofs.BatchRows.{name_once, named_row, own_name, totals_are}
use Rattle.row_laws.proofs.Finding.{any_beside}
use Rattle.row_laws.proofs.GroupingRows.{count_of_batch}
use Rattle.row_laws.proofs.RecordRows.{names_are}

module _ (f : Facts) (b : List ℕ) where
  abbrev row_at : Batch → StoredBatch
  row_at c = stored_batch f (batch_id f.batches b, c)

  pub row_in_rows : batch_row_of f b ≡ option_map batch_of_row (find (is_batch_named b) (stored_batches f))
  row_in_rows = by_batch (batch_named f.batches b) refl ∙ sym (ap (option_map batch_of_row) (named_row f b))
    where
      by_batch : (o : Option Batch) → batch_named f.batches b ≡ o → batch_row_of f b ≡ option_map batch_of_row (option_map row_at o)
      by_batch None is = ap (option_map (batch_row f b)) is
      by_batch (Some c) is =
          ap (option_map (batch_row f b)) is
          ∙ ap (λ m. let row : BatchRow = record { product = c.product; is_closed = is_closed f m } in Some row) (sym (own_name f b c is))

  pub has_in_rows : (raw : List ℕ) → batch_has f b raw ≡ has_raw_in raw (find (is_batch_named b) (stored_batches f))
  has_in_rows raw = by_batch (batch_named f.batches b) ∙ sym (ap (has_raw_in raw) (named_row f b))
    where
      by_batch : (o : Option Batch) → has_bytes raw o ≡ has_raw_in raw (option_map row_at o)
      by_batch None = refl
      by_batch (Some c) = refl

  raw_tested : (raw : List ℕ) (o : Option StoredBatch) → has_raw_in raw o ≡ unwrap_or (option_map (λ (x : StoredBatch). bytes_eq x.raw raw) o) false
  raw_tested raw None = refl
  raw_tested raw (Some x) = refl

  pub has_any : IsSound f → (raw : List ℕ) → batch_has f b raw ≡ list_any (is_batch_with b raw) (stored_batches f)
  has_any sound raw =
      has_in_rows raw ∙ raw_tested raw (find (is_batch_named b) (stored_batches f))
      ∙ sym (any_beside (is_batch_named b) (λ (x : StoredBatch). bytes_eq x.raw raw) (stored_batches f) (name_once f sound b))

  -- The number of records that the rows form is the number of different record names.
  grouped_many : (rows : List Row) → length (records_of_rows rows) ≡ length (first_appearances (map (λ (row : Row). row.rec) rows))
  unfolding grouped
  grouped_many rows = length-map _ _ ∙ ap (λ keys. length (first_appearances keys)) (keys_of_numbered 2 rows)

  named_many : (c : Batch) → length (records_of_rows (rows_of f.products c)) ≡ length (records_of f.products c)
  unfolding records_of
  named_many c = grouped_many (rows_of f.products c)

  states_many : (batch_totals f b).records ≡ length (records_named f b)
  unfolding batch_totals record_states
  states_many = length-map (records_named f b) (record_state f b)

  pub size_in_rows : batch_size_of f b ≡ option_map (size_of (stored_groupings f)) (find (is_batch_named b) (stored_batches f))
  size_in_rows = by_batch (batch_named f.batches b) refl ∙ sym (ap (option_map (size_of (stored_groupings f))) (named_row f b))
    where
      size : ℕ → ℕ → Option BatchSize
      size rows records = let s : BatchSize = record { rows = rows; records = records } in Some s

      by_batch : (o : Option Batch) → batch_named f.batches b ≡ o → batch_size_of f b ≡ option_map (size_of (stored_groupings f)) (option_map row_at o)
      by_batch None is = ap (option_map (batch_size f)) is
      by_batch (Some c) is =
          ap (option_map (batch_size f)) is
          ∙ ap (λ n. size n (length (records_of_rows (rows_of f.products c)))) (sym (count_of_batch f b c is))
          ∙ ap (size _) (named_many c ∙ ap length (names_are f b c is) ∙ sym states_many ∙ ap (λ (t : BatchTotals). t.records) (totals_are f b c is))
