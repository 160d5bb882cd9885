-- Lemmas about the first waiting record of a batch, from the part of its row that was read.
use Rattle.std.proofs.Common.{◌≡◌, ℕ, List, map, Option, Some, None, refl, sym, ap, subst, ◌∙◌}
use Rattle.std.specs.Prelude.{filter, find, option_map}
use Rattle.job_facts.proofs.Lists.{unmapped}
use Rattle.row_reads.specs.declared.records.RecordAt.{RecordAt}
use Rattle.row_reads.specs.CardDecoding.{place_of, record_at}
use Rattle.row_reads.specs.Extremes.{IsLeastBy}
use Rattle.table_rows.specs.Keys.{is_batch_named, is_waiting_of}
use Rattle.table_rows.specs.Tables.{StoredBatch, StoredRecord}
use Rattle.row_laws.specs.RowValues.{waiting_in}
use Rattle.row_laws.proofs.Finding.{option_map-map}
use Rattle.store_reads.proofs.Found.{found_some}
use Rattle.store_reads.proofs.Ordered.{Rises, first_passing, first_read}

module _ (batches : List StoredBatch) (records : List StoredRecord) (b : List ℕ) where
  pub none_waits : None ≡ option_map (λ (row : StoredBatch). row.id) (find (is_batch_named b) batches) → None ≡ waiting_in batches records b
  none_waits none = rw (unmapped (λ (row : StoredBatch). row.id) (find (is_batch_named b) batches) (sym none)) refl

  pub waiting_read : (id : ℕ) → Some id ≡ option_map (λ (row : StoredBatch). row.id) (find (is_batch_named b) batches) → Rises record_at place_of (filter (is_waiting_of id) records)
      → (found : Option RecordAt) → IsLeastBy place_of (map record_at (filter (is_waiting_of id) records)) found
      → option_map (λ (r : RecordAt). r.name) found ≡ waiting_in batches records b
  waiting_read id id_is rising found least =
      let row = found_some (λ (row : StoredBatch). row.id) (find (is_batch_named b) batches) id id_is in
      let first : found ≡ option_map record_at (find (is_waiting_of id) records) =
      first_read record_at place_of (filter (is_waiting_of id) records) rising found least ∙ ap (option_map record_at) (first_passing (is_waiting_of id) records) in
      let as_read : option_map (λ (r : RecordAt). r.name) found ≡ option_map (λ (x : StoredRecord). x.name) (find (is_waiting_of id) records) =
      ap (option_map (λ (r : RecordAt). r.name)) first ∙ option_map-map (λ (r : RecordAt). r.name) record_at (find (is_waiting_of id) records) in
      rw row.1 (subst (λ k. option_map (λ (r : RecordAt). r.name) found ≡ option_map (λ (x : StoredRecord). x.name) (find (is_waiting_of k) records)) row.2 as_read)

  pub first_waits : (id : ℕ) → Some id ≡ option_map (λ (row : StoredBatch). row.id) (find (is_batch_named b) batches) → Rises record_at place_of (filter (is_waiting_of id) records)
      → (name : Option (List ℕ)) → (found : Option RecordAt) × IsLeastBy place_of (map record_at (filter (is_waiting_of id) records)) found × (name ≡ option_map (λ (r : RecordAt). r.name) found)
      → name ≡ waiting_in batches records b
  first_waits id id_is rising name first = first.2 ∙ waiting_read id id_is rising first.0 first.1
