-- The rows of the records of a batch in file order, and its first waiting record.
use Rattle.std.proofs.Common.{◌≡◌, ℕ, ◌+◌, ◌<◌, ◌==◌, Bool, true, false, ◌&&◌, List, get_or, map, All, Option, Some, None, refl, sym, ap, ◌∙◌, arith}
use Rattle.std.specs.Prelude.{AllPairs, filter, find, option_and_then, option_map}
use Rattle.std.specs.List.{enumerate_from, position_or_len}
use Rattle.std.proofs.lemmas.Bool.{and_left, and_parts, eqb-true}
use Rattle.std.proofs.lemmas.List.Elements.{All-map, filter_passes}
use Rattle.std.proofs.lemmas.List.Kept.{AllPairs-filter}
use Rattle.job_facts.specs.Facts.{Batch, Facts}
use Rattle.job_facts.specs.States.{batch_named, first_waiting, is_waiting, record_state, records_named, records_under}
use Rattle.table_rows.specs.Keys.{is_record_of, is_waiting_of}
use Rattle.table_rows.specs.Tables.{StoredBatch, StoredRecord}
use Rattle.image_laws.specs.Image.{batch_id, batches_by_id, placed_records, records_in, stored_batch, stored_batches, stored_record, stored_records}
use Rattle.row_laws.specs.RowValues.{waiting_in}
use Rattle.row_laws.proofs.BatchRows.{batch_at, named_row, own_name}
use Rattle.row_laws.proofs.Finding.{AllPairs-joined, AllPairs-map, filter_all, find-map, found_joined, found_numbered, kept_joined, number_once, numbers_rise, option_map-map}
use Rattle.row_laws.proofs.RecordRows.{equal_self, names_are}

module _ (f : Facts) where
  -- ---- file order

  -- The rows of one batch are in ascending order of `place`.
  abbrev InOrder : StoredRecord → StoredRecord → Type 0
  InOrder x y = x.batch ≡ y.batch → x.place < y.place

  records_ordered : AllPairs InOrder (stored_records f)
  unfolding stored_records
  records_ordered = AllPairs-joined InOrder (λ (d e : ℕ × Batch). d.0 < e.0) (records_in f)
      (λ e. AllPairs-map InOrder (stored_record f e) (placed_records f e) (λ i j d before within same. numbers_rise 0 _ i j d before within))
      (λ d e before. All-map (λ (x : StoredRecord). All (InOrder x) (records_in f e)) (stored_record f d) (placed_records f d)
      (λ k r within. All-map (InOrder (stored_record f d (get_or (placed_records f d) k r))) (stored_record f e) (placed_records f e) (λ i s inside same. absurd (omega (arith, before, same)))))
      (batches_by_id f) (numbers_rise 1 f.batches)

  pub rising_of : (p : StoredRecord → Bool) (id : ℕ) → ((x : StoredRecord) → p x ≡ true → x.batch ≡ id) → AllPairs (λ (x y : StoredRecord). x.place < y.place) (filter p (stored_records f))
  rising_of p id of_batch i j d before within =
      let rows : List StoredRecord = filter p (stored_records f) in
      let first : (get_or rows i d).batch ≡ id = of_batch (get_or rows i d) (filter_passes p (stored_records f) i d (omega arith)) in
      let second : (get_or rows j d).batch ≡ id = of_batch (get_or rows j d) (filter_passes p (stored_records f) j d within) in
      AllPairs-filter InOrder p (stored_records f) records_ordered i j d before within (first ∙ sym second)

  pub records_rise : (id : ℕ) → AllPairs (λ (x y : StoredRecord). x.place < y.place) (filter (is_record_of id) (stored_records f))
  records_rise id = rising_of (is_record_of id) id (λ x hit. eqb-true x.batch id hit)

  pub waiting_rise : (id : ℕ) → AllPairs (λ (x y : StoredRecord). x.place < y.place) (filter (is_waiting_of id) (stored_records f))
  waiting_rise id = rising_of (is_waiting_of id) id (λ x hit. eqb-true x.batch id (and_parts (x.batch == id) (is_waiting x.state) hit).0)

  -- ---- the rows of a batch

  others_of : (id : ℕ) (e : ℕ × Batch) → (e.0 == id) ≡ false → All (λ (r : StoredRecord). is_record_of id r ≡ false) (records_in f e)
  others_of id e miss = All-map (λ (r : StoredRecord). is_record_of id r ≡ false) (stored_record f e) (placed_records f e) (λ k d within. miss)

  pub rows_of_batch : (b : List ℕ) (batch : Batch) → batch_named f.batches b ≡ Some batch
      → filter (is_record_of (batch_id f.batches b)) (stored_records f) ≡ map (stored_record f (batch_id f.batches b, batch)) (enumerate_from 0 (records_named f b))
  unfolding stored_records
  rows_of_batch b batch there =
      let id : ℕ = batch_id f.batches b in
      kept_joined (is_record_of id) (λ (e : ℕ × Batch). e.0 == id) (records_in f) (others_of id) (batches_by_id f) (id, batch) (number_once id 1 f.batches) (batch_at f b batch there)
      ∙ filter_all (is_record_of id) (records_in f (id, batch))
      (All-map (λ (r : StoredRecord). is_record_of id r ≡ true) (stored_record f (id, batch)) (placed_records f (id, batch)) (λ k d within. equal_self id))
      ∙ ap (λ names. map (stored_record f (id, batch)) (enumerate_from 0 names)) (names_are f b batch there)

  -- ---- the first waiting record

  others_waiting : (id : ℕ) (e : ℕ × Batch) → (e.0 == id) ≡ false → All (λ (r : StoredRecord). is_waiting_of id r ≡ false) (records_in f e)
  others_waiting id e miss = All-map (λ (r : StoredRecord). is_waiting_of id r ≡ false) (stored_record f e) (placed_records f e) (λ k d within. and_left (e.0 == id) _ miss)

  waiting_row : (b : List ℕ) (batch : Batch) → batch_named f.batches b ≡ Some batch
      → option_map (λ (r : StoredRecord). r.name) (find (is_waiting_of (batch_id f.batches b)) (stored_records f)) ≡ find (λ r. is_waiting (record_state f b r)) (records_named f b)
  unfolding stored_records
  waiting_row b batch there =
      let id : ℕ = batch_id f.batches b in
      let e : ℕ × Batch = (id, batch) in
      let name : StoredRecord → List ℕ = λ r. r.name in
      let waits : List ℕ → Bool = λ r. is_waiting (record_state f batch.name r) in
      ap (option_map name) (found_joined (is_waiting_of id) (λ (d : ℕ × Batch). d.0 == id) (records_in f) (others_waiting id) (batches_by_id f) e (number_once id 1 f.batches) (batch_at f b batch there))
      ∙ ap (option_map name) (find-map (is_waiting_of id) (stored_record f e) (placed_records f e))
      ∙ option_map-map name (stored_record f e) (find (λ (r : ℕ × List ℕ). (id == id) && waits r.1) (placed_records f e))
      ∙ ap (λ t. option_map (λ (r : ℕ × List ℕ). r.1) (find (λ (r : ℕ × List ℕ). t && waits r.1) (placed_records f e))) (equal_self id)
      ∙ ap (λ names. option_map (λ (r : ℕ × List ℕ). r.1) (find (λ (r : ℕ × List ℕ). waits r.1) (enumerate_from 0 names))) (names_are f b batch there)
      ∙ ap (option_map (λ (r : ℕ × List ℕ). r.1)) (found_numbered waits 0 (records_named f b))
      ∙ alone (0 + position_or_len waits (records_named f b)) (find waits (records_named f b))
      ∙ ap (λ m. find (λ r. is_waiting (record_state f m r)) (records_named f b)) (own_name f b batch there)
    where
      alone : (k : ℕ) (o : Option (List ℕ)) → option_map (λ (r : ℕ × List ℕ). r.1) (option_map (λ r. (k, r)) o) ≡ o
      alone k None = refl
      alone k (Some r) = refl

  pub waiting_in_rows : (b : List ℕ) → first_waiting f b ≡ waiting_in (stored_batches f) (stored_records f) b
  unfolding first_waiting
  waiting_in_rows b = by_batch (batch_named f.batches b) refl
    where
      after : StoredBatch → Option (List ℕ)
      after row = option_map (λ (r : StoredRecord). r.name) (find (is_waiting_of row.id) (stored_records f))

      by_batch : (o : Option Batch) → batch_named f.batches b ≡ o → find (λ r. is_waiting (record_state f b r)) (records_named f b) ≡ waiting_in (stored_batches f) (stored_records f) b
      by_batch None is =
          ap (λ o. find (λ r. is_waiting (record_state f b r)) (records_under f.products o)) is
          ∙ sym (ap (option_and_then after) (named_row f b ∙ ap (option_map (λ (c : Batch). stored_batch f (batch_id f.batches b, c))) is))
      by_batch (Some batch) is =
          sym (ap (option_and_then after) (named_row f b ∙ ap (option_map (λ (c : Batch). stored_batch f (batch_id f.batches b, c))) is) ∙ waiting_row b batch is)
