-- The rows of `grouping2` for a record, read back as rows of its batch file, and its plan.
use Rattle.std.proofs.Common.{◌≡◌, ℕ, ◌<◌, ◌==◌, Bool, true, false, ◌&&◌, List, [], get_or, length, map, All, Option, Some, None, inl, inr, refl, sym, ap, ◌∙◌, subst, arith}
use Rattle.std.specs.Prelude.{AllPairs, bytes_eq, filter, find, option_and_then, option_map, slice_get}
use Rattle.std.specs.List.{enumerate_from, list_any}
use Rattle.std.proofs.lemmas.Bool.{and_left, and_parts, both_ways, cases_Bool, cond-false, cond-true, eqb-true, ne_eqb}
use Rattle.std.proofs.lemmas.List.{length-map}
use Rattle.std.proofs.lemmas.List.Elements.{All-map, filter_passes}
use Rattle.std.proofs.lemmas.List.Folds.{list_any_at}
use Rattle.std.proofs.lemmas.List.FromFn.{length-enumerate_from}
use Rattle.std.proofs.lemmas.List.Kept.{AllPairs-filter}
use Rattle.std.proofs.lemmas.Option.{same_Some}
use Rattle.std.proofs.lemmas.Simd.{map-map}
use Rattle.store_data.specs.declared.row.Product.{Product}
use Rattle.store_data.specs.declared.row.Row.{Row}
use Rattle.store_data.specs.Sequence.{Plan, plan_of}
use Rattle.store_data.proofs.FaultLemmas.{list_any-map}
use Rattle.store_data.proofs.GroupLemmas.{bytes_eq-same, list_any-first_appearances, same-bytes_eq, with_the_key-none}
use Rattle.store_data.proofs.SummaryLemmas.{filter-map}
use Rattle.job_facts.specs.Facts.{Batch, Facts}
use Rattle.job_facts.specs.Sound.{IsRecord}
use Rattle.job_facts.specs.States.{batch_named, plan_for, product_named, records_named, records_of, rows_of, rows_of_record}
use Rattle.job_facts.proofs.Lists.{map_same}
use Rattle.table_rows.specs.Keys.{is_grouping_at, is_grouping_of, is_record_named}
use Rattle.table_rows.specs.Tables.{StoredBatch, StoredGrouping, StoredRecord}
use Rattle.table_rows.proofs.Found.{filter_alike}
use Rattle.image_laws.specs.Image.{batch_id, batches_by_id, groupings_in, place_in, stored_batch, stored_batches, stored_grouping, stored_groupings, stored_record, stored_records}
use Rattle.image_laws.proofs.Lists.{All-numbered}
use Rattle.row_laws.specs.RowValues.{groupings_for, plan_in, row_of}
use Rattle.row_laws.proofs.BatchRows.{batch_at, named_row}
use Rattle.row_laws.proofs.Finding.{AllPairs-joined, AllPairs-map, filter_all, kept_joined, kept_numbered, number_once, numbers_rise}
use Rattle.row_laws.proofs.RecordRows.{equal_self, name_at, name_row, names_are}

-- ---- names and their places

names_in_rows : (products : List Product) (b : Batch) (r : List ℕ) → list_any (bytes_eq r) (records_of products b) ≡ list_any (bytes_eq r) (map (λ (row : Row). row.rec) (rows_of products b))
unfolding records_of
names_in_rows products b r = list_any-first_appearances r [] (map (λ (row : Row). row.rec) (rows_of products b))

rows_named : (products : List Product) (b : Batch) → All (λ (row : Row). list_any (bytes_eq row.rec) (records_of products b) ≡ true) (rows_of products b)
rows_named products b k d within =
    let row : Row = get_or (rows_of products b) k d in
    names_in_rows products b row.rec ∙ list_any-map (bytes_eq row.rec) (λ (other : Row). other.rec) (rows_of products b)
    ∙ list_any_at (λ (other : Row). bytes_eq row.rec other.rec) (rows_of products b) k d within (bytes_eq-same row.rec)

pub place_alike : (names : List (List ℕ)) (m n : List ℕ) → list_any (bytes_eq m) names ≡ true → list_any (bytes_eq n) names ≡ true → (place_in names m == place_in names n) ≡ bytes_eq m n
place_alike names m n at_m at_n = elim (cases_Bool (bytes_eq m n)) [
  | inl same ↦ ap (λ k. place_in names m == place_in names k) (sym (same-bytes_eq m n same)) ∙ equal_self (place_in names m) ∙ sym same
  | inr differ ↦
      ne_eqb (place_in names m) (place_in names n) (λ e.
      let same : m ≡ n = same_Some m n (sym (name_at m names at_m) ∙ ap (slice_get names) e ∙ name_at n names at_n) in
      both_ways (bytes_eq m n) differ (ap (bytes_eq m) (sym same) ∙ bytes_eq-same m)) ∙ sym differ
]

module _ (f : Facts) where
  -- ---- file order

  -- The rows of one batch are in ascending order of `line`.
  abbrev InOrder : StoredGrouping → StoredGrouping → Type 0
  InOrder x y = x.batch ≡ y.batch → x.line < y.line

  groupings_ordered : AllPairs InOrder (stored_groupings f)
  unfolding stored_groupings
  groupings_ordered = AllPairs-joined InOrder (λ (d e : ℕ × Batch). d.0 < e.0) (groupings_in f)
      (λ e. AllPairs-map InOrder (stored_grouping f e) (enumerate_from 2 (rows_of f.products e.1)) (λ i j d before within same. numbers_rise 2 _ i j d before within))
      (λ d e before. All-map (λ (x : StoredGrouping). All (InOrder x) (groupings_in f e)) (stored_grouping f d) (enumerate_from 2 (rows_of f.products d.1))
      (λ k r within. All-map (InOrder (stored_grouping f d (get_or (enumerate_from 2 (rows_of f.products d.1)) k r))) (stored_grouping f e) (enumerate_from 2 (rows_of f.products e.1))
      (λ i s inside same. absurd (omega (arith, before, same)))))
      (batches_by_id f) (numbers_rise 1 f.batches)

  pub groupings_rise : (id place : ℕ) → AllPairs (λ (x y : StoredGrouping). x.line < y.line) (filter (is_grouping_at id place) (stored_groupings f))
  groupings_rise id place i j d before within =
      let p : StoredGrouping → Bool = is_grouping_at id place in
      let rows : List StoredGrouping = filter p (stored_groupings f) in
      let of_batch : (x : StoredGrouping) → p x ≡ true → x.batch ≡ id = λ x hit. eqb-true x.batch id (and_parts (x.batch == id) (x.place == place) hit).0 in
      let first : (get_or rows i d).batch ≡ id = of_batch (get_or rows i d) (filter_passes p (stored_groupings f) i d (omega arith)) in
      let second : (get_or rows j d).batch ≡ id = of_batch (get_or rows j d) (filter_passes p (stored_groupings f) j d within) in
      AllPairs-filter InOrder p (stored_groupings f) groupings_ordered i j d before within (first ∙ sym second)

  -- ---- the rows of a record

  others_at : (id place : ℕ) (e : ℕ × Batch) → (e.0 == id) ≡ false → All (λ (g : StoredGrouping). is_grouping_at id place g ≡ false) (groupings_in f e)
  others_at id place e miss =
      All-map (λ (g : StoredGrouping). is_grouping_at id place g ≡ false) (stored_grouping f e) (enumerate_from 2 (rows_of f.products e.1)) (λ k d within. and_left (e.0 == id) _ miss)

  kept_in : (id : ℕ) (batch : Batch) (r : List ℕ) → list_any (bytes_eq r) (records_of f.products batch) ≡ true
      → filter (is_grouping_at id (place_in (records_of f.products batch) r)) (groupings_in f (id, batch))
      ≡ map (stored_grouping f (id, batch)) (filter (λ (e : ℕ × Row). bytes_eq e.1.rec r) (enumerate_from 2 (rows_of f.products batch)))
  kept_in id batch r among =
      let rows : List Row = rows_of f.products batch in
      let names : List (List ℕ) = records_of f.products batch in
      let each : All (λ (row : Row). ((id == id) && (place_in names row.rec == place_in names r)) ≡ bytes_eq row.rec r) rows =
      λ k d within. ap (λ t. t && (place_in names (get_or rows k d).rec == place_in names r)) (equal_self id)
      ∙ place_alike names (get_or rows k d).rec r (rows_named f.products batch k d within) among in
      filter-map (is_grouping_at id (place_in names r)) (stored_grouping f (id, batch)) (enumerate_from 2 rows)
      ∙ ap (map (stored_grouping f (id, batch)))
      (filter_alike (λ (e : ℕ × Row). (id == id) && (place_in names e.1.rec == place_in names r)) (λ (e : ℕ × Row). bytes_eq e.1.rec r) (enumerate_from 2 rows)
      (All-numbered (λ (row : Row). ((id == id) && (place_in names row.rec == place_in names r)) ≡ bytes_eq row.rec r) 2 rows each))

  pub rows_for : (b r : List ℕ) (batch : Batch) → batch_named f.batches b ≡ Some batch → IsRecord f b r
      → filter (is_grouping_at (batch_id f.batches b) (place_in (records_named f b) r)) (stored_groupings f)
      ≡ map (stored_grouping f (batch_id f.batches b, batch)) (filter (λ (e : ℕ × Row). bytes_eq e.1.rec r) (enumerate_from 2 (rows_of f.products batch)))
  unfolding stored_groupings
  rows_for b r batch there among =
      let id : ℕ = batch_id f.batches b in
      let place : ℕ = place_in (records_named f b) r in
      kept_joined (is_grouping_at id place) (λ (e : ℕ × Batch). e.0 == id) (groupings_in f) (others_at id place) (batches_by_id f) (id, batch) (number_once id 1 f.batches) (batch_at f b batch there)
      ∙ subst (λ names. list_any (bytes_eq r) names ≡ true → filter (is_grouping_at id (place_in names r)) (groupings_in f (id, batch))
      ≡ map (stored_grouping f (id, batch)) (filter (λ (e : ℕ × Row). bytes_eq e.1.rec r) (enumerate_from 2 (rows_of f.products batch))))
      (names_are f b batch there) (kept_in id batch r) among

  pub rows_read : (b r : List ℕ) (batch : Batch) → batch_named f.batches b ≡ Some batch → IsRecord f b r
      → map (row_of r) (filter (is_grouping_at (batch_id f.batches b) (place_in (records_named f b) r)) (stored_groupings f)) ≡ rows_of_record (rows_of f.products batch) r
  rows_read b r batch there among =
      let e : ℕ × Batch = (batch_id f.batches b, batch) in
      let mine : ℕ × Row → Bool = λ row. bytes_eq row.1.rec r in
      let kept : List (ℕ × Row) = filter mine (enumerate_from 2 (rows_of f.products batch)) in
      let own : All (λ (row : ℕ × Row). row_of r (stored_grouping f e row) ≡ row.1) kept =
      λ k d within. ap (λ n. let row : Row = record (get_or kept k d).1 { rec = n } in row)
      (sym (same-bytes_eq (get_or kept k d).1.rec r (filter_passes mine (enumerate_from 2 (rows_of f.products batch)) k d within))) in
      ap (map (row_of r)) (rows_for b r batch there among)
      ∙ map-map (row_of r) (stored_grouping f e) kept
      ∙ map_same (λ row. row_of r (stored_grouping f e row)) (λ (row : ℕ × Row). row.1) kept own
      ∙ kept_numbered (λ (row : Row). bytes_eq row.rec r) 2 (rows_of f.products batch)

  -- ---- the rows of a batch

  others_of : (id : ℕ) (e : ℕ × Batch) → (e.0 == id) ≡ false → All (λ (g : StoredGrouping). is_grouping_of id g ≡ false) (groupings_in f e)
  others_of id e miss = All-map (λ (g : StoredGrouping). is_grouping_of id g ≡ false) (stored_grouping f e) (enumerate_from 2 (rows_of f.products e.1)) (λ k d within. miss)

  pub count_of_batch : (b : List ℕ) (batch : Batch) → batch_named f.batches b ≡ Some batch
      → length (filter (is_grouping_of (batch_id f.batches b)) (stored_groupings f)) ≡ length (rows_of f.products batch)
  unfolding stored_groupings
  count_of_batch b batch there =
      let id : ℕ = batch_id f.batches b in
      let rows : List Row = rows_of f.products batch in
      ap length (kept_joined (is_grouping_of id) (λ (e : ℕ × Batch). e.0 == id) (groupings_in f) (others_of id) (batches_by_id f) (id, batch) (number_once id 1 f.batches) (batch_at f b batch there)
      ∙ filter_all (is_grouping_of id) (groupings_in f (id, batch))
      (All-map (λ (g : StoredGrouping). is_grouping_of id g ≡ true) (stored_grouping f (id, batch)) (enumerate_from 2 rows) (λ k d within. equal_self id)))
      ∙ length-map (enumerate_from 2 rows) (stored_grouping f (id, batch)) ∙ length-enumerate_from 2 rows

  -- ---- plans

  plan_rows : (b r : List ℕ) (batch : Batch) → batch_named f.batches b ≡ Some batch
      → map (row_of r) (groupings_for (stored_groupings f) (find (is_record_named (batch_id f.batches b) r) (stored_records f))) ≡ rows_of_record (rows_of f.products batch) r
  plan_rows b r batch there =
      let names : List (List ℕ) = records_named f b in
      let row : StoredRecord = stored_record f (batch_id f.batches b, batch) (place_in names r, r) in
      elim (cases_Bool (list_any (bytes_eq r) names)) [
        | inl among ↦
            ap (λ o. map (row_of r) (groupings_for (stored_groupings f) o)) (name_row f b r batch there ∙ cond-true (list_any (bytes_eq r) names) (Some row) None among)
            ∙ rows_read b r batch there among
        | inr other ↦
            ap (λ o. map (row_of r) (groupings_for (stored_groupings f) o)) (name_row f b r batch there ∙ cond-false (list_any (bytes_eq r) names) (Some row) None other)
            ∙ sym (with_the_key-none (λ (x : Row). x.rec) (rows_of f.products batch) r
            (sym (names_in_rows f.products batch r) ∙ ap (list_any (bytes_eq r)) (names_are f b batch there) ∙ other))
      ]

  pub plan_in_rows : (b r : List ℕ) → plan_for f b r ≡ plan_in f.products (stored_batches f) (stored_records f) (stored_groupings f) b r
  unfolding plan_for
  plan_in_rows b r = by_batch (batch_named f.batches b) refl
    where
      after : StoredBatch → Option Plan
      after row =
          option_map (λ (p : Product). plan_of p (map (row_of r) (groupings_for (stored_groupings f) (find (is_record_named row.id r) (stored_records f))))) (product_named f.products row.product)

      whole : Batch → Option Plan
      whole batch = option_map (λ (p : Product). plan_of p (rows_of_record (rows_of f.products batch) r)) (product_named f.products batch.product)

      by_batch : (o : Option Batch) → batch_named f.batches b ≡ o
          → option_and_then whole (batch_named f.batches b) ≡ plan_in f.products (stored_batches f) (stored_records f) (stored_groupings f) b r
      by_batch None is = ap (option_and_then whole) is ∙ sym (ap (option_and_then after) (named_row f b ∙ ap (option_map (λ (c : Batch). stored_batch f (batch_id f.batches b, c))) is))
      by_batch (Some batch) is =
          ap (option_and_then whole) is
          ∙ ap (λ rows. option_map (λ (p : Product). plan_of p rows) (product_named f.products batch.product)) (sym (plan_rows b r batch is))
          ∙ sym (ap (option_and_then after) (named_row f b ∙ ap (option_map (λ (c : Batch). stored_batch f (batch_id f.batches b, c))) is))
