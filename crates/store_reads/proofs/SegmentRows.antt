-- Lemmas about the plan of a record, from the rows of its batch and its groupings.
use Rattle.std.proofs.Common.{◌≡◌, ℕ, ◌&&◌, ◌==◌, ◌<◌, Bool, true, false, List, [], map, Option, Some, None, refl, sym, ap, subst, ◌∙◌, arith}
use Rattle.std.specs.Prelude.{bytes_eq, filter, find, option_and_then, option_map}
use Rattle.std.specs.List.{flat_map}
use Rattle.std.proofs.lemmas.Bool.Decides.{nat_tests}
use Rattle.std.proofs.lemmas.List.Folds.{flat_map-map}
use Rattle.std.proofs.lemmas.List.Kept.{AllPairs-filter}
use Rattle.store_data.specs.declared.row.Product.{Product}
use Rattle.store_data.specs.declared.row.Row.{Row}
use Rattle.store_data.specs.Cursor.{segment_at}
use Rattle.store_data.specs.Groups.{grouped}
use Rattle.store_data.specs.Sequence.{Plan, applications_of, plan_of}
use Rattle.job_facts.specs.declared.rows.SegmentRow.{SegmentRow}
use Rattle.job_facts.specs.Facts.{Facts}
use Rattle.job_facts.specs.Rows.{segment_row, segment_row_of}
use Rattle.job_facts.specs.States.{plan_for, product_named}
use Rattle.job_facts.proofs.Lists.{unmapped}
use Rattle.row_reads.specs.declared.batches.BatchAt.{BatchAt}
use Rattle.row_reads.specs.declared.groupings.CodedAt.{CodedAt}
use Rattle.row_reads.specs.declared.groupings.GroupingAt.{GroupingAt}
use Rattle.row_reads.specs.declared.records.RecordAt.{RecordAt}
use Rattle.row_reads.specs.CardDecoding.{coded_at, coded_line, grouping_at, is_of_segment, line_of, record_at}
use Rattle.row_reads.specs.Extremes.{AreSorted}
use Rattle.row_reads.specs.RowValues.{batch_at}
use Rattle.image_laws.specs.Image.{stored_batches, stored_groupings, stored_records}
use Rattle.table_rows.specs.Keys.{is_batch_named, is_grouping_at, is_record_named}
use Rattle.table_rows.specs.Tables.{StoredBatch, StoredGrouping, StoredRecord}
use Rattle.table_rows.proofs.Found.{find_passes}
use Rattle.row_laws.specs.RowValues.{groupings_for, plan_in, row_of}
use Rattle.store_reads.specs.declared.plans.PlacedHead.{PlacedHead}
use Rattle.store_reads.specs.declared.plans.SegmentHead.{SegmentHead}
use Rattle.store_reads.specs.declared.segments.BatchProduct.{BatchProduct}
use Rattle.store_reads.specs.Segments.{head_at, heads_of, plan_at, product_in, product_under, row_in_plan}
use Rattle.store_reads.proofs.Found.{found_some}
use Rattle.store_reads.proofs.Ordered.{Rises, read_in_order}
use Rattle.store_reads.proofs.SegmentHeads.{bytes_of, filter_both, is_under, segment_by_head, with_bytes}

module _ (products : List Product) (batches : List StoredBatch) (b : List ℕ) where
  pub no_product : None ≡ option_map batch_at (find (is_batch_named b) batches) → None ≡ product_in products batches b
  no_product none = rw (unmapped batch_at (find (is_batch_named b) batches) (sym none)) refl

  pub product_read : (h : BatchAt) → Some h ≡ option_map batch_at (find (is_batch_named b) batches) → (found : Option Product) → found ≡ product_named products h.product
      → option_map (λ (p : Product). let e : BatchProduct = record { id = h.id; product = p } in e) found ≡ product_in products batches b
  product_read h h_is found is =
      let row = found_some batch_at (find (is_batch_named b) batches) h h_is in
      ap (option_map (λ (p : Product). let e : BatchProduct = record { id = h.id; product = p } in e)) is
      ∙ ap (λ (k : BatchAt). option_map (λ (p : Product). let e : BatchProduct = record { id = k.id; product = p } in e) (product_named products k.product)) row.2
      ∙ sym (ap (option_and_then (product_under products)) row.1)

both_left : (x y : Bool) → (x && y) ≡ true → x ≡ true
both_left true y both = refl
both_left false y both = both

-- the rows of the record `r` of the batch with the id `id`, if the record exists
abbrev rows_in : Facts → ℕ → List ℕ → Option (List Row)
rows_in f id r =
    option_map (λ (x : StoredRecord). map (row_of r) (filter (is_grouping_at x.batch x.place) (stored_groupings f))) (find (is_record_named id r) (stored_records f))

module _ (f : Facts) (id : ℕ) (r : List ℕ) where
  no_rows : None ≡ option_map record_at (find (is_record_named id r) (stored_records f)) → None ≡ rows_in f id r
  no_rows none = rw (unmapped record_at (find (is_record_named id r) (stored_records f)) (sym none)) refl

  same_batch : (x : StoredRecord) → is_record_named id r x ≡ true → x.batch ≡ id
  same_batch x hit = let first : (x.batch == id) ≡ true = both_left (x.batch == id) (bytes_eq x.name r) hit in grind (arith, nat_tests, first)

  rows_at : (x : RecordAt) → Some x ≡ option_map record_at (find (is_record_named id r) (stored_records f))
      → Some (map (row_of r) (filter (is_grouping_at id x.place) (stored_groupings f))) ≡ rows_in f id r
  rows_at x x_is =
      let row = found_some record_at (find (is_record_named id r) (stored_records f)) x x_is in
      let batch : row.0.batch ≡ id = same_batch row.0 (find_passes (is_record_named id r) (stored_records f) row.0 row.1) in
      let place : x.place ≡ row.0.place = ap (λ (y : RecordAt). y.place) row.2 in
      ap (λ k. Some (map (row_of r) (filter (is_grouping_at id k) (stored_groupings f)))) place
      ∙ ap (λ k. Some (map (row_of r) (filter (is_grouping_at k row.0.place) (stored_groupings f)))) (sym batch)
      ∙ sym (ap (option_map (λ (y : StoredRecord). map (row_of r) (filter (is_grouping_at y.batch y.place) (stored_groupings f)))) row.1)

-- a plan of no rows has no segments
no_segment : (p : Product) (a q : ℕ) → segment_at (plan_of p []) a q ≡ None
unfolding applications_of grouped
no_segment p a q = refl

-- segment `q` of application `a` of a record with the given rows, if the record exists
abbrev segment_under : Product → Option (List Row) → ℕ → ℕ → Option SegmentRow
segment_under p None a q = None
segment_under p (Some rows) a q = option_map (segment_row (plan_of p rows)) (segment_at (plan_of p rows) a q)

module _ (f : Facts) (b r : List ℕ) (a q : ℕ) where
  abbrev own_rows : Option (List Row) → List Row
  own_rows None = []
  own_rows (Some rows) = rows

  rows_same : (o : Option StoredRecord) → map (row_of r) (groupings_for (stored_groupings f) o)
      ≡ own_rows (option_map (λ (x : StoredRecord). map (row_of r) (filter (is_grouping_at x.batch x.place) (stored_groupings f))) o)
  rows_same None = refl
  rows_same (Some x) = refl

  abbrev plan_read : BatchProduct → Plan
  plan_read e = plan_of e.product (own_rows (rows_in f e.id r))

  by_product : (o : Option StoredBatch)
      → option_and_then (λ (row : StoredBatch).
      option_map (λ (p : Product). plan_of p (map (row_of r) (groupings_for (stored_groupings f) (find (is_record_named row.id r) (stored_records f))))) (product_named f.products row.product)) o
      ≡ option_map plan_read (option_and_then (product_under f.products) o)
  by_product None = refl
  by_product (Some row) = under (product_named f.products row.product)
    where
      under : (o : Option Product)
          → option_map (λ (p : Product). plan_of p (map (row_of r) (groupings_for (stored_groupings f) (find (is_record_named row.id r) (stored_records f))))) o
          ≡ option_map plan_read (option_map (λ (p : Product). let e : BatchProduct = record { id = row.id; product = p } in e) o)
      under None = refl
      under (Some p) = ap (λ rows. Some (plan_of p rows)) (rows_same (find (is_record_named row.id r) (stored_records f)))

  segment_by : plan_for f b r ≡ plan_in f.products (stored_batches f) (stored_records f) (stored_groupings f) b r
      → segment_row_of f b r a q ≡ option_and_then (λ (e : BatchProduct). segment_under e.product (rows_in f e.id r) a q) (product_in f.products (stored_batches f) b)
  segment_by law =
      ap (option_and_then (λ (plan : Plan). option_map (segment_row plan) (segment_at plan a q))) (law ∙ by_product (find (is_batch_named b) (stored_batches f)))
      ∙ at (product_in f.products (stored_batches f) b)
    where
      under : (p : Product) (rows : Option (List Row)) → option_map (segment_row (plan_of p (own_rows rows))) (segment_at (plan_of p (own_rows rows)) a q) ≡ segment_under p rows a q
      under p None = ap (option_map (segment_row (plan_of p []))) (no_segment p a q)
      under p (Some rows) = refl

      at : (o : Option BatchProduct) → option_and_then (λ (plan : Plan). option_map (segment_row plan) (segment_at plan a q)) (option_map plan_read o)
          ≡ option_and_then (λ (e : BatchProduct). segment_under e.product (rows_in f e.id r) a q) o
      at None = refl
      at (Some e) = under e.product (rows_in f e.id r)

-- ---- a segment, from rows

module _ (f : Facts) (b r : List ℕ) (a q : ℕ) (law : plan_for f b r ≡ plan_in f.products (stored_batches f) (stored_records f) (stored_groupings f) b r) where
  abbrev under_product : Option BatchProduct → Option SegmentRow
  under_product = option_and_then (λ (e : BatchProduct). segment_under e.product (rows_in f e.id r) a q)

  pub segment_without_product : None ≡ product_in f.products (stored_batches f) b → None ≡ segment_row_of f b r a q
  segment_without_product none = ap under_product none ∙ sym (segment_by f b r a q law)

  module _ (e : BatchProduct) (e_is : Some e ≡ product_in f.products (stored_batches f) b) where
    pub segment_without_record : None ≡ option_map record_at (find (is_record_named e.id r) (stored_records f)) → None ≡ segment_row_of f b r a q
    segment_without_record none = ap (λ rows. segment_under e.product rows a q) (no_rows f e.id r none) ∙ ap under_product e_is ∙ sym (segment_by f b r a q law)

    pub segment_read : (x : RecordAt) → Some x ≡ option_map record_at (find (is_record_named e.id r) (stored_records f)) → (found : Option SegmentRow)
        → found ≡ row_in_plan (plan_at f e x.place r) a q → found ≡ segment_row_of f b r a q
    segment_read x x_is found found_is = found_is ∙ ap (λ o. segment_under e.product o a q) (rows_at f e.id r x x_is) ∙ ap under_product e_is ∙ sym (segment_by f b r a q law)

-- ---- a segment of a record, from its groupings

abbrev pub row_of_head : BatchProduct → PlacedHead → List ℕ → SegmentRow
row_of_head e p bytes = record { aid = p.head.aid; bytes = bytes; enc = p.head.enc; tol = p.head.tol; last = p.last; max = e.product.max; low = e.product.low }

module _ (f : Facts) (e : BatchProduct) (place a q : ℕ) (r : List ℕ) where
  abbrev own : List StoredGrouping
  own = filter (is_grouping_at e.id place) (stored_groupings f)

  -- `heads` are the segments of the groupings.
  abbrev AreHeads : List (List SegmentHead) → Type 0
  AreHeads heads = (gs : List GroupingAt) × AreSorted line_of (map grouping_at own) gs × (heads ≡ heads_of gs)

  heads_are : Rises grouping_at line_of own → (heads : List (List SegmentHead)) → AreHeads heads → heads ≡ heads_of (map grouping_at own)
  heads_are rising heads are = are.2 ∙ ap heads_of (read_in_order grouping_at line_of own rising are.0 are.1)

  bytes_are : Rises grouping_at line_of own → (h : SegmentHead) (cs : List CodedAt) → AreSorted coded_line (map coded_at (filter (is_of_segment e.id place h.aid h.rank) (stored_groupings f))) cs
      → flat_map (λ (g : CodedAt). g.coded) cs ≡ bytes_of (filter (is_under h) own)
  bytes_are rising h cs sorted =
      let those : filter (is_of_segment e.id place h.aid h.rank) (stored_groupings f) ≡ filter (is_under h) own = filter_both (is_grouping_at e.id place) (is_under h) (stored_groupings f) in
      let rises : Rises coded_at coded_line (filter (is_under h) own) = AllPairs-filter (λ (x y : StoredGrouping). x.line < y.line) (is_under h) own rising in
      let as_read : cs ≡ map coded_at (filter (is_under h) own) =
      read_in_order coded_at coded_line (filter (is_under h) own) rises cs (subst (λ xs. AreSorted coded_line (map coded_at xs) cs) those sorted) in
      ap (flat_map (λ (g : CodedAt). g.coded)) as_read ∙ flat_map-map (λ (g : CodedAt). g.coded) coded_at (filter (is_under h) own)

  row_by_head : row_in_plan (plan_at f e place r) a q ≡ option_map (segment_row (plan_at f e place r)) (option_map (with_bytes own) (head_at (heads_of (map grouping_at own)) a q))
  row_by_head = ap (option_map (segment_row (plan_at f e place r))) (segment_by_head r own e.product a q)

  module _ (rising : Rises grouping_at line_of own) (heads : List (List SegmentHead)) (are : AreHeads heads) where
    row_by_heads : (o : Option PlacedHead) → o ≡ head_at heads a q → option_map (segment_row (plan_at f e place r)) (option_map (with_bytes own) o) ≡ row_in_plan (plan_at f e place r) a q
    row_by_heads o is =
        ap (λ p. option_map (segment_row (plan_at f e place r)) (option_map (with_bytes own) p)) (is ∙ ap (λ hs. head_at hs a q) (heads_are rising heads are)) ∙ sym row_by_head

    pub row_without_head : None ≡ head_at heads a q → None ≡ row_in_plan (plan_at f e place r) a q
    row_without_head = row_by_heads None

    pub row_with_head : (p : PlacedHead) → Some p ≡ head_at heads a q
        → (cs : List CodedAt) → AreSorted coded_line (map coded_at (filter (is_of_segment e.id place p.head.aid p.head.rank) (stored_groupings f))) cs
        → Some (row_of_head e p (flat_map (λ (g : CodedAt). g.coded) cs)) ≡ row_in_plan (plan_at f e place r) a q
    row_with_head p is cs coded = ap (λ bytes. Some (row_of_head e p bytes)) (bytes_are rising p.head cs coded) ∙ row_by_heads (Some p) is
