-- A segment of a record, from rows: the product of its batch, the columns of the record's groupings
-- except their bytes, and the bytes of the segment's own groupings.
use Rattle.std.specs.Prelude.{◌==◌, ◌+◌, ◌<◌, ◌^◌, ℕ, List, length, map, filter, find, slice_get, Option, option_and_then, option_map}
use Rattle.std.specs.List.{filter_map}
use Rattle.store_data.specs.declared.row.Product.{Product}
use Rattle.store_data.specs.Cursor.{segment_at}
use Rattle.store_data.specs.Groups.{grouped}
use Rattle.store_data.specs.Ranks.{ranks}
use Rattle.store_data.specs.Sequence.{IsProduct, Plan, plan_of}
use Rattle.job_facts.specs.declared.rows.SegmentRow.{SegmentRow}
use Rattle.job_facts.specs.Facts.{Facts}
use Rattle.job_facts.specs.Rows.{segment_row}
use Rattle.job_facts.specs.States.{product_named}
use Rattle.row_reads.specs.declared.groupings.GroupingAt.{GroupingAt}
use Rattle.image_laws.specs.Image.{stored_groupings}
use Rattle.table_rows.specs.Keys.{is_batch_named, is_grouping_at}
use Rattle.table_rows.specs.Tables.{StoredBatch}
use Rattle.row_laws.specs.RowValues.{row_of}
use Rattle.store_reads.specs.declared.plans.PlacedHead.{PlacedHead}
use Rattle.store_reads.specs.declared.plans.SegmentHead.{SegmentHead}
use Rattle.store_reads.specs.declared.segments.BatchProduct.{BatchProduct}

-- ---- the product of a batch

-- The id is below 2^63, so it is an integer of SQLite, and the product is in its ranges.
pub record IsBatchProduct (e : BatchProduct) : Type 0 where
  pub id : e.id < 2 ^ 63
  pub product : IsProduct e.product

abbrev pub product_under : List Product → StoredBatch → Option BatchProduct
product_under products row = option_map (λ (p : Product). record { id = row.id; product = p }) (product_named products row.product)

-- the id and the product of the batch `b`
abbrev pub product_in : List Product → List StoredBatch → List ℕ → Option BatchProduct
product_in products batches b = option_and_then (product_under products) (find (is_batch_named b) batches)

-- ---- the plan of a record

-- the plan of the record `r` at position `place` of the batch in `e`
abbrev pub plan_at : Facts → BatchProduct → ℕ → List ℕ → Plan
plan_at f e place r = plan_of e.product (map (row_of r) (filter (is_grouping_at e.id place) (stored_groupings f)))

-- segment `q` of application `a` of `plan`
abbrev pub row_in_plan : Plan → ℕ → ℕ → Option SegmentRow
row_in_plan plan a q = option_map (segment_row plan) (segment_at plan a q)

-- ---- a segment without its bytes

-- the segment with the rank `r`, and with the encryption and tolerance of the grouping `g`
abbrev pub head_with : ℕ → GroupingAt → SegmentHead
head_with r g = record { aid = g.aid; rank = r; enc = g.enc; tol = g.tol }

-- the segment with the rank `r` of an application with the groupings `own`, with the encryption and
-- tolerance of the first grouping with this rank
abbrev pub head_of_rank : List GroupingAt → ℕ → Option SegmentHead
head_of_rank own r = option_map (head_with r) (find (λ (g : GroupingAt). g.rank == r) own)

-- the segments of an application with the groupings `own`, in ascending order of their ranks
abbrev pub heads_in : List GroupingAt → List SegmentHead
heads_in own = filter_map (head_of_rank own) ranks

-- the segments of a record with the groupings `gs`, in one list for each application; the
-- applications are in the order of their first groupings
abbrev pub heads_of : List GroupingAt → List (List SegmentHead)
heads_of gs = map heads_in (grouped (λ (g : GroupingAt). g.aid) gs)

-- segment `q` of an application with the segments `own`
abbrev pub placed_head : List SegmentHead → ℕ → Option PlacedHead
placed_head own q = option_map (λ (h : SegmentHead). record { head = h; last = q + 1 == length own }) (slice_get own q)

-- segment `q` of application `a` of a record with the segments `heads`
abbrev pub head_at : List (List SegmentHead) → ℕ → ℕ → Option PlacedHead
head_at heads a q = option_and_then (λ own. placed_head own q) (slice_get heads a)
