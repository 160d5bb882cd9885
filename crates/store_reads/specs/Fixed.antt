-- The part of the rows that no change modifies: the products, the names of batches and records, the
-- positions of records, and the groupings. Only an import or a new product adds to it.
use Rattle.std.specs.Prelude.{◌==◌, ◌&&◌, ℕ, Bool, true, false, List, map, bytes_eq}
use Rattle.store_data.specs.declared.row.Product.{Product}
use Rattle.job_facts.specs.Sound.{AreNamedOnce}
use Rattle.table_rows.specs.declared.writing.Writing.{Writing}
use Rattle.table_rows.specs.declared.writing.Writing.TheVariants as writing
use Rattle.table_rows.specs.Tables.{PassesOnce, StoredBatch, StoredGrouping, StoredRecord, Tables}

-- the fixed columns of a batch
pub record FixedBatch : Type 0 where
  pub id : ℕ
  pub name : List ℕ
  pub product : List ℕ

-- the fixed columns of a record in the batch with the id `batch`
pub record FixedRecord : Type 0 where
  pub batch : ℕ
  pub place : ℕ
  pub name : List ℕ

-- the fixed part of all rows
pub record Fixed : Type 0 where
  pub products : List Product
  pub batches : List FixedBatch
  pub records : List FixedRecord
  pub groupings : List StoredGrouping

abbrev pub fixed_batch : StoredBatch → FixedBatch
fixed_batch b = record { id = b.id; name = b.name; product = b.product }

abbrev pub fixed_record : StoredRecord → FixedRecord
fixed_record r = record { batch = r.batch; place = r.place; name = r.name }

abbrev pub fixed : Tables → Fixed
fixed t = record { products = t.products; batches = map fixed_batch t.batches; records = map fixed_record t.records; groupings = t.groupings }

-- The `Writing` adds no product and no batch.
abbrev pub leaves_fixed : Writing → Bool
leaves_fixed (writing.AddsProduct p) = false
leaves_fixed (writing.AddsBatch b) = false
leaves_fixed _ = true

-- ---- names

-- `b` has the name `n`.
abbrev pub is_named : List ℕ → FixedBatch → Bool
is_named n b = bytes_eq b.name n

-- `r` is in the batch with the id `id` and has the name `n`.
abbrev pub is_named_in : ℕ → List ℕ → FixedRecord → Bool
is_named_in id n r = (r.batch == id) && bytes_eq r.name n

-- No two products have the same name, no two batches have the same name, and no two records of a
-- batch have the same name.
pub record AreNamedApart (x : Fixed) : Type 0 where
  pub products : AreNamedOnce (map (λ (p : Product). p.code) x.products)
  pub batches : (n : List ℕ) → PassesOnce (is_named n) x.batches
  pub records : (id : ℕ) (n : List ℕ) → PassesOnce (is_named_in id n) x.records
