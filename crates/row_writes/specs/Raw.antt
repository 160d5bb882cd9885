-- The bytes of a batch, which are set after its records are inserted.
use Rattle.std.specs.Prelude.{◌==◌, ℕ, if◌then◌else◌, List, map}
use Rattle.table_rows.specs.Tables.{StoredBatch, Tables}

-- the batch, with the bytes `raw` if its id is `id`
abbrev pub raw_set : ℕ → List ℕ → StoredBatch → StoredBatch
raw_set id raw b = if b.id == id then record b { raw = raw } else b

abbrev pub with_raw_set : ℕ → List ℕ → Tables → Tables
with_raw_set id raw t = record t { batches = map (raw_set id raw) t.batches }
