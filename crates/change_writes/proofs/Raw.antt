-- A batch that is inserted without its bytes, which are set at the end.
use Rattle.std.proofs.Common.{◌≡◌, ◌==◌, ℕ, false, List, [], ◌∷◌, map, refl, subst}
use Rattle.std.specs.List.{AllByRecursion}
use Rattle.sqlite.specs.Effect.{Database}
use Rattle.store_data.specs.declared.row.Row.{Row}
use Rattle.sql_rows.specs.Image.{IsImage, Moves}
use Rattle.sql_rows.proofs.OneId.{others_differ}
use Rattle.table_rows.specs.After.{batch_rows_after, new_batch}
use Rattle.table_rows.specs.Tables.{StoredBatch, Tables}
use Rattle.row_writes.specs.Raw.{raw_set, with_raw_set}
use Rattle.row_writes.proofs.RawLemmas.{itself, stay}

module _ (id count : ℕ) (name code raw : List ℕ) (rows : List Row) where
  set_last : (bs : List StoredBatch) → AllByRecursion (λ (b : StoredBatch). (b.id == id) ≡ false) bs
      → map (raw_set id raw) (new_batch id name code [] count ∷ bs) ≡ new_batch id name code raw count ∷ bs
  set_last bs differ = rw (itself id, stay id raw bs differ) refl

  -- The bytes of the batch were set, and no other batch has its id. The rows are therefore the same
  -- as if the batch had been inserted with its bytes.
  pub bytes_last : (a b c : Database) → Moves (batch_rows_after id name code [] count rows) a b → Moves (with_raw_set id raw) b c → Moves (batch_rows_after id name code raw count rows) a c
  bytes_last a b c first then t image =
      let bare = first t image in
      let differ = others_differ (new_batch id name code [] count) t.batches b.trees bare.each.1.1.1.0 in
      let whole : Tables = batch_rows_after id name code raw count rows t in
      subst (λ bs. IsImage (record whole { batches = bs }) c) (set_last t.batches differ) (then (batch_rows_after id name code [] count rows t) bare)
