-- The effect of the INSERT of a batch on the rows.
use Rattle.std.proofs.Common.{ℕ, List, [], ◌∷◌, drop, map, Ok, refl}
use Rattle.sqlite.specs.declared.types.Value.TheVariants.{Blob, Text}
use Rattle.sqlite.specs.Order.{Row}
use Rattle.sqlite.specs.State.{Executes, State}
use Rattle.sql_base.proofs.Values.{cast_int, cast_null}
use Rattle.sql_tables.specs.Tables.{batch_table}
use Rattle.table_rows.specs.After.{new_batch}
use Rattle.table_rows.specs.Tables.{with_batch}
use Rattle.sql_rows.specs.Encoding.{batch_row, number}
use Rattle.sql_rows.specs.Image.{Moves, by_rowid}
use Rattle.sql_rows.proofs.Filling.{row_put_under}
use Rattle.row_writes.specs.BatchTexts.{add_batch_terms, add_batch_text}
use Rattle.row_writes.proofs.Adding.{added}
use Rattle.row_writes.proofs.Meanings.{adds_mean}

module _ (id : ℕ) (name product raw : List ℕ) (records : ℕ) where
  abbrev pub batch_values : Row
  batch_values = number id ∷ Text name ∷ Text product ∷ Blob raw ∷ number records ∷ []

  abbrev put : Row
  put = batch_row (new_batch id name product raw records)

  pub batch_added : (old new : State) (count : ℕ) → Executes add_batch_text batch_values old new (Ok count) → Moves (with_batch (new_batch id name product raw records)) old.now new.now
  batch_added old new count ran t image =
      let rows = map batch_row t.batches in
      added add_batch_text batch_values 3 batch_table add_batch_terms 13 adds_mean.batches refl refl refl (put ∷ []) refl (simp (cast_int, cast_null)) old new count ran t (with_batch (new_batch id name product raw records) t)
      (by_rowid batch_table rows) (by_rowid batch_table (put ∷ rows)) refl refl refl refl refl refl (row_put_under batch_table id (drop 1 put) rows old new) image
