-- The effect of each INSERT of a whole row on the rows.
use Rattle.std.proofs.Common.{◌≡◌, ℕ, List, [], ◌∷◌, drop, map, false, IsTrue, Ok, Err, Result, refl, subst}
use Rattle.sqlite.specs.declared.types.Value.TheVariants.{Blob, Null, Text}
use Rattle.sqlite.specs.Order.{Row}
use Rattle.sqlite.specs.Held.{Held, state}
use Rattle.sqlite.specs.State.{Executes, ExecutesInside, State}
use Rattle.sqlite.specs.Store.{Ghosts}
use Rattle.sqlite.specs.declared.error.Error.{Error}
use Rattle.sql_base.specs.Ends.{Wrote}
use Rattle.sql_base.proofs.Ending.{wrote}
use Rattle.sql_base.proofs.Values.{cast_int, cast_null}
use Rattle.sql_tables.specs.Tables.{batch_table, lot_table, record_table, session_table}
use Rattle.table_rows.specs.Tables.{StoredBatch, StoredLot, StoredRecord, StoredSession, Tables, with_batch, with_lot, with_record, with_session}
use Rattle.sql_rows.specs.Encoding.{batch_row, flag, lot_row, number, record_row, session_code, session_row}
use Rattle.sql_rows.specs.Image.{Moves, by_rowid, unnumbered}
use Rattle.sql_rows.proofs.Filling.{row_put_under, rows_put}
use Rattle.row_writes.proofs.Adding.{added}
use Rattle.remaking.specs.PutTexts.{put_batch_terms, put_batch_text, put_lot_terms, put_lot_text, put_record_terms, put_record_text, put_session_terms, put_session_text}
use Rattle.remaking.proofs.PutMeanings.{puts_mean}

-- A row that the program stores in parts is inserted as the row that consists of these parts.
module _ {S : Type 0} (g : Ghosts S) {X : Type 0} (with_row : X → Tables → Tables) (old new : Held S) (x y : X) (is : x ≡ y) (sql : List ℕ) (params : Row) (e : Error) where
  pub row_put_in : ((count : ℕ) → Executes sql params (state g old) (state g new) (Ok count) → Moves (with_row x) (state g old).now (state g new).now) → (r : Result ℕ Error)
      → (old.in_transaction ≡ false → (r ≡ Err e) × (new ≡ old)) → (IsTrue old.in_transaction → ExecutesInside 0 sql params (state g old) (state g new) r)
      → Wrote (Moves (with_row y)) (state g old) (state g new) r
  row_put_in moves r ended runs = subst (λ z. Wrote (Moves (with_row z)) (state g old) (state g new) r) is (wrote g (Moves (with_row x)) old new sql params e moves r ended runs)

pub lot_put : (old new : State) (l : StoredLot) (count : ℕ) → Executes put_lot_text (lot_row l) old new (Ok count) → Moves (with_lot l) old.now new.now
lot_put old new l count ran t image =
    let rows = map lot_row t.lots in
    added put_lot_text (lot_row l) 2 lot_table put_lot_terms 6 puts_mean.lots refl refl refl ((Null ∷ lot_row l) ∷ []) refl (simp (cast_int, cast_null))
    old new count ran t (with_lot l t) (unnumbered lot_table rows) (unnumbered lot_table (lot_row l ∷ rows)) refl refl refl refl refl refl
    (rows_put lot_table (lot_row l ∷ []) rows old new) image

abbrev pub batch_values : StoredBatch → Row
batch_values b =
    number b.id ∷ Text b.name ∷ Text b.product ∷ Blob b.raw ∷ number (flag b.closed) ∷ number b.waiting ∷ number b.running
    ∷ number b.failed ∷ number b.withdrawn ∷ number b.good ∷ number b.sessions ∷ number b.spoiled ∷ []

pub batch_put : (old new : State) (b : StoredBatch) (count : ℕ) → Executes put_batch_text (batch_values b) old new (Ok count) → Moves (with_batch b) old.now new.now
batch_put old new b count ran t image =
    let rows = map batch_row t.batches in
    added put_batch_text (batch_values b) 3 batch_table put_batch_terms 13 puts_mean.batches refl refl refl (batch_row b ∷ []) refl (simp (cast_int, cast_null))
    old new count ran t (with_batch b t) (by_rowid batch_table rows) (by_rowid batch_table (batch_row b ∷ rows)) refl refl refl refl refl refl
    (row_put_under batch_table b.id (drop 1 (batch_row b)) rows old new) image

abbrev pub session_values : StoredSession → Row
session_values s =
    number s.id ∷ Text s.machine ∷ number s.batch ∷ number s.place ∷ number s.serial ∷ number (session_code s.state) ∷ number (flag s.ended)
    ∷ number s.words ∷ number s.cursor.app ∷ number s.cursor.segment ∷ number s.cursor.offset ∷ number s.cursor.block ∷ []

pub session_put : (old new : State) (s : StoredSession) (count : ℕ) → Executes put_session_text (session_values s) old new (Ok count) → Moves (with_session s) old.now new.now
session_put old new s count ran t image =
    let rows = map session_row t.sessions in
    added put_session_text (session_values s) 6 session_table put_session_terms 13 puts_mean.sessions refl refl refl (session_row s ∷ []) refl (simp (cast_int, cast_null))
    old new count ran t (with_session s t) (by_rowid session_table rows) (by_rowid session_table (session_row s ∷ rows)) refl refl refl refl refl refl
    (row_put_under session_table s.id (drop 1 (session_row s)) rows old new) image

pub record_put : (old new : State) (r : StoredRecord) (count : ℕ) → Executes put_record_text (record_row r) old new (Ok count) → Moves (with_record r) old.now new.now
record_put old new r count ran t image =
    let rows = map record_row t.records in
    added put_record_text (record_row r) 4 record_table put_record_terms 7 puts_mean.records refl refl refl ((Null ∷ record_row r) ∷ []) refl (simp (cast_int, cast_null))
    old new count ran t (with_record r t) (unnumbered record_table rows) (unnumbered record_table (record_row r ∷ rows)) refl refl refl refl refl refl
    (rows_put record_table (record_row r ∷ []) rows old new) image
