-- The effect of each UPDATE on the rows.
use Rattle.std.proofs.Common.{◌≡◌, ℕ, ℤ, [], ◌∷◌, map, take, drop, ◌==◌, ◌&&◌, bytes_eq, true, List, Ok, refl, ap, ◌∙◌}
use Rattle.sqlite.specs.declared.types.Value.{Value}
use Rattle.sqlite.specs.declared.types.Value.TheVariants.{Blob, Int, Null, Text}
use Rattle.sqlite.specs.Cast.{cast, cast_row}
use Rattle.sqlite.specs.Kind.TheVariants.{Integer}
use Rattle.sqlite.specs.Order.{Row}
use Rattle.sqlite.specs.State.{Executes, State}
use Rattle.store_data.specs.declared.cursor.Cursor.{Cursor}
use Rattle.job_facts.specs.declared.facts.RecordState.{RecordState}
use Rattle.job_facts.specs.declared.facts.SessionState.{SessionState}
use Rattle.job_facts.specs.declared.facts.SessionState.TheVariants as session
use Rattle.job_facts.specs.declared.rows.BatchTotals.{BatchTotals}
use Rattle.sql_base.proofs.Selecting.{passes, shown}
use Rattle.sql_base.proofs.Tests.{one_test, same_int, same_text, two_tests}
use Rattle.sql_base.proofs.Values.{cast_int, cast_null}
use Rattle.sql_tables.specs.Tables.{batch_table, lot_table, record_table, session_table}
use Rattle.table_rows.specs.Tables.{StoredBatch, StoredLot, StoredRecord, StoredSession, closed_set, end_set, lot_set, record_set, session_set, totals_set, with_closed_set, with_end_set, with_lot_set, with_record_set, with_session_set, with_totals_set}
use Rattle.sql_rows.specs.Encoding.{batch_row, lot_row, number, record_code, record_row, session_code, session_row}
use Rattle.sql_rows.specs.Image.{Moves, by_rowid, filled, unnumbered}
use Rattle.sql_rows.proofs.Changing.{rows_set, unnumbered_set}
use Rattle.sql_rows.proofs.Filling.{refilled}
use Rattle.row_writes.specs.Texts.{by_id, set_session_columns, set_session_text}
use Rattle.row_writes.specs.Raw.{raw_set, with_raw_set}
use Rattle.row_writes.specs.Changes.{by_first_column, by_place, by_second_column, set_closed_columns, set_closed_text, set_end_columns, set_end_text, set_lot_columns, set_lot_text, set_raw_columns, set_raw_text, set_record_columns, set_record_text, set_totals_columns, set_totals_text}
use Rattle.row_writes.proofs.ChangeMeanings.{changes_mean, updates}

-- A row that is put back keeps its integer rowid.
kept_id : (v : Value) (n : ℤ) → v ≡ Int n → cast Integer v ≡ Int n
kept_id v n is = ap (cast Integer) is ∙ cast_int n

module _ (id : ℕ) (state : SessionState) (words : ℕ) (cursor : Cursor) where
  abbrev pub set_session_values : Row
  set_session_values =
      number id ∷ number (session_code state) ∷ number words ∷ number cursor.app ∷ number cursor.segment ∷ number cursor.offset ∷ number cursor.block ∷ []

  session_put : (s : StoredSession) → cast_row session_table (drop 1 (shown set_session_columns set_session_values (session_row s))) ≡ session_row (record s { state = state; words = words; cursor = cursor })
  session_put s = simp (cast_int, cast_null)

  pub session_changed : (old new : State) (count : ℕ) → Executes set_session_text set_session_values old new (Ok count) → Moves (with_session_set id state words cursor) old.now new.now
  session_changed old new count ran t image =
      let it = updates set_session_text set_session_values 6 session_table by_id set_session_columns changes_mean.set_session refl old new image.ours count ran in
      let change = λ (s : StoredSession). let s2 : StoredSession = record s { state = state; words = words; cursor = cursor } in s2 in
      let moves = rows_set session_table session_row (passes by_id set_session_values) (shown set_session_columns set_session_values) (λ s. s.id == id) (λ r n is. is)
      change (λ r. kept_id _) t.sessions old new it (λ s. one_test (same_int s.id id)) session_put in
      refilled (take 6 (filled t)) (drop 7 (filled t)) session_table refl refl t (with_session_set id state words cursor t) old new
      (by_rowid session_table (map session_row t.sessions)) (by_rowid session_table (map session_row (map (session_set id state words cursor) t.sessions))) refl refl refl refl it.kept it.is_database it.others moves image

module _ (name : List ℕ) (discarded : ℕ) where
  abbrev pub set_lot_values : Row
  set_lot_values = Text name ∷ number discarded ∷ []

  lot_put : (l : StoredLot) → drop 1 (cast_row lot_table (drop 1 (shown set_lot_columns set_lot_values (Null ∷ lot_row l)))) ≡ lot_row (record l { discarded = discarded })
  lot_put l = simp (cast_int, cast_null)

  pub lot_changed : (old new : State) (count : ℕ) → Executes set_lot_text set_lot_values old new (Ok count) → Moves (with_lot_set name discarded) old.now new.now
  lot_changed old new count ran t image =
      let it = updates set_lot_text set_lot_values 2 lot_table by_first_column set_lot_columns changes_mean.set_lot refl old new image.ours count ran in
      let change = λ (l : StoredLot). let l2 : StoredLot = record l { discarded = discarded } in l2 in
      let moves = unnumbered_set lot_table lot_row (passes by_first_column set_lot_values) (shown set_lot_columns set_lot_values) (λ l. bytes_eq l.lot.name name) (λ r n is. is)
      change (λ r. kept_id _) t.lots old new it (λ l. one_test (same_text l.lot.name name)) lot_put (λ v r. refl) (λ v r. refl) in
      refilled (take 2 (filled t)) (drop 3 (filled t)) lot_table refl refl t (with_lot_set name discarded t) old new
      (unnumbered lot_table (map lot_row t.lots)) (unnumbered lot_table (map lot_row (map (lot_set name discarded) t.lots))) refl refl refl refl it.kept it.is_database it.others moves image

module _ (id : ℕ) (totals : BatchTotals) where
  abbrev pub set_totals_values : Row
  set_totals_values =
      number id ∷ number totals.waiting ∷ number totals.running ∷ number totals.failed ∷ number totals.withdrawn ∷ number totals.good ∷ number totals.sessions ∷ number totals.spoiled ∷ []

  abbrev with_counters : StoredBatch → StoredBatch
  with_counters b = record b {
    waiting = totals.waiting;
    running = totals.running;
    failed = totals.failed;
    withdrawn = totals.withdrawn;
    good = totals.good;
    sessions = totals.sessions;
    spoiled = totals.spoiled;
  }

  totals_put : (b : StoredBatch) → cast_row batch_table (drop 1 (shown set_totals_columns set_totals_values (batch_row b))) ≡ batch_row (with_counters b)
  totals_put b = simp (cast_int, cast_null)

  pub totals_changed : (old new : State) (count : ℕ) → Executes set_totals_text set_totals_values old new (Ok count) → Moves (with_totals_set id totals) old.now new.now
  totals_changed old new count ran t image =
      let it = updates set_totals_text set_totals_values 3 batch_table by_id set_totals_columns changes_mean.set_totals refl old new image.ours count ran in
      let moves = rows_set batch_table batch_row (passes by_id set_totals_values) (shown set_totals_columns set_totals_values) (λ b. b.id == id) (λ r n is. is)
      with_counters (λ r. kept_id _) t.batches old new it (λ b. one_test (same_int b.id id)) totals_put in
      refilled (take 3 (filled t)) (drop 4 (filled t)) batch_table refl refl t (with_totals_set id totals t) old new
      (by_rowid batch_table (map batch_row t.batches)) (by_rowid batch_table (map batch_row (map (totals_set id totals) t.batches))) refl refl refl refl it.kept it.is_database it.others moves image

module _ (name : List ℕ) where
  abbrev pub set_closed_values : Row
  set_closed_values = Text name ∷ []

  closed_put : (b : StoredBatch) → cast_row batch_table (drop 1 (shown set_closed_columns set_closed_values (batch_row b))) ≡ batch_row (record b { closed = true })
  closed_put b = simp (cast_int, cast_null)

  pub closed_changed : (old new : State) (count : ℕ) → Executes set_closed_text set_closed_values old new (Ok count) → Moves (with_closed_set name) old.now new.now
  closed_changed old new count ran t image =
      let it = updates set_closed_text set_closed_values 3 batch_table by_second_column set_closed_columns changes_mean.set_closed refl old new image.ours count ran in
      let change = λ (b : StoredBatch). let b2 : StoredBatch = record b { closed = true } in b2 in
      let moves = rows_set batch_table batch_row (passes by_second_column set_closed_values) (shown set_closed_columns set_closed_values) (λ b. bytes_eq b.name name) (λ r n is. is)
      change (λ r. kept_id _) t.batches old new it (λ b. one_test (same_text b.name name)) closed_put in
      refilled (take 3 (filled t)) (drop 4 (filled t)) batch_table refl refl t (with_closed_set name t) old new
      (by_rowid batch_table (map batch_row t.batches)) (by_rowid batch_table (map batch_row (map (closed_set name) t.batches))) refl refl refl refl it.kept it.is_database it.others moves image

module _ (id : ℕ) (raw : List ℕ) where
  abbrev pub set_raw_values : Row
  set_raw_values = number id ∷ Blob raw ∷ []

  raw_put : (b : StoredBatch) → cast_row batch_table (drop 1 (shown set_raw_columns set_raw_values (batch_row b))) ≡ batch_row (record b { raw = raw })
  raw_put b = simp (cast_int, cast_null)

  pub raw_changed : (old new : State) (count : ℕ) → Executes set_raw_text set_raw_values old new (Ok count) → Moves (with_raw_set id raw) old.now new.now
  raw_changed old new count ran t image =
      let it = updates set_raw_text set_raw_values 3 batch_table by_id set_raw_columns changes_mean.set_raw refl old new image.ours count ran in
      let change = λ (b : StoredBatch). let b2 : StoredBatch = record b { raw = raw } in b2 in
      let moves = rows_set batch_table batch_row (passes by_id set_raw_values) (shown set_raw_columns set_raw_values) (λ b. b.id == id) (λ r n is. is)
      change (λ r. kept_id _) t.batches old new it (λ b. one_test (same_int b.id id)) raw_put in
      refilled (take 3 (filled t)) (drop 4 (filled t)) batch_table refl refl t (with_raw_set id raw t) old new
      (by_rowid batch_table (map batch_row t.batches)) (by_rowid batch_table (map batch_row (map (raw_set id raw) t.batches))) refl refl refl refl it.kept it.is_database it.others moves image

module _ (batch place : ℕ) (state : RecordState) (spoiled remakes : ℕ) where
  abbrev pub set_record_values : Row
  set_record_values = number batch ∷ number place ∷ number (record_code state) ∷ number spoiled ∷ number remakes ∷ []

  record_put : (r : StoredRecord) → drop 1 (cast_row record_table (drop 1 (shown set_record_columns set_record_values (Null ∷ record_row r))))
      ≡ record_row (record r { state = state; spoiled = spoiled; remakes = remakes })
  record_put r = simp (cast_int, cast_null)

  pub record_changed : (old new : State) (count : ℕ) → Executes set_record_text set_record_values old new (Ok count) → Moves (with_record_set batch place state spoiled remakes) old.now new.now
  record_changed old new count ran t image =
      let it = updates set_record_text set_record_values 4 record_table by_place set_record_columns changes_mean.set_record refl old new image.ours count ran in
      let change = λ (r : StoredRecord). let r2 : StoredRecord = record r { state = state; spoiled = spoiled; remakes = remakes } in r2 in
      let moves = unnumbered_set record_table record_row (passes by_place set_record_values) (shown set_record_columns set_record_values) (λ r. (r.batch == batch) && (r.place == place)) (λ r n is. is)
      change (λ r. kept_id _) t.records old new it (λ r. two_tests (same_int r.batch batch) (same_int r.place place)) record_put (λ v r. refl) (λ v r. refl) in
      refilled (take 4 (filled t)) (drop 5 (filled t)) record_table refl refl t (with_record_set batch place state spoiled remakes t) old new
      (unnumbered record_table (map record_row t.records)) (unnumbered record_table (map record_row (map (record_set batch place state spoiled remakes) t.records)))
      refl refl refl refl it.kept it.is_database it.others moves image

module _ (id : ℕ) where
  abbrev pub set_end_values : Row
  set_end_values = number id ∷ []

  end_put : (s : StoredSession) → cast_row session_table (drop 1 (shown set_end_columns set_end_values (session_row s))) ≡ session_row (record s { state = session.Spoiled; ended = true })
  end_put s = simp (cast_int, cast_null)

  pub end_changed : (old new : State) (count : ℕ) → Executes set_end_text set_end_values old new (Ok count) → Moves (with_end_set id) old.now new.now
  end_changed old new count ran t image =
      let it = updates set_end_text set_end_values 6 session_table by_id set_end_columns changes_mean.set_end refl old new image.ours count ran in
      let change = λ (s : StoredSession). let s2 : StoredSession = record s { state = session.Spoiled; ended = true } in s2 in
      let moves = rows_set session_table session_row (passes by_id set_end_values) (shown set_end_columns set_end_values) (λ s. s.id == id) (λ r n is. is)
      change (λ r. kept_id _) t.sessions old new it (λ s. one_test (same_int s.id id)) end_put in
      refilled (take 6 (filled t)) (drop 7 (filled t)) session_table refl refl t (with_end_set id t) old new
      (by_rowid session_table (map session_row t.sessions)) (by_rowid session_table (map session_row (map (end_set id) t.sessions))) refl refl refl refl it.kept it.is_database it.others moves image
