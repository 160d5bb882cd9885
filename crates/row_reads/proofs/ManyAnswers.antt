-- Lemmas about reads of sessions, records and groupings that return several rows, or the first or
-- the last row.
use Rattle.std.proofs.Common.{◌≡◌, ℕ, ◌==◌, ◌&&◌, true, false, List, [], ◌∷◌, length, map, Option, refl, sym, ap, subst, ◌∙◌}
use Rattle.std.proofs.Math.Bool.{and_assoc}
use Rattle.std.specs.Prelude.{bytes_eq, filter}
use Rattle.std.specs.List.Sorted.{IsPermutation}
use Rattle.sqlite.specs.Collation.TheVariants.{Binary}
use Rattle.sqlite.specs.declared.types.Value.TheVariants.{Blob}
use Rattle.sqlite.specs.Ops.{binary, is_true}
use Rattle.sqlite.specs.Order.{Row}
use Rattle.sqlite.specs.State.{Shown, State}
use Rattle.sqlite.specs.Term.{col}
use Rattle.sqlite_sql.specs.declared.ops.BinaryOp.TheVariants.{Compare}
use Rattle.sqlite_sql.specs.declared.ops.CompareOp.TheVariants.{Eq}
use Rattle.job_facts.specs.declared.facts.RecordState.{RecordState}
use Rattle.job_facts.specs.declared.facts.RecordState.TheVariants as rec
use Rattle.job_facts.specs.declared.facts.SessionState.{SessionState}
use Rattle.job_facts.specs.declared.facts.SessionState.TheVariants as session
use Rattle.job_facts.specs.States.{is_good, is_waiting}
use Rattle.sql_base.proofs.Selecting.{all_pass}
use Rattle.sql_base.proofs.Tests.{alone, same_blob, same_int}
use Rattle.table_rows.specs.Keys.{is_good_of, is_grouping_at, is_grouping_of, is_record_of, is_waiting_of}
use Rattle.table_rows.specs.Tables.{StoredGrouping, StoredRecord, StoredSession, Tables}
use Rattle.sql_rows.specs.Encoding.{grouping_row, number, record_code, record_row, session_code, session_row}
use Rattle.sql_rows.specs.Image.{IsImage}
use Rattle.sql_rows.proofs.OneImage.{enc_back, flag_back}
use Rattle.row_reads.specs.declared.records.RecordAt.{RecordAt}
use Rattle.row_reads.specs.CardDecoding.{coded_at, coded_in, coded_line, good_at, good_in, grouping_at, grouping_in, is_of_segment, line_of, place_of, record_at, record_in}
use Rattle.row_reads.specs.CardTexts.{by_batch, by_batch_and_place, by_good_batch, by_segment, by_waiting_batch, coded_columns, coded_text, good_columns, good_text, grouping_count_text}
use Rattle.row_reads.specs.CardTexts.{groupings_text, last_session_text, limit_one, more_grouping_columns, more_record_columns, no_limit, record_columns, records_text, waiting_text}
use Rattle.row_reads.specs.Decoding.{IsFirst, first_number}
use Rattle.row_reads.specs.Extremes.{AreSorted, IsGreatest, IsLeastBy}
use Rattle.row_reads.proofs.Answering.{int_key}
use Rattle.row_reads.proofs.Asking.{all_found, asked, count_found, shown_row}
use Rattle.row_reads.proofs.CardAnswers.{place_key, record_back}
use Rattle.row_reads.proofs.CardMeanings.{coded_asks, good_asks, grouping_count_asks, groupings_asks, last_session_asks, records_asks, waiting_asks}
use Rattle.row_reads.proofs.Sorting.{asked_sorted, greatest_found, least_found, sorted_found}

-- ---- sessions

pub last_session_found : (old new : State) (rows : List Row) → Shown last_session_text [] old new rows → (t : Tables) → IsImage t old.now
    → IsGreatest (map (λ (s : StoredSession). s.id) t.sessions) (first_number rows)
last_session_found old new rows h t image =
    let view : StoredSession → Row = λ s. shown_row true (col 1 0 ∷ []) [] (session_row s) in
    let it = asked_sorted true session_row [] (col 1 0) [] [] (λ _. true) refl (λ v r. refl) (λ s. refl) true limit_one last_session_text 12 last_session_asks old new rows h image.ours t.sessions
    image.each.1.1.1.1.1.1.0.rows in
    greatest_found view (λ s. refl) t.sessions it.0 (subst (λ xs. IsPermutation (map view xs) it.0) (all_pass t.sessions) it.1) it.2 (λ (s : StoredSession). s.id) (λ s. refl) rows it.3

good_code : (s : SessionState) → (session_code s == 1) ≡ is_good s
good_code session.Running = refl
good_code session.Good = refl
good_code session.Spoiled = refl

good_key : (batch : ℕ) (s : StoredSession)
    → (is_true (binary (Compare Eq Binary) (number s.batch) (number batch)) && (is_true (binary (Compare Eq Binary) (number (session_code s.state)) (number 1)) && true)) ≡ is_good_of batch s
good_key batch s = place_key s.batch (session_code s.state) batch 1 ∙ ap (λ b. (s.batch == batch) && b) (good_code s.state)

pub good_found : (batch : ℕ) (old new : State) (rows : List Row) → Shown good_text (number batch ∷ []) old new rows → (t : Tables) → IsImage t old.now
    → IsPermutation (map good_at (filter (is_good_of batch) t.sessions)) (map good_in rows)
good_found batch old new rows h t image =
    let params = number batch ∷ [] in
    all_found (is_good_of batch) (λ s. shown_row true good_columns params (session_row s)) t.sessions rows
    (asked true session_row by_good_batch good_columns params (is_good_of batch) refl (λ v r. refl) (good_key batch) good_text 12 good_asks old new rows h image.ours t.sessions
    image.each.1.1.1.1.1.1.0.rows)
    good_in good_at (λ s. refl)

-- ---- records

pub records_found : (batch : ℕ) (old new : State) (rows : List Row) → Shown records_text (number batch ∷ []) old new rows → (t : Tables) → IsImage t old.now
    → AreSorted place_of (map record_at (filter (is_record_of batch) t.records)) (map record_in rows)
records_found batch old new rows h t image =
    let params = number batch ∷ [] in
    let it = asked_sorted false record_row by_batch (col 1 2) more_record_columns params (is_record_of batch) refl (λ v r. refl) (λ r. int_key batch r.batch) false no_limit records_text 7
    records_asks old new rows h image.ours t.records image.each.1.1.1.1.0.rows in
    sorted_found (is_record_of batch) (λ r. shown_row false record_columns params (record_row r)) t.records it.0 it.1 it.2 (λ r. refl) record_in record_at (record_back params) place_of (λ r. refl) rows it.3

waiting_code : (s : RecordState) → (record_code s == 0) ≡ is_waiting s
waiting_code rec.Waiting = refl
waiting_code rec.Running = refl
waiting_code rec.Failed = refl
waiting_code rec.Withdrawn = refl
waiting_code rec.Good = refl

waiting_key : (batch : ℕ) (r : StoredRecord)
    → (is_true (binary (Compare Eq Binary) (number r.batch) (number batch)) && (is_true (binary (Compare Eq Binary) (number (record_code r.state)) (number 0)) && true)) ≡ is_waiting_of batch r
waiting_key batch r = place_key r.batch (record_code r.state) batch 0 ∙ ap (λ b. (r.batch == batch) && b) (waiting_code r.state)

pub waiting_found : (batch : ℕ) (old new : State) (rows : List Row) → Shown waiting_text (number batch ∷ []) old new rows → (t : Tables) → IsImage t old.now
    → (found : Option RecordAt) → IsFirst (map record_in rows) found → IsLeastBy place_of (map record_at (filter (is_waiting_of batch) t.records)) found
waiting_found batch old new rows h t image =
    let params = number batch ∷ [] in
    let it = asked_sorted false record_row by_waiting_batch (col 1 2) more_record_columns params (is_waiting_of batch) refl (λ v r. refl) (waiting_key batch) false limit_one waiting_text 7
    waiting_asks old new rows h image.ours t.records image.each.1.1.1.1.0.rows in
    least_found (is_waiting_of batch) (λ r. shown_row false record_columns params (record_row r)) t.records it.0 it.1 it.2 (λ r. refl) record_in record_at (record_back params) place_of (λ r. refl) rows it.3

-- ---- groupings

grouping_back : (params : Row) (g : StoredGrouping) → grouping_in (shown_row false (col 1 2 ∷ more_grouping_columns) params (grouping_row g)) ≡ grouping_at g
grouping_back params g = rw (enc_back g.enc, flag_back g.tol) refl

pub groupings_found : (batch place : ℕ) (old new : State) (rows : List Row) → Shown groupings_text (number batch ∷ number place ∷ []) old new rows → (t : Tables) → IsImage t old.now
    → AreSorted line_of (map grouping_at (filter (is_grouping_at batch place) t.groupings)) (map grouping_in rows)
groupings_found batch place old new rows h t image =
    let params = number batch ∷ number place ∷ [] in
    let it = asked_sorted false grouping_row by_batch_and_place (col 1 2) more_grouping_columns params (is_grouping_at batch place) refl (λ v r. refl) (λ g. place_key g.batch g.place batch place)
    false no_limit groupings_text 10 groupings_asks old new rows h image.ours t.groupings image.each.1.1.1.1.1.0.rows in
    sorted_found (is_grouping_at batch place) (λ g. shown_row false (col 1 2 ∷ more_grouping_columns) params (grouping_row g)) t.groupings it.0 it.1 it.2 (λ g. refl) grouping_in grouping_at
    (grouping_back params) line_of (λ r. refl) rows it.3

segment_key : (batch place : ℕ) (aid : List ℕ) (rank : ℕ) (g : StoredGrouping)
    → (is_true (binary (Compare Eq Binary) (number g.batch) (number batch)) && (is_true (binary (Compare Eq Binary) (number g.place) (number place))
    && (is_true (binary (Compare Eq Binary) (Blob g.aid) (Blob aid)) && (is_true (binary (Compare Eq Binary) (number g.rank) (number rank)) && true)))) ≡ is_of_segment batch place aid rank g
segment_key batch place aid rank g =
    rw (same_int g.batch batch, same_int g.place place, same_blob g.aid aid, same_int g.rank rank, alone (g.rank == rank)) (sym (and_assoc (g.batch == batch) (g.place == place) (bytes_eq g.aid aid && (g.rank == rank))))

pub coded_found : (batch place : ℕ) (aid : List ℕ) (rank : ℕ) (old new : State) (rows : List Row) → Shown coded_text (number batch ∷ number place ∷ Blob aid ∷ number rank ∷ []) old new rows
    → (t : Tables) → IsImage t old.now → AreSorted coded_line (map coded_at (filter (is_of_segment batch place aid rank) t.groupings)) (map coded_in rows)
coded_found batch place aid rank old new rows h t image =
    let params = number batch ∷ number place ∷ Blob aid ∷ number rank ∷ [] in
    let it = asked_sorted false grouping_row by_segment (col 1 2) coded_columns params (is_of_segment batch place aid rank) refl (λ v r. refl) (segment_key batch place aid rank)
    false no_limit coded_text 10 coded_asks old new rows h image.ours t.groupings image.each.1.1.1.1.1.0.rows in
    sorted_found (is_of_segment batch place aid rank) (λ g. shown_row false (col 1 2 ∷ coded_columns) params (grouping_row g)) t.groupings it.0 it.1 it.2 (λ g. refl) coded_in coded_at (λ g. refl)
    coded_line (λ r. refl) rows it.3

pub groupings_counted : (batch : ℕ) (old new : State) (rows : List Row) → Shown grouping_count_text (number batch ∷ []) old new rows → (t : Tables) → IsImage t old.now
    → length rows ≡ length (filter (is_grouping_of batch) t.groupings)
groupings_counted batch old new rows h t image =
    let params = number batch ∷ [] in
    count_found (is_grouping_of batch) (λ g. shown_row false (col 1 2 ∷ []) params (grouping_row g)) t.groupings rows
    (asked false grouping_row by_batch (col 1 2 ∷ []) params (is_grouping_of batch) refl (λ v r. refl) (λ g. int_key batch g.batch) grouping_count_text 10 grouping_count_asks old new rows h
    image.ours t.groupings image.each.1.1.1.1.1.0.rows)
