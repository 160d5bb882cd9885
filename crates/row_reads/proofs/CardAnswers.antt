-- Lemmas about reads of sessions and records that return at most one row.
use Rattle.std.proofs.Common.{◌≡◌, ℕ, ◌==◌, ◌&&◌, true, false, List, [], ◌∷◌, map, Option, refl}
use Rattle.std.specs.Prelude.{find, option_map}
use Rattle.sqlite.specs.Collation.TheVariants.{Binary}
use Rattle.sqlite.specs.declared.types.Value.TheVariants.{Text}
use Rattle.sqlite.specs.Ops.{binary, is_true}
use Rattle.sqlite.specs.Order.{Row}
use Rattle.sqlite.specs.State.{Shown, State}
use Rattle.sqlite_sql.specs.declared.ops.BinaryOp.TheVariants.{Compare}
use Rattle.sqlite_sql.specs.declared.ops.CompareOp.TheVariants.{Eq}
use Rattle.job_facts.specs.declared.facts.SessionState.{SessionState}
use Rattle.job_facts.specs.declared.facts.SessionState.TheVariants as session
use Rattle.job_facts.specs.States.{is_running}
use Rattle.sql_base.proofs.Tests.{alone, same_int, same_text}
use Rattle.table_rows.specs.Keys.{is_record_at, is_record_named, is_running_on, is_session}
use Rattle.table_rows.specs.Tables.{PassesOnce, StoredRecord, StoredSession, Tables}
use Rattle.sql_rows.specs.Encoding.{number, record_row, session_code, session_row}
use Rattle.sql_rows.specs.Image.{IsImage}
use Rattle.sql_rows.proofs.OneImage.{record_state_back, session_state_back}
use Rattle.row_reads.specs.declared.records.RecordAt.{RecordAt}
use Rattle.row_reads.specs.declared.sessions.SessionAt.{SessionAt}
use Rattle.row_reads.specs.CardDecoding.{record_at, record_in, session_at, session_in}
use Rattle.row_reads.specs.CardTexts.{by_batch_and_name, by_id, by_running_machine, record_at_text, record_columns, record_named_text, running_columns, running_text, session_columns, session_text}
use Rattle.row_reads.specs.Decoding.{IsFirst, id_in}
use Rattle.row_reads.specs.NameTexts.{by_two_columns}
use Rattle.row_reads.proofs.Answering.{int_key}
use Rattle.row_reads.proofs.Asking.{asked, one_found, shown_row}
use Rattle.row_reads.proofs.CardMeanings.{record_at_asks, record_named_asks, running_asks, session_asks}

-- ---- sessions

session_back : (params : Row) (s : StoredSession) → session_in (shown_row true session_columns params (session_row s)) ≡ session_at s
session_back params s = rw (session_state_back s.state) refl

pub session_found : (id : ℕ) (old new : State) (rows : List Row) → Shown session_text (number id ∷ []) old new rows → (t : Tables) → IsImage t old.now
    → (found : Option SessionAt) → IsFirst (map session_in rows) found → PassesOnce (is_session id) t.sessions → found ≡ option_map session_at (find (is_session id) t.sessions)
session_found id old new rows h t image found first once =
    let params = number id ∷ [] in
    one_found (is_session id) (λ s. shown_row true session_columns params (session_row s)) t.sessions rows
    (asked true session_row by_id session_columns params (is_session id) refl (λ v r. refl) (λ s. int_key id s.id) session_text 12 session_asks old new rows h image.ours t.sessions
    image.each.1.1.1.1.1.1.0.rows)
    session_in session_at once (λ s is. session_back params s) found first

running_code : (s : SessionState) → (session_code s == 0) ≡ is_running s
running_code session.Running = refl
running_code session.Good = refl
running_code session.Spoiled = refl

running_key : (machine : List ℕ) (s : StoredSession)
    → (is_true (binary (Compare Eq Binary) (Text s.machine) (Text machine)) && (is_true (binary (Compare Eq Binary) (number (session_code s.state)) (number 0)) && true)) ≡ is_running_on machine s
running_key machine s = rw (same_text s.machine machine, alone (is_true (binary (Compare Eq Binary) (number (session_code s.state)) (number 0))), same_int (session_code s.state) 0, running_code s.state) refl

pub running_found : (machine : List ℕ) (old new : State) (rows : List Row) → Shown running_text (Text machine ∷ []) old new rows → (t : Tables) → IsImage t old.now
    → (found : Option ℕ) → IsFirst (map id_in rows) found → PassesOnce (is_running_on machine) t.sessions
    → found ≡ option_map (λ (s : StoredSession). s.id) (find (is_running_on machine) t.sessions)
running_found machine old new rows h t image found first once =
    let params = Text machine ∷ [] in
    one_found (is_running_on machine) (λ s. shown_row true running_columns params (session_row s)) t.sessions rows
    (asked true session_row by_running_machine running_columns params (is_running_on machine) refl (λ v r. refl) (running_key machine) running_text 12 running_asks old new rows h image.ours t.sessions
    image.each.1.1.1.1.1.1.0.rows)
    id_in (λ (s : StoredSession). s.id) once (λ s is. refl) found first

-- ---- records

pub record_back : (params : Row) (r : StoredRecord) → record_in (shown_row false record_columns params (record_row r)) ≡ record_at r
record_back params r = rw (record_state_back r.state) refl

named_key : (batch : ℕ) (name : List ℕ) (r : StoredRecord)
    → (is_true (binary (Compare Eq Binary) (number r.batch) (number batch)) && (is_true (binary (Compare Eq Binary) (Text r.name) (Text name)) && true)) ≡ is_record_named batch name r
named_key batch name r = rw (same_int r.batch batch, alone (is_true (binary (Compare Eq Binary) (Text r.name) (Text name))), same_text r.name name) refl

pub record_named_found : (batch : ℕ) (name : List ℕ) (old new : State) (rows : List Row) → Shown record_named_text (number batch ∷ Text name ∷ []) old new rows → (t : Tables) → IsImage t old.now
    → (found : Option RecordAt) → IsFirst (map record_in rows) found → PassesOnce (is_record_named batch name) t.records → found ≡ option_map record_at (find (is_record_named batch name) t.records)
record_named_found batch name old new rows h t image found first once =
    let params = number batch ∷ Text name ∷ [] in
    one_found (is_record_named batch name) (λ r. shown_row false record_columns params (record_row r)) t.records rows
    (asked false record_row by_batch_and_name record_columns params (is_record_named batch name) refl (λ v r. refl) (named_key batch name) record_named_text 7 record_named_asks old new rows h
    image.ours t.records image.each.1.1.1.1.0.rows)
    record_in record_at once (λ r is. record_back params r) found first

pub place_key : (b p batch place : ℕ)
    → (is_true (binary (Compare Eq Binary) (number b) (number batch)) && (is_true (binary (Compare Eq Binary) (number p) (number place)) && true)) ≡ ((b == batch) && (p == place))
place_key b p batch place = rw (same_int b batch, alone (is_true (binary (Compare Eq Binary) (number p) (number place))), same_int p place) refl

pub record_at_found : (batch place : ℕ) (old new : State) (rows : List Row) → Shown record_at_text (number batch ∷ number place ∷ []) old new rows → (t : Tables) → IsImage t old.now
    → (found : Option RecordAt) → IsFirst (map record_in rows) found → PassesOnce (is_record_at batch place) t.records → found ≡ option_map record_at (find (is_record_at batch place) t.records)
record_at_found batch place old new rows h t image found first once =
    let params = number batch ∷ number place ∷ [] in
    one_found (is_record_at batch place) (λ r. shown_row false record_columns params (record_row r)) t.records rows
    (asked false record_row by_two_columns record_columns params (is_record_at batch place) refl (λ v r. refl) (λ r. place_key r.batch r.place batch place) record_at_text 7 record_at_asks old new rows h
    image.ours t.records image.each.1.1.1.1.0.rows)
    record_in record_at once (λ r is. record_back params r) found first
