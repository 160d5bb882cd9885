-- The contents that audited rows determine agree with each row.
use Rattle.std.specs.Prelude.{◌≡◌, ℕ, map, count_by, All}
use Rattle.job_facts.specs.Accounts.{record_states, session_states}
use Rattle.job_facts.specs.Facts.{Batch, Session}
use Rattle.job_facts.specs.States.{is_closed, is_spoiled, is_withdrawn as is_gone, record_state, records_named, remakes_of, session_cursor, session_state, states_of}
use Rattle.table_rows.specs.Tables.{StoredBatch, StoredRecord, StoredSession, Tables}
use Rattle.image_laws.specs.Image.{batch_id, batches_by_id, place_in, sessions_by_id}
use Rattle.image_laws.specs.Decided.{batch_name, batch_of_row, facts_of, record_name}
use Rattle.audit_laws.specs.Audited.{is_withdrawn, named_session, record_states_of, session_states_of, states_at}

pub record BatchAgrees (t : Tables) (b : StoredBatch) : Type 0 where
  pub name : batch_name t b.id ≡ b.name
  pub closed : is_closed (facts_of t) b.name ≡ b.closed
  pub its_records : record_states (facts_of t) b.name ≡ record_states_of t b
  pub its_sessions : session_states (facts_of t) b.name ≡ session_states_of t b

-- The record with the name of `r`, in the batch with the id `r.batch`, has the values of row `r`.
pub record RecordAgrees (t : Tables) (r : StoredRecord) : Type 0 where
  pub states : states_of (facts_of t) (batch_name t r.batch) r.name ≡ states_at t r
  pub withdrawn : is_gone (facts_of t) (batch_name t r.batch) r.name ≡ is_withdrawn r
  pub remakes : remakes_of (facts_of t) (batch_name t r.batch) r.name ≡ r.remakes
  pub state : record_state (facts_of t) (batch_name t r.batch) r.name ≡ r.state
  pub spoiled : count_by is_spoiled (states_of (facts_of t) (batch_name t r.batch) r.name) ≡ r.spoiled

pub record SessionAgrees (t : Tables) (s : StoredSession) : Type 0 where
  pub batch : batch_id (facts_of t).batches (batch_name t s.batch) ≡ s.batch
  pub place : place_in (records_named (facts_of t) (batch_name t s.batch)) (record_name t s.batch s.place) ≡ s.place
  pub state : session_state (facts_of t) (named_session t s) ≡ s.state
  pub cursor : session_cursor (facts_of t) (named_session t s) ≡ s.cursor

pub record RowsAgree (t : Tables) : Type 0 where
  pub batches : batches_by_id (facts_of t) ≡ map (λ (b : StoredBatch). let e : ℕ × Batch = (b.id, batch_of_row b) in e) t.batches
  pub sessions : sessions_by_id (facts_of t) ≡ map (λ (s : StoredSession). let e : ℕ × Session = (s.id, named_session t s) in e) t.sessions
  pub each_batch : All (BatchAgrees t) t.batches
  pub each_record : All (RecordAgrees t) t.records
  pub each_session : All (SessionAgrees t) t.sessions
