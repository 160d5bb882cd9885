-- The rows of records and batches in the image of sound facts have the right states and counters.
use Rattle.std.proofs.Common.{◌≡◌, ℕ, true, List, length, All, refl, sym, ap, ◌∙◌, subst}
use Rattle.std.specs.Prelude.{IsTrue, bytes_eq, count_by}
use Rattle.std.specs.List.{list_any}
use Rattle.std.proofs.lemmas.List.Elements.{All-map, All-weaker}
use Rattle.std.proofs.lemmas.List.Folds.{list_all-map}
use Rattle.std.proofs.lemmas.List.Sums.{AllPass-from_list_all}
use Rattle.std.proofs.lemmas.Option.{get_or_from_slice_get, slice_get_within}
use Rattle.job_facts.specs.declared.facts.RecordState.TheVariants as rec
use Rattle.job_facts.specs.declared.facts.SessionState.TheVariants as session
use Rattle.job_facts.specs.Accounts.{batch_totals, count_records, count_sessions, record_states}
use Rattle.job_facts.specs.Contents.{Contents}
use Rattle.job_facts.specs.Facts.{Batch, Facts}
use Rattle.job_facts.specs.Sound.{IsSound, IsSoundRecord}
use Rattle.job_facts.specs.States.{is_batch_finished, is_closed, is_finished, is_spoiled, is_withdrawn as is_gone, record_state, records_named, remakes_of, state_by, states_of}
use Rattle.image_laws.proofs.Lists.{All-joined}
use Rattle.table_rows.specs.Tables.{StoredBatch, StoredRecord, Tables}
use Rattle.image_laws.specs.Image.{batches_by_id, image, place_in, placed_records, records_in, stored_batch, stored_batches, stored_record, stored_records}
use Rattle.image_laws.proofs.Sets.{withdrawn_stands}
use Rattle.row_laws.proofs.RecordRows.{name_at}
use Rattle.audit_laws.specs.Audited.{IsAuditedBatch, IsAuditedRecord, is_withdrawn, record_states_of, states_at}
use Rattle.audit_laws.proofs.AuditedPlaces.{IsOwn, IsOwnRecord, batch_record_states, batch_session_states, own_batches, own_records, record_session_states}

-- ---- a property of all names of a list, for a name that the list contains

named_holds : (P : List ℕ → Type 0) (names : List (List ℕ)) (n : List ℕ) → All P names → list_any (bytes_eq n) names ≡ true → P n
named_holds P names n each there =
    let at = name_at n names there in
    let k : ℕ = place_in names n in
    subst P (get_or_from_slice_get names k n n at) (each k n (slice_get_within names k n at))

module _ (f : Facts) (b : List ℕ) where
  finished : IsTrue (is_batch_finished f b) → All (λ state. IsTrue (is_finished state)) (record_states f b)
  unfolding is_batch_finished record_states
  finished done =
      AllPass-from_list_all is_finished (record_states f b) (list_all-map is_finished (record_state f b) (records_named f b) ∙ done)

module _ (c : Contents) (sound : IsSound c.facts) where
  abbrev f : Facts
  f = c.facts

  abbrev t : Tables
  t = image c

  -- ---- records

  module _ (e : ℕ × Batch) (r : ℕ × List ℕ) (own : IsOwnRecord f e r) where
    abbrev row : StoredRecord
    row = stored_record f e r

    states : states_of f e.1.name r.1 ≡ states_at t row
    states = sym (record_session_states f sound e r own)

    gone : is_gone f e.1.name r.1 ≡ is_withdrawn row
    unfolding record_state
    gone =
        let b : List ℕ = e.1.name in
        sym (withdrawn_stands (states_of f b r.1) (is_gone f b r.1) (remakes_of f b r.1) (sound.states.records b r.1))

    stands : record_state f e.1.name r.1 ≡ state_by (states_of f e.1.name r.1) (is_gone f e.1.name r.1) (remakes_of f e.1.name r.1)
    unfolding record_state
    stands = refl

    record_audited : IsAuditedRecord t row
    record_audited = record {
      sound = subst (λ ss. IsSoundRecord ss (is_withdrawn row) row.remakes) states
          (subst (λ w. IsSoundRecord (states_of f e.1.name r.1) w row.remakes) gone (sound.states.records e.1.name r.1));
      state = stands ∙ (λ i. state_by (states i) (gone i) row.remakes);
      spoiled = ap (count_by is_spoiled) states;
    }

  pub records_audited : All (IsAuditedRecord t) (stored_records f)
  unfolding stored_records
  records_audited = All-joined (IsAuditedRecord t) (records_in f) (batches_by_id f)
      (All-weaker (IsOwn f) (λ e. All (IsAuditedRecord t) (records_in f e))
      (λ e own. All-map (IsAuditedRecord t) (stored_record f e) (placed_records f e)
      (All-weaker (IsOwnRecord f e) (λ r. IsAuditedRecord t (stored_record f e r)) (record_audited e) (placed_records f e)
      (own_records f sound e own)))
      (batches_by_id f) (own_batches f sound))

  -- ---- batches

  module _ (e : ℕ × Batch) (own : IsOwn f e) where
    abbrev batch_row : StoredBatch
    batch_row = stored_batch f e

    its_records : record_states f e.1.name ≡ record_states_of t batch_row
    its_records = sym (batch_record_states f sound e own)

    closed_over : is_closed f e.1.name ≡ true → All (λ state. IsTrue (is_finished state)) (record_states f e.1.name)
    closed_over closed = finished f e.1.name (named_holds (λ b. IsTrue (is_batch_finished f b)) f.closed e.1.name sound.states.closed closed)

    batch_audited : IsAuditedBatch t batch_row
    unfolding batch_totals
    batch_audited =
        let its_sessions = sym (batch_session_states f sound e own) in
        record {
          waiting = ap (λ states. count_records states rec.Waiting) its_records;
          running = ap (λ states. count_records states rec.Running) its_records;
          failed = ap (λ states. count_records states rec.Failed) its_records;
          withdrawn = ap (λ states. count_records states rec.Withdrawn) its_records;
          good = ap (λ states. count_records states rec.Good) its_records;
          sessions = ap length its_sessions;
          spoiled = ap (λ states. count_sessions states session.Spoiled) its_sessions;
          closed = λ closed. subst (All (λ state. IsTrue (is_finished state))) its_records (closed_over closed);
        }

  pub batches_audited : All (IsAuditedBatch t) (stored_batches f)
  unfolding stored_batches
  batches_audited =
      All-map (IsAuditedBatch t) (stored_batch f) (batches_by_id f)
      (All-weaker (IsOwn f) (λ e. IsAuditedBatch t (stored_batch f e)) batch_audited (batches_by_id f) (own_batches f sound))
