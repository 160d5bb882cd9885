-- The contents of audited rows agree with the rows of records and batches, including all states.
use Rattle.std.proofs.Common.{◌≡◌, ℕ, ◌==◌, ◌&&◌, Bool, true, false, cond, List, map, get_or, All, Some, refl, sym, ap, ◌∙◌}
use Rattle.std.specs.Prelude.{bytes_eq, count_by, filter, find}
use Rattle.std.specs.List.{enumerate_from, range_with_len}
use Rattle.std.proofs.lemmas.List.Elements.{All-filter, All-map, All-weaker, filter_passes}
use Rattle.std.proofs.lemmas.List.FromFn.{length-range_with_len}
use Rattle.std.proofs.lemmas.Simd.{map-map}
use Rattle.store_data.proofs.FaultLemmas.{list_any-map}
use Rattle.store_data.proofs.PieceLemmas.{sum_by-flat_map, sum_by-map}
use Rattle.store_data.proofs.SummaryLemmas.{filter-map}
use Rattle.job_facts.specs.Accounts.{record_states, session_states}
use Rattle.job_facts.specs.Facts.{Facts, RecordName, Session}
use Rattle.job_facts.specs.States.{batch_named, is_closed, is_record, is_spoiled, is_withdrawn as is_gone, record_state, records_under, remakes_of, state_by, states_of}
use Rattle.job_facts.proofs.Lists.{map_same}
use Rattle.step_laws.proofs.BlankSums.{bytes_eq_either}
use Rattle.table_rows.specs.Tables.{StoredBatch, StoredRecord, StoredRemake, StoredSession, Tables}
use Rattle.image_laws.specs.Image.{batch_id}
use Rattle.image_laws.specs.Decided.{batch_name, batch_of_row, closed_rows, facts_of, record_name, remade_of_row, withdrawn_of_row, withdrawn_rows}
use Rattle.table_rows.specs.Keys.{is_batch, is_record_at, is_record_of}
use Rattle.row_laws.proofs.Finding.{filter_all, kept_joined, unnumbered}
use Rattle.audit_laws.specs.Audited.{IsAudited, IsAuditedRecord, IsAuditedSession, file_keys, file_records, is_session_at, is_session_of, is_withdrawn, key_of, record_states_of, session_states_of, states_at, turns_of}
use Rattle.audit_laws.proofs.Agreeing.{BatchAgrees, RecordAgrees, RowsAgree}
use Rattle.audit_laws.proofs.SoundLists.{any_kept, count_alike, equal, same_number, sum_alone}
use Rattle.audit_laws.proofs.SoundNames.{IsPlaced, batch_found, batch_once, batches_numbered, id_found, key_found, name_found, named_found, of_batch, of_record, own_ids, record_found, record_name_found, record_once, records_placed, same_batches, same_names}
use Rattle.audit_laws.proofs.SoundSessions.{batch_is, kept_states, rec_is, sessions_agree, sessions_numbered}

module _ (t : Tables) (audited : IsAudited t) where
  abbrev f : Facts
  f = facts_of t

  -- ---- a record

  module _ (r : StoredRecord) (placed : IsPlaced t (key_of r)) (found : find (is_record_at r.batch r.place) t.records ≡ Some r)
      (is : IsAuditedRecord t r) where
    abbrev at : StoredRecord → Bool
    at = is_record_at r.batch r.place

    abbrev batch : List ℕ
    batch = batch_name t r.batch

    -- Row `q` has the name of record `r` if and only if it has its place.
    abbrev IsAlike : StoredRecord → Type 0
    IsAlike q = (bytes_eq (batch_name t q.batch) batch && bytes_eq q.name r.name) ≡ at q

    names_alike : All IsAlike t.records
    names_alike =
        All-weaker (λ (q : StoredRecord). IsPlaced t (key_of q)) IsAlike (λ q at_q. same_names t audited q r at_q placed) t.records
        (records_placed t audited)

    session_alike : (s : StoredSession) → IsAuditedSession t s
        → (bytes_eq (batch_name t s.batch) batch && bytes_eq (record_name t s.batch s.place) r.name) ≡ is_session_at r.batch r.place s
    session_alike s a =
        let key = key_found t audited s.batch s.place a.rec a.rec_is in
        ap (λ n. bytes_eq (batch_name t s.batch) batch && bytes_eq n r.name) (rec_is t audited s a)
        ∙ ap (λ id. bytes_eq (batch_name t id) batch && bytes_eq a.rec.name r.name) (sym key.0)
        ∙ of_record t audited IsAlike s.batch s.place a.rec names_alike a.rec_is
        ∙ ap (λ id. (id == r.batch) && (a.rec.place == r.place)) key.0
        ∙ ap (λ place. (s.batch == r.batch) && (place == r.place)) key.1

    states_are : states_of f batch r.name ≡ states_at t r
    unfolding states_of
    states_are =
        kept_states t audited (λ (s : Session). bytes_eq s.batch batch && bytes_eq s.rec r.name) (is_session_at r.batch r.place)
        (λ k d within. session_alike (get_or t.sessions k d) (audited.each_session k d within))

    withdrawn_is : is_gone f batch r.name ≡ is_withdrawn r
    withdrawn_is =
        list_any-map (is_record batch r.name) (withdrawn_of_row t) (withdrawn_rows t.records)
        ∙ any_kept is_withdrawn at (λ q. is_record batch r.name (withdrawn_of_row t q)) t.records r names_alike
        (record_once t audited r.batch r.place) found

    abbrev is_turn : StoredRemake → Bool
    is_turn m = is_record batch r.name (remade_of_row t m)

    turns_counted : (q : StoredRecord) → find (is_record_at q.batch q.place) t.records ≡ Some q → IsAlike q
        → count_by is_turn (turns_of q) ≡ cond (at q) q.remakes 0
    turns_counted q found_q alike =
        count_alike is_turn (λ turn. let m : StoredRemake = record { batch = q.batch; place = q.place; turn = turn } in m) (at q)
        (λ turn. ap (λ n. bytes_eq (batch_name t q.batch) batch && bytes_eq n r.name)
        (record_name_found t audited q.batch q.place q found_q) ∙ alike)
        (range_with_len 1 q.remakes)
        ∙ ap (λ n. cond (at q) n 0) (length-range_with_len 1 q.remakes)

    remakes_are : remakes_of f batch r.name ≡ r.remakes
    remakes_are =
        sum_by-map (λ (n : RecordName). cond {A = ℕ} (is_record batch r.name n) 1 0) (remade_of_row t) t.remakes
        ∙ ap (count_by is_turn) audited.remakes
        ∙ sum_by-flat_map (λ m. cond {A = ℕ} (is_turn m) 1 0) turns_of t.records
        ∙ sum_alone at (λ q. count_by is_turn (turns_of q)) (λ q. q.remakes) t.records r
        (λ k d within. turns_counted (get_or t.records k d) (record_found t audited k d within) (names_alike k d within))
        (record_once t audited r.batch r.place) found

    state_is : record_state f batch r.name ≡ r.state
    unfolding record_state
    state_is =
        ap (λ states. state_by states (is_gone f batch r.name) (remakes_of f batch r.name)) states_are
        ∙ ap (λ gone. state_by (states_at t r) gone (remakes_of f batch r.name)) withdrawn_is
        ∙ ap (state_by (states_at t r) (is_withdrawn r)) remakes_are ∙ sym is.state

    record_agrees : RecordAgrees t r
    record_agrees = record {
      states = states_are;
      withdrawn = withdrawn_is;
      remakes = remakes_are;
      state = state_is;
      spoiled = ap (count_by is_spoiled) states_are ∙ sym is.spoiled;
    }

  pub records_agree : All (RecordAgrees t) t.records
  records_agree k d within =
      record_agrees (get_or t.records k d) (records_placed t audited k d within) (record_found t audited k d within)
      (audited.each_record k d within)

  -- ---- a batch

  module _ (b : StoredBatch) (found : find (is_batch b.id) t.batches ≡ Some b) (own : batch_id f.batches b.name ≡ b.id)
      (there : batch_named f.batches b.name ≡ Some (batch_of_row b)) where
    closed_is : is_closed f b.name ≡ b.closed
    closed_is =
        list_any-map (bytes_eq b.name) (λ (c : StoredBatch). c.name) (closed_rows t.batches)
        ∙ any_kept (λ (c : StoredBatch). c.closed) (is_batch b.id) (λ c. bytes_eq b.name c.name) t.batches b
        (λ k d within. let c = get_or t.batches k d in bytes_eq_either b.name c.name ∙ same_batches t audited b own k d within)
        (batch_once t audited b.id) found

    of_same_batch : (s : StoredSession) → IsAuditedSession t s → bytes_eq (batch_name t s.batch) b.name ≡ is_session_of b.id s
    of_same_batch s a =
        ap (λ n. bytes_eq n b.name) (batch_is t audited s a)
        ∙ of_batch t audited (λ c. bytes_eq c.name b.name ≡ (c.id == b.id)) s.batch a.batch (same_batches t audited b own) a.batch_is
        ∙ ap (λ id. id == b.id) (id_found t audited s.batch a.batch a.batch_is)

    sessions_are : session_states f b.name ≡ session_states_of t b
    unfolding session_states
    sessions_are =
        kept_states t audited (λ (s : Session). bytes_eq s.batch b.name) (is_session_of b.id)
        (λ k d within. of_same_batch (get_or t.sessions k d) (audited.each_session k d within))

    abbrev rows : List StoredRecord
    rows = filter (is_record_of b.id) t.records

    abbrev is_key_of : ℕ × (ℕ × List ℕ) → Bool
    is_key_of key = key.0 == b.id

    abbrev key_in : ℕ → ℕ × List ℕ → ℕ × (ℕ × List ℕ)
    key_in id e = (id, e)

    keys_are : map key_of rows ≡ file_keys t b
    keys_are =
        sym (filter-map is_key_of key_of t.records) ∙ ap (filter is_key_of) audited.records
        ∙ kept_joined is_key_of (is_batch b.id) (file_keys t)
        (λ c miss. All-map (λ key. is_key_of key ≡ false) (key_in c.id) (enumerate_from 0 (file_records t c)) (λ k d within. miss))
        t.batches b (batch_once t audited b.id) found
        ∙ filter_all is_key_of (file_keys t b)
        (All-map (λ key. is_key_of key ≡ true) (key_in b.id) (enumerate_from 0 (file_records t b)) (λ k d within. equal b.id b.id refl))

    -- The rows of a batch have the record names of its file.
    names_are : map (λ (r : StoredRecord). r.name) rows ≡ file_records t b
    names_are =
        let name : ℕ × (ℕ × List ℕ) → List ℕ = λ key. key.1.1 in
        sym (map-map name key_of rows) ∙ ap (map name) keys_are ∙ map-map name (key_in b.id) (enumerate_from 0 (file_records t b))
        ∙ unnumbered 0 (file_records t b)

    row_state : (r : StoredRecord) → (r.batch == b.id) ≡ true → RecordAgrees t r → record_state f b.name r.name ≡ r.state
    row_state r hit agrees =
        let name : batch_name t r.batch ≡ b.name = ap (batch_name t) (same_number r.batch b.id hit) ∙ name_found t audited b.id b found in
        ap (λ n. record_state f n r.name) (sym name) ∙ agrees.state

    records_are : record_states f b.name ≡ record_states_of t b
    unfolding record_states
    records_are =
        ap (λ o. map (record_state f b.name) (records_under t.products o)) there
        ∙ ap (map (record_state f b.name)) (sym names_are)
        ∙ map-map (record_state f b.name) (λ (r : StoredRecord). r.name) rows
        ∙ map_same (λ (r : StoredRecord). record_state f b.name r.name) (λ (r : StoredRecord). r.state) rows
        (λ k d within. row_state (get_or rows k d) (filter_passes (is_record_of b.id) t.records k d within)
        (All-filter (is_record_of b.id) (RecordAgrees t) t.records records_agree k d within))

    batch_agrees : BatchAgrees t b
    batch_agrees =
        record { name = name_found t audited b.id b found; closed = closed_is; its_records = records_are; its_sessions = sessions_are }

  pub batches_agree : All (BatchAgrees t) t.batches
  batches_agree k d within =
      batch_agrees (get_or t.batches k d) (batch_found t audited k d within) (own_ids t audited k d within) (named_found t audited k d within)

pub rows_agree : (t : Tables) → IsAudited t → RowsAgree t
rows_agree t audited = record {
  batches = batches_numbered t audited;
  sessions = sessions_numbered t audited;
  each_batch = batches_agree t audited;
  each_record = records_agree t audited;
  each_session = sessions_agree t audited;
}
