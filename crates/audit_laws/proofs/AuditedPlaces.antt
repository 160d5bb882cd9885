-- The positions of the batches, records and sessions of sound facts in their image, and the rows of
-- the image that are selected by ids and places.
use Rattle.std.proofs.Common.{◌≡◌, ℕ, ◌+◌, ◌<◌, ◌==◌, ◌&&◌, Bool, true, List, [], get_or, length, map, All, Some, inl, inr, sym, ap, subst, ◌∙◌, arith}
use Rattle.std.specs.Prelude.{bytes_eq, filter, slice_get}
use Rattle.std.specs.List.{enumerate_from, list_any}
use Rattle.std.proofs.lemmas.Bool.{cases_Bool, eqb-true}
use Rattle.std.proofs.lemmas.List.Elements.{All-weaker}
use Rattle.std.proofs.lemmas.List.Folds.{list_any_at}
use Rattle.std.proofs.lemmas.List.FromFn.{get_or-enumerate_from, length-enumerate_from}
use Rattle.std.proofs.lemmas.Simd.{map-map}
use Rattle.store_data.proofs.GroupLemmas.{bytes_eq-same, same-bytes_eq}
use Rattle.store_data.proofs.SummaryLemmas.{filter-map}
use Rattle.job_facts.specs.declared.facts.RecordState.{RecordState}
use Rattle.job_facts.specs.declared.facts.SessionState.{SessionState}
use Rattle.job_facts.specs.Accounts.{record_states, session_states}
use Rattle.job_facts.specs.Facts.{Batch, Facts, Session}
use Rattle.job_facts.specs.Sound.{IsRecord, IsSession, IsSound}
use Rattle.job_facts.specs.States.{batch_named, record_state, records_named, records_of, session_state, states_of}
use Rattle.job_facts.proofs.SoundFacts.{is_for}
use Rattle.table_rows.proofs.Found.{filter_alike}
use Rattle.table_rows.specs.Tables.{StoredRecord, StoredSession}
use Rattle.image_laws.specs.Image.{batch_id, batches_by_id, place_in, placed_records, sessions_by_id, stored_record, stored_records, stored_session, stored_sessions}
use Rattle.image_laws.proofs.Lists.{All-numbered}
use Rattle.image_laws.proofs.OneRecord.{ids, named_alone, places_in}
use Rattle.image_laws.proofs.Sets.{numbered_there}
use Rattle.table_rows.specs.Keys.{is_record_of}
use Rattle.row_laws.proofs.BatchRecords.{rows_of_batch}
use Rattle.row_laws.proofs.Finding.{kept_numbered, unnumbered}
use Rattle.row_laws.proofs.GroupingRows.{place_alike}
use Rattle.row_laws.proofs.LineRows.{id_alike}
use Rattle.row_laws.proofs.RecordRows.{names_are}
use Rattle.audit_laws.specs.Audited.{is_session_at, is_session_of}

-- If `P` holds for each element with its number, it holds for all elements of the numbered list.
pub All-placed : {X : Type 0} (P : ℕ × X → Type 0) (n : ℕ) (xs : List X)
    → ((k : ℕ) (x : X) → slice_get xs k ≡ Some x → P (n + k, x)) → All P (enumerate_from n xs)
All-placed {X} P n xs each =
    All-weaker (λ (e : ℕ × X). (k : ℕ) × (e.0 ≡ n + k) × (slice_get xs k ≡ Some e.1)) P
    (λ e at. subst (λ i. P (i, e.1)) (sym at.1) (each at.0 e.1 at.2)) (enumerate_from n xs) (numbered_there n xs)

-- ---- batches and their records

-- A look-up of the name of batch `e` finds this batch, with this id.
abbrev pub IsOwn : Facts → ℕ × Batch → Type 0
IsOwn f e = (batch_named f.batches e.1.name ≡ Some e.1) × (e.0 ≡ batch_id f.batches e.1.name)

-- Batch `e` contains a record with the name of `r`, and `r` has the place of this name.
pub record IsOwnRecord (f : Facts) (e : ℕ × Batch) (r : ℕ × List ℕ) : Type 0 where
  pub batch : IsOwn f e
  pub there : IsRecord f e.1.name r.1
  pub place : r.0 ≡ place_in (records_named f e.1.name) r.1

module _ (f : Facts) (sound : IsSound f) where
  pub own_batches : All (IsOwn f) (batches_by_id f)
  own_batches k d within =
      let e : ℕ × Batch = get_or (batches_by_id f) k d in
      let itself = bytes_eq-same e.1.name in
      let b : List ℕ = e.1.name in
      (named_alone f b [] sound k d within itself, eqb-true e.0 (batch_id f.batches b) (ids f b [] sound k d within ∙ itself))

  pub own_records : (e : ℕ × Batch) → IsOwn f e → All (IsOwnRecord f e) (placed_records f e)
  own_records e own k d within =
      let names : List (List ℕ) = records_of f.products e.1 in
      let r : ℕ × List ℕ = get_or (placed_records f e) k d in
      let inside : k < length names = omega (arith, within, length-enumerate_from 0 names) in
      let name : get_or names k d.1 ≡ r.1 = sym (ap (λ (x : ℕ × List ℕ). x.1) (get_or-enumerate_from 0 names k d inside)) in
      let there : list_any (bytes_eq r.1) names ≡ true =
      list_any_at (bytes_eq r.1) names k d.1 inside (ap (bytes_eq r.1) name ∙ bytes_eq-same r.1) in
      record {
        batch = own;
        there = ap (list_any (bytes_eq r.1)) (sym (names_are f e.1.name e.1 own.0)) ∙ there;
        place = eqb-true r.0 (place_in (records_named f e.1.name) r.1)
            (places_in f e.1.name r.1 sound e own.0 k d within ∙ bytes_eq-same r.1);
      }

  -- ---- the states of sessions

  kept_states : (p : StoredSession → Bool) (q : Session → Bool)
      → ((k : ℕ) (s : Session) → IsSession f s → p (stored_session f (k, s)) ≡ q s)
      → map (λ (s : StoredSession). s.state) (filter p (stored_sessions f)) ≡ map (session_state f) (filter q f.sessions)
  unfolding stored_sessions
  kept_states p q alike =
      let state : StoredSession → SessionState = λ s. s.state in
      let by_row : ℕ × Session → Bool = λ e. p (stored_session f e) in
      let by_name : ℕ × Session → Bool = λ e. q e.1 in
      ap (map state) (filter-map p (stored_session f) (sessions_by_id f))
      ∙ map-map state (stored_session f) (filter by_row (sessions_by_id f))
      ∙ ap (map (λ (e : ℕ × Session). session_state f e.1)) (filter_alike by_row by_name (sessions_by_id f)
      (All-weaker (λ (e : ℕ × Session). IsSession f e.1) (λ e. by_row e ≡ by_name e) (λ e is. alike e.0 e.1 is) (sessions_by_id f)
      (All-numbered (IsSession f) 1 f.sessions sound.sessions.each)))
      ∙ sym (map-map (session_state f) (λ (e : ℕ × Session). e.1) (filter by_name (sessions_by_id f)))
      ∙ ap (map (session_state f)) (kept_numbered q 1 f.sessions)

  module _ (e : ℕ × Batch) (own : IsOwn f e) where
    of_batch : (s : Session) → IsSession f s → (batch_id f.batches s.batch == e.0) ≡ bytes_eq s.batch e.1.name
    of_batch s is = ap (λ id. batch_id f.batches s.batch == id) own.1 ∙ id_alike f s.batch e.1.name is.batch e.1 is.batch_is own.0

    pub batch_session_states
        : map (λ (s : StoredSession). s.state) (filter (is_session_of e.0) (stored_sessions f)) ≡ session_states f e.1.name
    unfolding session_states
    batch_session_states = kept_states (is_session_of e.0) (λ s. bytes_eq s.batch e.1.name) (λ k s is. of_batch s is)

    pub batch_record_states : map (λ (r : StoredRecord). r.state) (filter (is_record_of e.0) (stored_records f)) ≡ record_states f e.1.name
    unfolding record_states
    batch_record_states =
        let b : List ℕ = e.1.name in
        let state : StoredRecord → RecordState = λ r. r.state in
        ap (λ id. map state (filter (is_record_of id) (stored_records f))) own.1
        ∙ ap (map state) (rows_of_batch f b e.1 own.0)
        ∙ map-map state (stored_record f (batch_id f.batches b, e.1)) (enumerate_from 0 (records_named f b))
        ∙ sym (map-map (record_state f b) (λ (r : ℕ × List ℕ). r.1) (enumerate_from 0 (records_named f b)))
        ∙ ap (map (record_state f b)) (unnumbered 0 (records_named f b))

  module _ (e : ℕ × Batch) (r : ℕ × List ℕ) (own : IsOwnRecord f e r) where
    of_record : (s : Session) → IsSession f s
        → ((batch_id f.batches s.batch == e.0) && (place_in (records_named f s.batch) s.rec == r.0)) ≡ is_for e.1.name r.1 s
    of_record s is =
        let at : Bool = place_in (records_named f s.batch) s.rec == r.0 in
        let names : List (List ℕ) = records_named f e.1.name in
        ap (λ t. t && at) (of_batch e own.batch s is)
        ∙ elim (cases_Bool (bytes_eq s.batch e.1.name)) [
          | inl hit ↦
              let mine : s.batch ≡ e.1.name = same-bytes_eq s.batch e.1.name hit in
              let among : IsRecord f e.1.name s.rec = ap (λ n. list_any (bytes_eq s.rec) (records_named f n)) (sym mine) ∙ is.there in
              let by_place : at ≡ bytes_eq s.rec r.1 =
              ap (λ n. place_in (records_named f n) s.rec == r.0) mine ∙ ap (λ k. place_in names s.rec == k) own.place
              ∙ place_alike names s.rec r.1 among own.there in
              ap (λ t. bytes_eq s.batch e.1.name && t) by_place
          | inr miss ↦ ap (λ t. t && at) miss ∙ sym (ap (λ t. t && bytes_eq s.rec r.1) miss)
        ]

    pub record_session_states
        : map (λ (s : StoredSession). s.state) (filter (is_session_at e.0 r.0) (stored_sessions f)) ≡ states_of f e.1.name r.1
    unfolding states_of
    record_session_states = kept_states (is_session_at e.0 r.0) (is_for e.1.name r.1) (λ k s is. of_record s is)
