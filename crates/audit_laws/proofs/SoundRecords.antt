-- The records and batches in the contents of audited rows are sound, and therefore the contents
-- are.
use Rattle.std.proofs.Common.{◌≡◌, ℕ, ◌==◌, ◌&&◌, Bool, true, false, cond, List, [], map, get_or, All, Option, Some, None, refl, sym, ap, subst, ◌∙◌, arith}
use Rattle.std.specs.Prelude.{AllPairs, IsSome, IsTrue, bytes_eq, count_by, find}
use Rattle.std.specs.List.{list_all, range_with_len}
use Rattle.std.proofs.lemmas.Bool.{and_from, and_parts, both_ways, false_from_ne_true, false≢true}
use Rattle.std.proofs.lemmas.List.Elements.{All-filter, All-map, All-weaker, filter_passes}
use Rattle.std.proofs.lemmas.List.Folds.{list_all-map, list_any_none}
use Rattle.std.proofs.lemmas.List.Kept.{AllPairs-filter}
use Rattle.std.proofs.lemmas.List.Sums.{list_all-from_AllPass}
use Rattle.store_data.proofs.FaultLemmas.{list_any-map}
use Rattle.store_data.proofs.GroupLemmas.{same-bytes_eq}
use Rattle.store_data.proofs.PieceLemmas.{sum_by-flat_map, sum_by-map}
use Rattle.job_facts.specs.Accounts.{record_states}
use Rattle.job_facts.specs.Contents.{AreSound}
use Rattle.job_facts.specs.Facts.{Batch, Facts, RecordName, Session}
use Rattle.job_facts.specs.Sound.{AreStates, IsRecord, IsSoundRecord}
use Rattle.job_facts.specs.States.{batch_named, is_batch_finished, is_finished, is_record, is_withdrawn as is_gone, record_state, records_named, remakes_of, states_of}
use Rattle.job_facts.proofs.Lists.{find-All, find-None}
use Rattle.step_laws.proofs.BlankSums.{bytes_eq_either}
use Rattle.table_rows.proofs.Found.{filter_none, find_passes}
use Rattle.image_laws.proofs.Lists.{All-joined}
use Rattle.table_rows.specs.Tables.{StoredBatch, StoredRecord, StoredRemake, StoredSession, Tables}
use Rattle.image_laws.specs.Decided.{batch_name, batch_of_row, closed_rows, contents_of, facts_of, record_name, remade_of_row, withdrawn_of_row, withdrawn_rows}
use Rattle.table_rows.specs.Keys.{is_record_at}
use Rattle.row_laws.proofs.Finding.{AllPairs-from_map, AllPairs-map}
use Rattle.audit_laws.specs.Audited.{IsAudited, IsAuditedBatch, IsAuditedRecord, IsAuditedSession, is_withdrawn, record_states_of, states_at, turns_of}
use Rattle.audit_laws.proofs.Agreeing.{BatchAgrees, RecordAgrees}
use Rattle.audit_laws.proofs.SoundLists.{count_alike, equal, sum_none}
use Rattle.audit_laws.proofs.SoundNames.{key_found, named_found, of_record, record_found, record_name_found, record_once, records_placed, same_names}
use Rattle.audit_laws.proofs.SoundSessions.{kept_states, rec_is}
use Rattle.audit_laws.proofs.SoundFacts.{are_named, are_sessions, record_there}
use Rattle.audit_laws.proofs.SoundRows.{batches_agree, records_agree}

-- A record without sessions, remakes and a withdrawal is sound.
without_any : IsSoundRecord [] false 0
without_any = record {
  one_card = omega arith;
  remade_least = omega arith;
  remade_most = omega arith;
  remade_all = λ hit. absurd (false≢true hit);
  withdrawn_none = λ gone. absurd (false≢true gone);
}

module _ (t : Tables) (audited : IsAudited t) where
  abbrev f : Facts
  f = facts_of t

  abbrev name_of : StoredRecord → RecordName
  name_of = withdrawn_of_row t

  abbrev IsThere : RecordName → Type 0
  IsThere n = IsRecord f n.batch n.rec

  module _ (b r : List ℕ) where
    abbrev passes : StoredRecord → Bool
    passes q = is_record b r (name_of q)

    abbrev IsSoundFor : List ℕ → List ℕ → Type 0
    IsSoundFor c q = IsSoundRecord (states_of f c q) (is_gone f c q) (remakes_of f c q)

    own_sound : (q : StoredRecord) → RecordAgrees t q → IsAuditedRecord t q → IsSoundFor (batch_name t q.batch) q.name
    own_sound q agrees is =
        let c : List ℕ = batch_name t q.batch in
        subst (λ states. IsSoundRecord states (is_gone f c q.name) (remakes_of f c q.name)) (sym agrees.states)
        (subst (λ gone. IsSoundRecord (states_at t q) gone (remakes_of f c q.name)) (sym agrees.withdrawn)
        (subst (IsSoundRecord (states_at t q) (is_withdrawn q)) (sym agrees.remakes) is.sound))

    -- ---- a name that no record has

    module _ (none : All (λ q. passes q ≡ false) t.records) where
      no_session : (s : StoredSession) → IsAuditedSession t s
          → (bytes_eq (batch_name t s.batch) b && bytes_eq (record_name t s.batch s.place) r) ≡ false
      no_session s is =
          let key = key_found t audited s.batch s.place is.rec is.rec_is in
          ap (λ n. bytes_eq (batch_name t s.batch) b && bytes_eq n r) (rec_is t audited s is)
          ∙ ap (λ id. bytes_eq (batch_name t id) b && bytes_eq is.rec.name r) (sym key.0)
          ∙ of_record t audited (λ q. passes q ≡ false) s.batch s.place is.rec none is.rec_is

      no_states : states_of f b r ≡ []
      unfolding states_of
      no_states =
          let never : StoredSession → Bool = λ s. false in
          kept_states t audited (λ (s : Session). bytes_eq s.batch b && bytes_eq s.rec r) never
          (λ k d within. no_session (get_or t.sessions k d) (audited.each_session k d within))
          ∙ ap (map (λ (s : StoredSession). s.state)) (filter_none never t.sessions (λ k d within. refl))

      not_gone : is_gone f b r ≡ false
      not_gone =
          list_any-map (is_record b r) name_of (withdrawn_rows t.records)
          ∙ list_any_none passes (withdrawn_rows t.records) (All-filter is_withdrawn (λ q. passes q ≡ false) t.records none)

      abbrev is_turn : StoredRemake → Bool
      is_turn m = is_record b r (remade_of_row t m)

      no_turns : (q : StoredRecord) → find (is_record_at q.batch q.place) t.records ≡ Some q → passes q ≡ false
          → count_by is_turn (turns_of q) ≡ 0
      no_turns q found other =
          count_alike is_turn (λ turn. let m : StoredRemake = record { batch = q.batch; place = q.place; turn = turn } in m) false
          (λ turn. ap (λ n. bytes_eq (batch_name t q.batch) b && bytes_eq n r) (record_name_found t audited q.batch q.place q found)
          ∙ other)
          (range_with_len 1 q.remakes)

      no_remakes : remakes_of f b r ≡ 0
      no_remakes =
          sum_by-map (λ (n : RecordName). cond {A = ℕ} (is_record b r n) 1 0) (remade_of_row t) t.remakes
          ∙ ap (count_by is_turn) audited.remakes
          ∙ sum_by-flat_map (λ m. cond {A = ℕ} (is_turn m) 1 0) turns_of t.records
          ∙ sum_none passes (λ q. count_by is_turn (turns_of q)) (λ q. 0) t.records
          (λ k d within. let q = get_or t.records k d in no_turns q (record_found t audited k d within) (none k d within)
          ∙ sym (nothing (passes q))) none
        where
          nothing : (hit : Bool) → cond {A = ℕ} hit 0 0 ≡ 0
          nothing true = refl
          nothing false = refl

      none_sound : IsSoundFor b r
      none_sound =
          subst (λ states. IsSoundRecord states (is_gone f b r) (remakes_of f b r)) (sym no_states)
          (subst (λ gone. IsSoundRecord [] gone (remakes_of f b r)) (sym not_gone)
          (subst (IsSoundRecord [] false) (sym no_remakes) without_any))

    record_sound : IsSoundFor b r
    record_sound = by_found (find passes t.records) refl
      where
        by_found : (o : Option StoredRecord) → find passes t.records ≡ o → IsSoundFor b r
        by_found None missing = none_sound (find-None passes t.records missing)
        by_found (Some q) found =
            let parts = and_parts (bytes_eq (batch_name t q.batch) b) (bytes_eq q.name r) (find_passes passes t.records q found) in
            let sound =
            own_sound q (find-All passes (RecordAgrees t) t.records q (records_agree t audited) found)
            (find-All passes (IsAuditedRecord t) t.records q audited.each_record found) in
            subst (λ c. IsSoundFor c r) (same-bytes_eq (batch_name t q.batch) b parts.0)
            (subst (IsSoundFor (batch_name t q.batch)) (same-bytes_eq q.name r parts.1) sound)

  -- ---- remakes and withdrawals

  records_there : All (λ q. IsThere (name_of q)) t.records
  records_there k d within = record_there t audited (get_or t.records k d) (records_placed t audited k d within)

  remade_there : (q : StoredRecord) → find (is_record_at q.batch q.place) t.records ≡ Some q → IsThere (name_of q)
      → All (λ m. IsThere (remade_of_row t m)) (turns_of q)
  remade_there q found there =
      All-map (λ m. IsThere (remade_of_row t m))
      (λ turn. let m : StoredRemake = record { batch = q.batch; place = q.place; turn = turn } in m) (range_with_len 1 q.remakes)
      (λ k d within. subst (IsRecord f (batch_name t q.batch)) (sym (record_name_found t audited q.batch q.place q found)) there)

  remade : All IsThere f.remakes
  remade =
      All-map IsThere (remade_of_row t) t.remakes
      (subst (All (λ m. IsThere (remade_of_row t m))) (sym audited.remakes)
      (All-joined (λ m. IsThere (remade_of_row t m)) turns_of t.records
      (λ k d within. remade_there (get_or t.records k d) (record_found t audited k d within) (records_there k d within))))

  withdrawn : All IsThere f.withdrawn
  withdrawn =
      All-map IsThere name_of (withdrawn_rows t.records) (All-filter is_withdrawn (λ q. IsThere (name_of q)) t.records records_there)

  abbrev AreApart : StoredRecord → StoredRecord → Type 0
  AreApart q r = is_record (batch_name t r.batch) r.name (name_of q) ≡ false

  records_apart : AllPairs AreApart t.records
  records_apart i j d before within =
      let q = get_or t.records i d in
      let r = get_or t.records j d in
      let at : StoredRecord → Bool = is_record_at r.batch r.place in
      let own : at r ≡ true =
      and_from (r.batch == r.batch) (r.place == r.place) (equal r.batch r.batch refl) (equal r.place r.place refl) in
      same_names t audited q r (records_placed t audited i d (omega (arith, before, within))) (records_placed t audited j d within)
      ∙ false_from_ne_true (at q) (λ hit. both_ways (at r) (record_once t audited r.batch r.place i j d before within hit) own)

  withdrawn_once : AllPairs (λ (m n : RecordName). is_record n.batch n.rec m ≡ false) f.withdrawn
  withdrawn_once =
      AllPairs-map (λ (m n : RecordName). is_record n.batch n.rec m ≡ false) name_of (withdrawn_rows t.records)
      (AllPairs-filter AreApart is_withdrawn t.records records_apart)

  -- ---- closed batches

  abbrev name : StoredBatch → List ℕ
  name b = b.name

  abbrev is_closed_row : StoredBatch → Bool
  is_closed_row b = b.closed

  batches_apart : AllPairs (λ (b c : StoredBatch). bytes_eq c.name b.name ≡ false) t.batches
  batches_apart i j d before within =
      let Apart : List ℕ → List ℕ → Type 0 = λ m n. bytes_eq m n ≡ false in
      let batch_name_of : Batch → List ℕ = λ b. b.name in
      let once =
      AllPairs-from_map (λ (b c : Batch). bytes_eq b.name c.name ≡ false) batch_of_row t.batches
      (AllPairs-from_map Apart batch_name_of (map batch_of_row t.batches) audited.batches.once) in
      bytes_eq_either (get_or t.batches j d).name (get_or t.batches i d).name ∙ once i j d before within

  closed_once : AllPairs (λ b c. bytes_eq c b ≡ false) f.closed
  closed_once =
      AllPairs-map (λ b c. bytes_eq c b ≡ false) name (closed_rows t.batches)
      (AllPairs-filter (λ b c. bytes_eq c.name b.name ≡ false) is_closed_row t.batches batches_apart)

  closed_there : All (λ b. IsSome (batch_named f.batches b)) f.closed
  closed_there =
      All-map (λ b. IsSome (batch_named f.batches b)) name (closed_rows t.batches)
      (All-filter is_closed_row (λ b. IsSome (batch_named f.batches b.name)) t.batches
      (All-weaker (λ (b : StoredBatch). batch_named f.batches b.name ≡ Some (batch_of_row b)) (λ b. IsSome (batch_named f.batches b.name))
      (λ b found. subst (λ o. IsSome o) (sym found) refl) t.batches (named_found t audited)))

  batch_finished : (b : StoredBatch) → b.closed ≡ true → BatchAgrees t b → IsAuditedBatch t b → is_batch_finished f b.name ≡ true
  unfolding is_batch_finished record_states
  batch_finished b hit agrees is =
      sym (list_all-map is_finished (record_state f b.name) (records_named f b.name)) ∙ ap (list_all is_finished) agrees.its_records
      ∙ list_all-from_AllPass is_finished (record_states_of t b) (is.closed hit)

  closed : All (λ b. IsTrue (is_batch_finished f b)) f.closed
  closed =
      All-map (λ b. IsTrue (is_batch_finished f b)) name (closed_rows t.batches)
      (λ k d within. batch_finished (get_or (closed_rows t.batches) k d) (filter_passes is_closed_row t.batches k d within)
      (All-filter is_closed_row (BatchAgrees t) t.batches (batches_agree t audited) k d within)
      (All-filter is_closed_row (IsAuditedBatch t) t.batches audited.each_batch k d within))

  are_states : AreStates f
  are_states = record {
    records = record_sound;
    remade = remade;
    withdrawn = withdrawn;
    withdrawn_once = withdrawn_once;
    closed_once = closed_once;
    closed_there = closed_there;
    closed = closed;
  }

  pub contents_sound : AreSound (contents_of t)
  contents_sound = record {
    facts = record { named = are_named t audited; sessions = are_sessions t audited; states = are_states };
    kept = audited.kept;
    kept_once = audited.kept_once;
    marks = audited.marks;
    marked_once = audited.marked_once;
    above = audited.above;
  }
