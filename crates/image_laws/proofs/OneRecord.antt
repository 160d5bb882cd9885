-- The rows of records and batches after the sessions, remakes and withdrawal of only one record
-- change.
use Rattle.std.proofs.Common.{◌≡◌, ℕ, ◌==◌, ◌&&◌, Bool, true, false, List, [], ◌∷◌, ◌++◌, All, map, Option, Some, None, inl, inr, refl, sym, ap, ◌∙◌, subst, arith}
use Rattle.std.specs.Prelude.{bytes_eq, count_by}
use Rattle.std.specs.List.{enumerate_from, list_any}
use Rattle.std.proofs.lemmas.Bool.{and_from, and_left, and_right, cases_Bool, cond-false, cond-true}
use Rattle.std.proofs.lemmas.List.{map-append}
use Rattle.std.proofs.lemmas.List.Elements.{All-weaker}
use Rattle.std.proofs.lemmas.Simd.{map-map}
use Rattle.store_data.proofs.GroupLemmas.{Distinct, Distinct-first_appearances, same-bytes_eq}
use Rattle.store_data.proofs.IsPlanLemmas.{All-from_list_any}
use Rattle.store_data.specs.declared.row.Product.{Product}
use Rattle.store_data.specs.declared.row.Row.{Row}
use Rattle.job_facts.specs.declared.facts.RecordState.{RecordState}
use Rattle.job_facts.specs.declared.facts.SessionState.{SessionState}
use Rattle.job_facts.specs.declared.rows.BatchTotals.{BatchTotals}
use Rattle.job_facts.specs.Accounts.{batch_totals, record_states, session_states, totals_by}
use Rattle.job_facts.specs.Facts.{Batch, Facts, RecordName, Session}
use Rattle.job_facts.specs.Sound.{IsRecord, IsSound}
use Rattle.job_facts.specs.States.{batch_named, is_closed, is_record, is_spoiled, record_state, records_named, records_of, records_under, remakes_of, rows_of, states_of}
use Rattle.job_facts.proofs.Lists.{map_same}
use Rattle.step_laws.specs.Records.{StandsSame}
use Rattle.step_laws.proofs.BlankSums.{bytes_eq_either, named_once}
use Rattle.step_laws.proofs.RecordStands.{named}
use Rattle.table_rows.specs.After.{less, more}
use Rattle.table_rows.specs.Tables.{StoredBatch, StoredRecord, record_set, totals_set}
use Rattle.image_laws.specs.Image.{batch_by, batch_id, batches_by_id, place_in, placed_records, records_in, stored_batch, stored_batches, stored_record, stored_records}
use Rattle.image_laws.proofs.Lists.{All-numbered, flat_map_same}
use Rattle.image_laws.proofs.Places.{HasPlace, IsAround, Once, around, found_alone, map_joined, once_of, placed}
use Rattle.image_laws.proofs.Staying.{totals_are}
use Rattle.image_laws.proofs.Totals.{passes_to}

-- ---- the place of a record

pub turned : (m n : List ℕ) → bytes_eq m n ≡ false → bytes_eq n m ≡ false
turned m n differ = bytes_eq_either n m ∙ differ

name_once : (r : List ℕ) (names : List (List ℕ)) → Distinct names → Once (bytes_eq r) names
name_once r [] distinct = tt
name_once r (n ∷ names) distinct =
    (λ hit. ap (λ k. list_any (bytes_eq k) names) (same-bytes_eq r n hit) ∙ distinct.0, name_once r names distinct.1)

pub records_once : (products : List Product) (batch : Batch) (r : List ℕ) → Once (bytes_eq r) (records_of products batch)
unfolding records_of
records_once products batch r =
    let names : List (List ℕ) = map (λ (row : Row). row.rec) (rows_of products batch) in
    name_once r (records_of products batch) (Distinct-first_appearances [] names tt)

under_once : (products : List Product) (o : Option Batch) (r : List ℕ) → Once (bytes_eq r) (records_under products o)
under_once products None r = tt
under_once products (Some batch) r = records_once products batch r

abbrev pub has_name : List ℕ → Batch → Bool
has_name b batch = bytes_eq batch.name b

module _ (f : Facts) (b r : List ℕ) (sound : IsSound f) where
  pub batch_once : Once (has_name b) f.batches
  batch_once = once_of (has_name b) f.batches (named_once (λ (batch : Batch). batch.name) f.batches b sound.named.batches.once)

  -- A batch has the id of the name `b` if and only if it has this name.
  pub ids : All (HasPlace (has_name b) (batch_id f.batches b)) (batches_by_id f)
  ids = placed (has_name b) 1 (batch_id f.batches b) f.batches batch_once refl

  pub named_alone : All (λ (e : ℕ × Batch). has_name b e.1 ≡ true → batch_named f.batches b ≡ Some e.1) (batches_by_id f)
  named_alone = All-numbered (λ (batch : Batch). has_name b batch ≡ true → batch_named f.batches b ≡ Some batch) 1 f.batches (found_alone (has_name b) f.batches batch_once)

  -- A record has the place of the name `r` if and only if it has this name.
  pub places : All (HasPlace (bytes_eq r) (place_in (records_named f b) r)) (enumerate_from 0 (records_named f b))
  places = placed (bytes_eq r) 0 (place_in (records_named f b) r) (records_named f b) (under_once f.products (batch_named f.batches b) r) (omega arith)

  pub places_in : (e : ℕ × Batch) → batch_named f.batches b ≡ Some e.1 → All (HasPlace (bytes_eq r) (place_in (records_named f b) r)) (placed_records f e)
  places_in e there = subst (λ o. All (HasPlace (bytes_eq r) (place_in (records_named f b) r)) (enumerate_from 0 (records_under f.products o))) there places

module _ (f : Facts) (sessions : List Session) (remakes withdrawn : List RecordName) (b r : List ℕ) where
  abbrev pub next_facts : Facts
  next_facts = record f { sessions = sessions; remakes = remakes; withdrawn = withdrawn }

  abbrev id : ℕ
  id = batch_id f.batches b

  abbrev place : ℕ
  place = place_in (records_named f b) r

  module _ (sound : IsSound f) (others : (c q : List ℕ) → is_record c q (named b r) ≡ false → StandsSame f next_facts c q) where
    -- ---- records

    row_stays : (e : ℕ × Batch) (q : ℕ × List ℕ) → is_record e.1.name q.1 (named b r) ≡ false → stored_record next_facts e q ≡ stored_record f e q
    row_stays e q other =
        let as_before = others e.1.name q.1 other in
        let states = as_before.states in
        let remade = as_before.remakes in
        let state = as_before.stands in
        rw (states, remade, state) refl

    module _ (state : RecordState) (spoiled remade : ℕ) (state_is : record_state next_facts b r ≡ state)
        (spoiled_is : count_by is_spoiled (states_of next_facts b r) ≡ spoiled) (remade_is : remakes_of next_facts b r ≡ remade) where
      abbrev set : StoredRecord → StoredRecord
      set = record_set id place state spoiled remade

      -- a row of another batch, or with another place
      missed : (e : ℕ × Batch) (q : ℕ × List ℕ) → is_record e.1.name q.1 (named b r) ≡ false → ((e.0 == id) && (q.0 == place)) ≡ false
          → stored_record next_facts e q ≡ set (stored_record f e q)
      missed e q other miss =
          let row : StoredRecord = stored_record f e q in
          row_stays e q other ∙ sym (cond-false ((e.0 == id) && (q.0 == place)) (record row { state = state; spoiled = spoiled; remakes = remade }) row miss)

      struck : (e : ℕ × Batch) (q : ℕ × List ℕ) → e.1.name ≡ b → q.1 ≡ r → ((e.0 == id) && (q.0 == place)) ≡ true
          → stored_record next_facts e q ≡ set (stored_record f e q)
      struck e q batch name hit =
          let row : StoredRecord = stored_record f e q in
          let as_now : List ℕ → List ℕ → StoredRecord =
          λ c n. record row { state = record_state next_facts c n; spoiled = count_by is_spoiled (states_of next_facts c n); remakes = remakes_of next_facts c n } in
          ap (λ c. as_now c q.1) batch ∙ ap (as_now b) name
          ∙ ap (λ s. record row { state = s; spoiled = count_by is_spoiled (states_of next_facts b r); remakes = remakes_of next_facts b r }) state_is
          ∙ ap (λ n. record row { state = state; spoiled = n; remakes = remakes_of next_facts b r }) spoiled_is
          ∙ ap (λ n. record row { state = state; spoiled = spoiled; remakes = n }) remade_is
          ∙ sym (cond-true ((e.0 == id) && (q.0 == place)) (record row { state = state; spoiled = spoiled; remakes = remade }) row hit)

      row_set : (e : ℕ × Batch) (q : ℕ × List ℕ) → e.1.name ≡ b → (e.0 == id) ≡ true → (q.0 == place) ≡ bytes_eq r q.1
          → stored_record next_facts e q ≡ set (stored_record f e q)
      row_set e q batch number at = elim (cases_Bool (bytes_eq r q.1)) [
        | inl hit ↦ struck e q batch (sym (same-bytes_eq r q.1 hit)) (and_from (e.0 == id) (q.0 == place) number (at ∙ hit))
        | inr miss ↦ missed e q (and_right (bytes_eq b e.1.name) (bytes_eq r q.1) miss) (and_right (e.0 == id) (q.0 == place) (at ∙ miss))
      ]

      rows_set : (e : ℕ × Batch) → (e.0 == id) ≡ has_name b e.1 → (has_name b e.1 ≡ true → batch_named f.batches b ≡ Some e.1)
          → records_in next_facts e ≡ map set (records_in f e)
      rows_set e number found =
          map_same (stored_record next_facts e) (λ q. set (stored_record f e q)) (placed_records f e)
          (elim (cases_Bool (has_name b e.1)) [
            | inl hit ↦ All-weaker (HasPlace (bytes_eq r) place) (λ q. stored_record next_facts e q ≡ set (stored_record f e q))
                (λ q at. row_set e q (same-bytes_eq e.1.name b hit) (number ∙ hit) at) (placed_records f e) (places_in f b r sound e (found hit))
            | inr miss ↦ λ k d within. missed e _ (and_left (bytes_eq b e.1.name) _ (turned e.1.name b miss)) (and_left (e.0 == id) _ (number ∙ miss))
          ])
          ∙ sym (map-map set (stored_record f e) (placed_records f e))

      pub records_set : stored_records next_facts ≡ map set (stored_records f)
      unfolding stored_records
      records_set =
          flat_map_same (records_in next_facts) (λ e. map set (records_in f e)) (batches_by_id f)
          (λ k d within. rows_set _ (ids f b r sound k d within) (named_alone f b r sound k d within))
          ∙ map_joined set (records_in f) (batches_by_id f)

    -- ---- batches

    module _ (other_sessions : (c : List ℕ) → bytes_eq b c ≡ false → session_states next_facts c ≡ session_states f c) where
      states_stay : (c : List ℕ) → bytes_eq b c ≡ false → record_states next_facts c ≡ record_states f c
      unfolding record_states
      states_stay c other = map_same (record_state next_facts c) (record_state f c) (records_named f c) (λ k d within. (others c _ (and_left (bytes_eq b c) _ other)).stands)

      totals_stay : (c : List ℕ) → bytes_eq b c ≡ false → batch_totals next_facts c ≡ batch_totals f c
      totals_stay c other =
          totals_are next_facts c ∙ ap (λ states. totals_by states (session_states next_facts c)) (states_stay c other)
          ∙ ap (totals_by (record_states f c)) (other_sessions c other) ∙ sym (totals_are f c)

      module _ (totals : BatchTotals) (totals_are_now : batch_totals next_facts b ≡ totals) where
        batch_set : (e : ℕ × Batch) → (e.0 == id) ≡ has_name b e.1 → stored_batch next_facts e ≡ totals_set id totals (stored_batch f e)
        batch_set e number =
            let closed : Bool = is_closed f e.1.name in
            let row : StoredBatch = stored_batch f e in
            elim (cases_Bool (has_name b e.1)) [
              | inl hit ↦
                  ap (λ c. batch_by e closed (batch_totals next_facts c)) (same-bytes_eq e.1.name b hit) ∙ ap (batch_by e closed) totals_are_now
                  ∙ sym (cond-true (e.0 == id) (batch_by e closed totals) row (number ∙ hit))
              | inr miss ↦
                  ap (batch_by e closed) (totals_stay e.1.name (turned e.1.name b miss))
                  ∙ sym (cond-false (e.0 == id) (batch_by e closed totals) row (number ∙ miss))
            ]

        pub batches_set : stored_batches next_facts ≡ map (totals_set id totals) (stored_batches f)
        unfolding stored_batches
        batches_set =
            map_same (stored_batch next_facts) (λ e. totals_set id totals (stored_batch f e)) (batches_by_id f) (λ k d within. batch_set _ (ids f b r sound k d within))
            ∙ sym (map-map (totals_set id totals) (stored_batch f) (batches_by_id f))

    -- ---- counters

    module _ (there : IsRecord f b r) (was now : RecordState) (was_is : record_state f b r ≡ was) (now_is : record_state next_facts b r ≡ now) where
      others_stand : (names : List (List ℕ)) → list_any (bytes_eq r) names ≡ false → map (record_state next_facts b) names ≡ map (record_state f b) names
      others_stand names none =
          map_same (record_state next_facts b) (record_state f b) names
          (All-weaker (λ q. bytes_eq r q ≡ false) (λ q. record_state next_facts b q ≡ record_state f b q)
          (λ q other. (others b q (and_right (bytes_eq b b) (bytes_eq r q) other)).stands) names (All-from_list_any (bytes_eq r) names none))

      -- The counters of the batch after the record changes from the state `was` to the state `now`.
      -- The states of the sessions are given.
      pub totals_pass : (states : List SessionState) → totals_by (record_states next_facts b) states ≡ more now (less was (totals_by (record_states f b) states))
      unfolding record_states
      totals_pass states =
          let split : IsAround (bytes_eq r) (records_named f b) = around (bytes_eq r) (records_named f b) (under_once f.products (batch_named f.batches b) r) there in
          let own : split.one ≡ r = sym (same-bytes_eq r split.one split.passes) in
          let before : List RecordState = map (record_state f b) split.before in
          let after : List RecordState = map (record_state f b) split.after in
          let then_states : record_states f b ≡ before ++ was ∷ after =
          ap (map (record_state f b)) split.is ∙ map-append (record_state f b) split.before (split.one ∷ split.after)
          ∙ ap (λ s. before ++ s ∷ after) (ap (record_state f b) own ∙ was_is) in
          let now_states : record_states next_facts b ≡ before ++ now ∷ after =
          ap (map (record_state next_facts b)) split.is ∙ map-append (record_state next_facts b) split.before (split.one ∷ split.after)
          ∙ ap (λ ss. ss ++ record_state next_facts b split.one ∷ map (record_state next_facts b) split.after) (others_stand split.before split.none_before)
          ∙ ap (λ ss. before ++ record_state next_facts b split.one ∷ ss) (others_stand split.after split.none_after)
          ∙ ap (λ s. before ++ s ∷ after) (ap (record_state next_facts b) own ∙ now_is) in
          ap (λ ss. totals_by ss states) now_states ∙ passes_to before after was now states
          ∙ sym (ap (λ ss. more now (less was (totals_by ss states))) then_states)
