-- The rows after a remake, and after a withdrawal.
use Rattle.std.proofs.Common.{◌≡◌, ℕ, ◌+◌, ◌==◌, ◌||◌, true, false, cond, List, [], ◌∷◌, ◌++◌, map, Some, inl, inr, refl, sym, ap, subst, ◌∙◌, arith, IsPermutation}
use Rattle.std.specs.Prelude.{bytes_eq, count_by}
use Rattle.std.specs.List.{list_any, range_with_len}
use Rattle.std.proofs.lemmas.Bool.{and_left, and_right, both_ways, cases_Bool, eqb-true, or_left}
use Rattle.std.proofs.lemmas.List.FromFn.{map-range_with_len_more}
use Rattle.std.proofs.lemmas.List.Sums.{sum_by_push}
use Rattle.store_data.proofs.GroupLemmas.{bytes_eq-same, same-bytes_eq}
use Rattle.store_data.specs.declared.row.Product.{Product}
use Rattle.job_facts.specs.declared.change.Change.TheVariants as change
use Rattle.job_facts.specs.declared.facts.RecordState.{RecordState}
use Rattle.job_facts.specs.declared.facts.RecordState.TheVariants as rec
use Rattle.job_facts.specs.Accounts.{batch_totals, record_states, session_states, totals_by}
use Rattle.job_facts.specs.Contents.{Contents}
use Rattle.job_facts.specs.Facts.{Batch, Facts, RecordName, with_remake}
use Rattle.job_facts.specs.Sound.{IsRecord, IsSound, IsSoundChange, changed}
use Rattle.job_facts.specs.States.{batch_named, is_record, is_spoiled, plan_for, record_state, records_named, records_of, records_under, remakes_of, session_state, states_of}
use Rattle.step_laws.specs.Records.{StandsSame}
use Rattle.step_laws.proofs.ChangeStands.{others_same, state_of_named, touched_stands}
use Rattle.step_laws.proofs.RecordStands.{named, same_states}
use Rattle.table_rows.specs.After.{less, more, rows_after}
use Rattle.table_rows.specs.Tables.{HaveSameRows, StoredRemake}
use Rattle.table_rows.specs.declared.writing.Writing.TheVariants as writing
use Rattle.table_rows.specs.declared.writing.RecordPlace.{RecordPlace}
use Rattle.image_laws.specs.WritingOf.{IsPlaceOf}
use Rattle.image_laws.specs.Image.{batch_id, batches_by_id, image, place_in, placed_records, remakes_at, remakes_in, stored_remakes}
use Rattle.image_laws.proofs.Lists.{flat_map_same, pushed, unmoved}
use Rattle.image_laws.proofs.OneRecord.{batch_once, batches_set, has_name, ids, named_alone, places_in, records_once, records_set, totals_pass, turned}
use Rattle.image_laws.proofs.Places.{AddsOne, StaysBut, any_numbered, once_numbered, one_added}
use Rattle.image_laws.proofs.Staying.{totals_are}
use Rattle.image_laws.proofs.Touching.{blanks_stay, groupings_stay, is_place, lots_stay, place_of, remakes_stay, sessions_stay, words_stay}

-- ---- the batch and the record exist

batch_there : (products : List Product) (b r : List ℕ) (batches : List Batch) → list_any (bytes_eq r) (records_under products (batch_named batches b)) ≡ true
    → list_any (has_name b) batches ≡ true
batch_there products b r [] there = absurd (both_ways false refl there)
batch_there products b r (x ∷ batches) there = elim (cases_Bool (has_name b x)) [
  | inl hit ↦ or_left (has_name b x) (list_any (has_name b) batches) hit
  | inr miss ↦
      let skipped : batch_named (x ∷ batches) b ≡ batch_named batches b = rw miss refl in
      ap (λ t. t || list_any (has_name b) batches) miss
      ∙ batch_there products b r batches (sym (ap (λ o. list_any (bytes_eq r) (records_under products o)) skipped) ∙ there)
]

-- ---- states that don't change

module _ (f : Facts) (remakes withdrawn : List RecordName) where
  abbrev changed_facts : Facts
  changed_facts = record f { remakes = remakes; withdrawn = withdrawn }

  pub session_states_stay : (c : List ℕ) → session_states changed_facts c ≡ session_states f c
  unfolding session_states session_state plan_for
  session_states_stay c = refl

  pub spoiled_stay : (b r : List ℕ) → count_by is_spoiled (states_of changed_facts b r) ≡ count_by is_spoiled (states_of f b r)
  spoiled_stay b r = ap (count_by is_spoiled) (same_states f f.discarded remakes withdrawn f.closed b r)

-- ---- the row of the new remake

module _ (f : Facts) (b r : List ℕ) (sound : IsSound f) (there : IsRecord f b r) where
  abbrev g : Facts
  g = with_remake f b r

  abbrev row : StoredRemake
  row = record { batch = batch_id f.batches b; place = place_in (records_named f b) r; turn = remakes_of f b r + 1 }

  remade : remakes_of g b r ≡ remakes_of f b r + 1
  remade =
      let more : remakes_of g b r ≡ remakes_of f b r + cond {A = ℕ} (is_record b r (named b r)) 1 0 = sum_by_push (λ n. cond {A = ℕ} (is_record b r n) 1 0) f.remakes (named b r) in
      let own : is_record b r (named b r) ≡ true = rw (bytes_eq-same b, bytes_eq-same r) refl in
      more ∙ ap (λ t. remakes_of f b r + cond {A = ℕ} t 1 0) own

  module _ (others : (c q : List ℕ) → is_record c q (named b r) ≡ false → StandsSame f g c q) where
    at_other : (e : ℕ × Batch) (q : ℕ × List ℕ) → is_record e.1.name q.1 (named b r) ≡ false → remakes_at g e q ≡ remakes_at f e q
    at_other e q other =
        ap (λ n. map (λ turn. record { batch = e.0; place = q.0; turn = turn }) (range_with_len 1 n)) (others e.1.name q.1 other).remakes

    at_own : (e : ℕ × Batch) (q : ℕ × List ℕ) → e.1.name ≡ b → q.1 ≡ r → e.0 ≡ row.batch → q.0 ≡ row.place → IsPermutation (remakes_at g e q) (row ∷ remakes_at f e q)
    at_own e q batch name id place =
        let turn_row : ℕ → StoredRemake = λ turn. record { batch = e.0; place = q.0; turn = turn } in
        let turns : ℕ → List StoredRemake = λ n. map turn_row (range_with_len 1 n) in
        let many : ℕ = remakes_of f b r in
        let then_is : remakes_at f e q ≡ turns many = ap (λ c. turns (remakes_of f c q.1)) batch ∙ ap (λ n. turns (remakes_of f b n)) name in
        let last : turn_row (many + 1) ≡ row = ap (λ k. record row { batch = k; place = q.0 }) id ∙ ap (λ k. record row { place = k }) place in
        let now_is : remakes_at g e q ≡ turns many ++ row ∷ [] =
        ap (λ c. turns (remakes_of g c q.1)) batch ∙ ap (λ n. turns (remakes_of g b n)) name ∙ ap turns remade
        ∙ map-range_with_len_more turn_row 1 many (many + 1) (omega arith) ∙ ap (λ x. turns many ++ x ∷ []) last in
        subst (λ xs. IsPermutation (remakes_at g e q) (row ∷ xs)) (sym then_is) (subst (λ xs. IsPermutation xs (row ∷ turns many)) (sym now_is) (pushed (turns many) row))

    in_other : (e : ℕ × Batch) → StaysBut (λ (e : ℕ × Batch). has_name b e.1) (remakes_in g) (remakes_in f) row e
    in_other e miss =
        flat_map_same (remakes_at g e) (remakes_at f e) (placed_records f e) (λ k d within. at_other e _ (and_left (bytes_eq b e.1.name) _ (turned e.1.name b miss)))

    in_own : (e : ℕ × Batch) → (e.0 == row.batch) ≡ has_name b e.1 → (has_name b e.1 ≡ true → batch_named f.batches b ≡ Some e.1)
        → AddsOne (λ (e : ℕ × Batch). has_name b e.1) (remakes_in g) (remakes_in f) row e
    in_own e number found hit =
        let batch : e.1.name ≡ b = same-bytes_eq e.1.name b hit in
        let id : e.0 ≡ row.batch = eqb-true e.0 row.batch (number ∙ hit) in
        let names : List (List ℕ) = records_of f.products e.1 in
        let among : list_any (bytes_eq r) names ≡ true = sym (ap (λ o. list_any (bytes_eq r) (records_under f.products o)) (found hit)) ∙ there in
        let at = places_in f b r sound e (found hit) in
        one_added (λ (q : ℕ × List ℕ). bytes_eq r q.1) (remakes_at g e) (remakes_at f e) row (placed_records f e)
        (once_numbered (bytes_eq r) 0 names (records_once f.products e.1 r)) (any_numbered (bytes_eq r) 0 names ∙ among)
        (λ k d within miss. at_other e _ (and_right (bytes_eq b e.1.name) _ miss))
        (λ k d within own. at_own e _ batch (sym (same-bytes_eq r _ own)) id (eqb-true _ row.place (at k d within ∙ own)))

    pub one_remake : IsPermutation (stored_remakes g) (row ∷ stored_remakes f)
    unfolding stored_remakes
    one_remake =
        one_added (λ (e : ℕ × Batch). has_name b e.1) (remakes_in g) (remakes_in f) row (batches_by_id f)
        (once_numbered (has_name b) 1 f.batches (batch_once f b r sound)) (any_numbered (has_name b) 1 f.batches ∙ batch_there f.products b r f.batches there)
        (λ k d within. in_other _) (λ k d within. in_own _ (ids f b r sound k d within) (named_alone f b r sound k d within))

-- ---- the changes

-- the counters of the batch after a change that affects no session
module _ (f : Facts) (remakes withdrawn : List RecordName) (b r : List ℕ) (sound : IsSound f) (there : IsRecord f b r) where
  abbrev after_facts : Facts
  after_facts = record f { remakes = remakes; withdrawn = withdrawn }

  counters : ((c q : List ℕ) → is_record c q (named b r) ≡ false → StandsSame f after_facts c q) → (was now : RecordState)
      → record_state f b r ≡ was → record_state after_facts b r ≡ now → batch_totals after_facts b ≡ more now (less was (batch_totals f b))
  counters others was now was_is now_is =
      totals_are after_facts b ∙ ap (totals_by (record_states after_facts b)) (session_states_stay f remakes withdrawn b)
      ∙ totals_pass f f.sessions remakes withdrawn b r sound others there was now was_is now_is (session_states f b)
      ∙ ap (λ n. more now (less was n)) (sym (totals_are f b))

pub rows_after_remake : (c : Contents) (b r : List ℕ) (p : RecordPlace) → IsSound c.facts → IsSoundChange c.facts (change.Remakes b r) → IsPlaceOf c.facts b r p
    → HaveSameRows (image (record c { facts = changed c.facts (change.Remakes b r) })) (rows_after (writing.Remakes p) (image c))
rows_after_remake c b r p sound keeps is =
    let f : Facts = c.facts in
    let remake = change.Remakes b r in
    let g : Facts = changed f remake in
    let given : IsRecord f b r × (record_state f b r ≡ rec.Failed) = state_of_named f b r rec.Failed keeps.before in
    let others : (d q : List ℕ) → is_record d q (named b r) ≡ false → StandsSame f g d q = others_same f remake sound keeps.before in
    let now : record_state g b r ≡ rec.Waiting = touched_stands f remake sound keeps.before keeps.after (named b r) rec.Waiting refl refl in
    let totals = counters f g.remakes f.withdrawn b r sound given.0 others rec.Failed rec.Waiting given.1 now in
    let at : RecordPlace = place_of f b r in
    subst (λ q. HaveSameRows (image (record c { facts = g })) (rows_after (writing.Remakes q) (image c))) (sym (is_place f b r p is))
    (record {
      products = unmoved _ _ refl;
      lots = unmoved _ _ (lots_stay f g.remakes f.withdrawn f.sessions);
      batches = unmoved _ _ (batches_set f f.sessions g.remakes f.withdrawn b r sound others (λ d other. session_states_stay f g.remakes f.withdrawn d) _ totals);
      records = unmoved _ _ (records_set f f.sessions g.remakes f.withdrawn b r sound others rec.Waiting at.spoiled (at.remakes + 1) now
          (spoiled_stay f g.remakes f.withdrawn b r) (remade f b r sound given.0));
      groupings = unmoved _ _ (groupings_stay f g.remakes f.withdrawn f.sessions);
      sessions = unmoved _ _ (sessions_stay f g.remakes f.withdrawn);
      words = unmoved _ _ (words_stay f g.remakes f.withdrawn);
      blanks = unmoved _ _ (blanks_stay f g.remakes f.withdrawn);
      remakes = one_remake f b r sound given.0 others;
      replies = unmoved _ _ refl;
      marks = unmoved _ _ refl;
    })

pub rows_after_withdrawal : (c : Contents) (b r : List ℕ) (was : RecordState) (p : RecordPlace) → IsSound c.facts → IsSoundChange c.facts (change.Withdraws b r was) → IsPlaceOf c.facts b r p
    → HaveSameRows (image (record c { facts = changed c.facts (change.Withdraws b r was) })) (rows_after (writing.Withdraws was p) (image c))
rows_after_withdrawal c b r was p sound keeps is =
    let f : Facts = c.facts in
    let withdrawal = change.Withdraws b r was in
    let g : Facts = changed f withdrawal in
    let given : IsRecord f b r × (record_state f b r ≡ was) = state_of_named f b r was keeps.before.0 in
    let others : (d q : List ℕ) → is_record d q (named b r) ≡ false → StandsSame f g d q = others_same f withdrawal sound keeps.before in
    let now : record_state g b r ≡ rec.Withdrawn = touched_stands f withdrawal sound keeps.before keeps.after (named b r) rec.Withdrawn refl refl in
    let totals = counters f f.remakes g.withdrawn b r sound given.0 others was rec.Withdrawn given.1 now in
    let at : RecordPlace = place_of f b r in
    subst (λ q. HaveSameRows (image (record c { facts = g })) (rows_after (writing.Withdraws was q) (image c))) (sym (is_place f b r p is))
    (record {
      products = unmoved _ _ refl;
      lots = unmoved _ _ (lots_stay f f.remakes g.withdrawn f.sessions);
      batches = unmoved _ _ (batches_set f f.sessions f.remakes g.withdrawn b r sound others (λ d other. session_states_stay f f.remakes g.withdrawn d) _ totals);
      records = unmoved _ _ (records_set f f.sessions f.remakes g.withdrawn b r sound others rec.Withdrawn at.spoiled at.remakes now
          (spoiled_stay f f.remakes g.withdrawn b r) refl);
      groupings = unmoved _ _ (groupings_stay f f.remakes g.withdrawn f.sessions);
      sessions = unmoved _ _ (sessions_stay f f.remakes g.withdrawn);
      words = unmoved _ _ (words_stay f f.remakes g.withdrawn);
      blanks = unmoved _ _ (blanks_stay f f.remakes g.withdrawn);
      remakes = unmoved _ _ (remakes_stay f f.remakes g.withdrawn f.sessions refl);
      replies = unmoved _ _ refl;
      marks = unmoved _ _ refl;
    })
