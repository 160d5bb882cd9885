-- The checks of the row of a record against the states of its sessions.
use Rattle.std.proofs.Common.{◌≡◌, ℕ, ◌+◌, Bool, cond, ◌||◌, ltb, List, [], ◌∷◌, get_or, All, inl, inr, refl, sym, ap, ◌∙◌, subst, arith}
use Rattle.std.specs.Prelude.{◌==◌, count_by, filter, find}
use Rattle.std.specs.List.{list_any}
use Rattle.std.proofs.lemmas.Bool.{and_parts, cases_Bool}
use Rattle.std.proofs.lemmas.Bool.Decides.{nat_tests}
use Rattle.std.proofs.lemmas.List.Elements.{filter_passes}
use Rattle.std.proofs.lemmas.List.Sums.{sum_by-cons}
use Rattle.store_data.specs.declared.row.Product.{Product}
use Rattle.store_data.specs.declared.row.Row.{Row}
use Rattle.store_data.specs.Sequence.{Plan, plan_of}
use Rattle.job_facts.specs.declared.facts.RecordState.{RecordState}
use Rattle.job_facts.specs.declared.facts.SessionState.{SessionState}
use Rattle.job_facts.specs.Sound.{IsSoundRecord, has_card}
use Rattle.job_facts.specs.States.{is_good, is_running, is_spoiled, state_by}
use Rattle.table_rows.specs.Tables.{StoredBatch, StoredRecord, StoredSession, Tables}
use Rattle.table_rows.specs.Keys.{is_batch, is_record_at}
use Rattle.row_laws.proofs.TotalRows.{sum_by-map}
use Rattle.audit_laws.specs.Audited.{IsAuditedRecord, is_session_at, is_withdrawn, states_at}
use Rattle.audit_cards.specs.Sessions.{HasPlan, HasRows, IsSoundCount, StandsBy, state_by_count, states_in}

-- An element satisfies `p` if and only if the number of such elements isn't 0.
pub any_by_count : {X : Type 0} (p : X → Bool) (xs : List X) → list_any p xs ≡ ltb 0 (count_by p xs)
any_by_count p [] = refl
any_by_count p (x ∷ xs) = elim (cases_Bool (p x)) [
  | inl hit ↦
      let more : count_by p (x ∷ xs) ≡ 1 + count_by p xs = sum_by-cons (λ y. cond (p y) 1 0) x xs ∙ ap (λ b. cond b 1 0 + count_by p xs) hit in
      ap (λ b. b || list_any p xs) hit ∙ sym (ap (ltb 0) more ∙ grind (arith, nat_tests))
  | inr miss ↦
      let same : count_by p (x ∷ xs) ≡ 0 + count_by p xs = sum_by-cons (λ y. cond (p y) 1 0) x xs ∙ ap (λ b. cond b 1 0 + count_by p xs) miss in
      let zero_more : 0 + count_by p xs ≡ count_by p xs = omega arith in
      ap (λ b. b || list_any p xs) miss ∙ any_by_count p xs ∙ sym (ap (ltb 0) (same ∙ zero_more))
]

module _ (states : List SessionState) (withdrawn : Bool) (remakes : ℕ) where
  pub state_counted : state_by states withdrawn remakes
      ≡ state_by_count (ltb 0 (count_by is_good states)) (ltb 0 (count_by is_running states)) withdrawn (ltb remakes (count_by is_spoiled states))
  state_counted = rw (any_by_count is_good states, any_by_count is_running states) refl

  pub sound_by_count : IsSoundCount (count_by has_card states) (count_by is_spoiled states) withdrawn remakes → IsSoundRecord states withdrawn remakes
  sound_by_count is = record {
    one_card = is.one_card;
    remade_least = is.remade_least;
    remade_most = is.remade_most;
    remade_all = λ any. let some = sym (any_by_count has_card states) ∙ any in is.remade_all (grind (arith, nat_tests));
    withdrawn_none = λ gone. any_by_count has_card states ∙ ap (ltb 0) (is.withdrawn_none gone);
  }

  pub count_of_sound : IsSoundRecord states withdrawn remakes → IsSoundCount (count_by has_card states) (count_by is_spoiled states) withdrawn remakes
  count_of_sound is = record {
    one_card = is.one_card;
    remade_least = is.remade_least;
    remade_most = is.remade_most;
    remade_all = λ some. is.remade_all (any_by_count has_card states ∙ grind (arith, nat_tests));
    withdrawn_none = λ gone. let none = sym (any_by_count has_card states) ∙ is.withdrawn_none gone in grind (arith, nat_tests);
  }

module _ (own : List StoredSession) (r : StoredRecord) where
  -- the number of sessions whose state satisfies `p`
  abbrev pub so : (SessionState → Bool) → ℕ
  so p = count_by (λ (s : StoredSession). p s.state) own

  counted : (p : SessionState → Bool) → count_by p (states_in own) ≡ so p
  counted p = sum_by-map (λ state. cond (p state) 1 0) (λ (s : StoredSession). s.state) own

  abbrev counts : RecordState
  counts = state_by_count (ltb 0 (so is_good)) (ltb 0 (so is_running)) (is_withdrawn r) (ltb r.remakes (so is_spoiled))

  state_is : state_by (states_in own) (is_withdrawn r) r.remakes ≡ counts
  state_is =
      state_counted (states_in own) (is_withdrawn r) r.remakes
      ∙ ap (λ n. state_by_count (ltb 0 n) (ltb 0 (count_by is_running (states_in own))) (is_withdrawn r) (ltb r.remakes (count_by is_spoiled (states_in own)))) (counted is_good)
      ∙ ap (λ n. state_by_count (ltb 0 (so is_good)) (ltb 0 n) (is_withdrawn r) (ltb r.remakes (count_by is_spoiled (states_in own)))) (counted is_running)
      ∙ ap (λ n. state_by_count (ltb 0 (so is_good)) (ltb 0 (so is_running)) (is_withdrawn r) (ltb r.remakes n)) (counted is_spoiled)

  pub stands : r.spoiled ≡ so is_spoiled → r.state ≡ counts → IsSoundCount (so has_card) (so is_spoiled) (is_withdrawn r) r.remakes → StandsBy (states_in own) r
  stands spoiled state sound = record {
    sound = sound_by_count (states_in own) (is_withdrawn r) r.remakes
        (subst (λ n. IsSoundCount n (count_by is_spoiled (states_in own)) (is_withdrawn r) r.remakes) (sym (counted has_card))
        (subst (λ n. IsSoundCount (so has_card) n (is_withdrawn r) r.remakes) (sym (counted is_spoiled)) sound));
    state = state ∙ sym state_is;
    spoiled = spoiled ∙ sym (counted is_spoiled);
  }

  pub stands_by_parts : StandsBy (states_in own) r → (r.spoiled ≡ so is_spoiled) × (r.state ≡ counts)
  stands_by_parts a = (a.spoiled ∙ counted is_spoiled, a.state ∙ state_is)

  pub stands_sound : StandsBy (states_in own) r → IsSoundCount (so has_card) (so is_spoiled) (is_withdrawn r) r.remakes
  stands_sound a =
      subst (λ n. IsSoundCount (so has_card) n (is_withdrawn r) r.remakes) (counted is_spoiled)
      (subst (λ n. IsSoundCount n (count_by is_spoiled (states_in own)) (is_withdrawn r) r.remakes) (counted has_card) (count_of_sound (states_in own) (is_withdrawn r) r.remakes a.sound))

  -- the conditions of `StandsBy`, for counts that are given
  module _ (good running spoiled : ℕ) (state : RecordState) (good_is : good ≡ so is_good) (running_is : running ≡ so is_running) (spoiled_is : spoiled ≡ so is_spoiled)
      (state_in_rows : state ≡ state_by_count (ltb 0 good) (ltb 0 running) (is_withdrawn r) (ltb r.remakes spoiled)) where
    states_agree : state ≡ counts
    states_agree =
        state_in_rows
        ∙ ap (λ n. state_by_count (ltb 0 n) (ltb 0 running) (is_withdrawn r) (ltb r.remakes spoiled)) good_is
        ∙ ap (λ n. state_by_count (ltb 0 (so is_good)) (ltb 0 n) (is_withdrawn r) (ltb r.remakes spoiled)) running_is
        ∙ ap (λ n. state_by_count (ltb 0 (so is_good)) (ltb 0 (so is_running)) (is_withdrawn r) (ltb r.remakes n)) spoiled_is

    pub so_by_counts : StandsBy (states_in own) r → (r.spoiled ≡ spoiled) × (r.state ≡ state)
    so_by_counts a = let so_is = stands_by_parts a in (so_is.0 ∙ sym spoiled_is, so_is.1 ∙ sym states_agree)

    pub stands_by_counts : (cards : ℕ) → cards ≡ so has_card → r.spoiled ≡ spoiled → r.state ≡ state → IsSoundCount cards spoiled (is_withdrawn r) r.remakes → StandsBy (states_in own) r
    stands_by_counts cards cards_is spoils stands_there sound =
        stands (spoils ∙ spoiled_is) (stands_there ∙ states_agree)
        (subst (λ n. IsSoundCount (so has_card) n (is_withdrawn r) r.remakes) spoiled_is (subst (λ n. IsSoundCount n spoiled (is_withdrawn r) r.remakes) cards_is sound))

  pub sound_by_counts : (spoiled cards : ℕ) → spoiled ≡ so is_spoiled → cards ≡ so has_card → StandsBy (states_in own) r → IsSoundCount cards spoiled (is_withdrawn r) r.remakes
  sound_by_counts spoiled cards spoiled_is cards_is a =
      subst (λ n. IsSoundCount cards n (is_withdrawn r) r.remakes) (sym spoiled_is)
      (subst (λ n. IsSoundCount n (so is_spoiled) (is_withdrawn r) r.remakes) (sym cards_is) (stands_sound a))

-- ---- a record with its rows

module _ (t : Tables) (b : StoredBatch) (p : Product) (rows : List Row) (r : StoredRecord) (own : List StoredSession) (has : HasRows t b p rows r own) where
  states_are : states_in own ≡ states_at t r
  states_are = ap states_in has.own_are

  pub audited_record : StandsBy (states_in own) r → IsAuditedRecord t r
  audited_record a =
      let is : StandsBy (states_at t r) r = subst (λ states. StandsBy states r) states_are a in
      record { sound = is.sound; state = is.state; spoiled = is.spoiled }

  pub stands_by_own : IsAuditedRecord t r → StandsBy (states_in own) r
  stands_by_own a = subst (λ states. StandsBy states r) (sym states_are) (record { sound = a.sound; state = a.state; spoiled = a.spoiled })

  pub have_plans : (plan : Plan) → plan ≡ plan_of p rows → All (λ (s : StoredSession). HasPlan t s.batch s.place b plan) own
  have_plans plan is = subst (All (λ (s : StoredSession). HasPlan t s.batch s.place b plan)) (sym has.own_are) (λ k d within.
      let s : StoredSession = get_or (filter (is_session_at r.batch r.place) t.sessions) k d in
      let parts = and_parts (s.batch == r.batch) (s.place == r.place) (filter_passes (is_session_at r.batch r.place) t.sessions k d within) in
      let batch : s.batch ≡ r.batch = let yes = parts.0 in grind (arith, nat_tests) in
      let place : s.place ≡ r.place = let yes = parts.1 in grind (arith, nat_tests) in
      record {
        batch_is = ap (λ id. find (is_batch id) t.batches) batch ∙ has.batch_is;
        rec = r;
        rec_is = ap (λ id. find (is_record_at id s.place) t.records) batch ∙ ap (λ j. find (is_record_at r.batch j) t.records) place ∙ has.rec_is;
        product = p;
        product_is = has.product_is;
        plan_is = is ∙ ap (plan_of p) has.rows_are;
      })
