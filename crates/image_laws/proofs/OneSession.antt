-- The effect of a change to one session: its row, the states of the sessions of its batch and
-- record, and the rows that don't change.
use Rattle.std.proofs.Common.{◌≡◌, ◌≢◌, ℕ, zero, suc, ◌+◌, ◌≤◌, ◌<◌, ◌==◌, ◌&&◌, Bool, true, false, cond, List, [], ◌∷◌, ◌++◌, length, map, Some, refl, sym, ap, ◌∙◌, arith}
use Rattle.std.specs.Prelude.{bytes_eq, filter}
use Rattle.std.specs.List.{enumerate_from}
use Rattle.std.proofs.lemmas.Bool.{cond-false, cond-true}
use Rattle.std.proofs.lemmas.Bool.Decides.{nat_tests}
use Rattle.std.proofs.lemmas.List.{map-append}
use Rattle.std.proofs.lemmas.Option.{none-some, same_Some}
use Rattle.store_data.proofs.CommandLemmas.{enumerate_from-append}
use Rattle.store_data.proofs.GroupLemmas.{bytes_eq-same}
use Rattle.job_facts.specs.declared.facts.SessionState.{SessionState}
use Rattle.job_facts.specs.Accounts.{session_states}
use Rattle.job_facts.specs.Facts.{Facts, Session, at_session}
use Rattle.job_facts.specs.States.{plan_for, session_cursor, session_numbered, session_state, states_of}
use Rattle.job_facts.proofs.Lists.{map_filter-at}
use Rattle.job_facts.proofs.SoundFacts.{is_for}
use Rattle.step_laws.specs.Records.{StandsSame}
use Rattle.step_laws.proofs.GoodCards.{for_own}
use Rattle.step_laws.proofs.RecordStands.{record_same, states_around}
use Rattle.table_rows.specs.Tables.{StoredBlank, StoredSession}
use Rattle.image_laws.specs.Image.{stored_blank, stored_blanks, stored_session, stored_sessions}

-- The list before and after session `s`, and the list with the changed session. The number of the
-- session is 1 plus the number of sessions before it.
pub split_numbered : (xs : List Session) (s : ℕ) (x : Session) (change : Session → Session) → session_numbered xs s ≡ Some x
    → (before : List Session) × (after : List Session) × (xs ≡ before ++ x ∷ after) × (at_session s change xs ≡ before ++ change x ∷ after) × (1 + length before ≡ s)
split_numbered xs zero x change there = absurd (none-some x there)
split_numbered [] (suc i) x change there = absurd (none-some x there)
split_numbered (y ∷ xs) (suc zero) x change there =
    let same : y ≡ x = same_Some y x there in
    ([], xs, ap (λ z. z ∷ xs) same, ap (λ z. change z ∷ xs) same, refl)
split_numbered (y ∷ xs) (suc (suc i)) x change there =
    let rest = split_numbered xs (suc i) x change there in
    (y ∷ rest.0, rest.1, ap (λ zs. y ∷ zs) rest.2, ap (λ zs. y ∷ zs) rest.3, omega (arith, rest.4))

-- ---- sessions with their numbers

module _ (row : ℕ × Session → StoredSession) (set : StoredSession → StoredSession) (s : ℕ)
    (misses : (k : ℕ) (z : Session) → (k == s) ≡ false → set (row (k, z)) ≡ row (k, z)) where
  -- Rows with other numbers don't change.
  elsewhere : (n : ℕ) (xs : List Session) → ((k : ℕ) → n ≤ k → k < n + length xs → k ≢ s) → map set (map row (enumerate_from n xs)) ≡ map row (enumerate_from n xs)
  elsewhere n [] apart = refl
  elsewhere n (z ∷ zs) apart =
      let miss : (n == s) ≡ false = let differ = apart n (omega arith) (omega arith) in grind (arith, nat_tests) in
      ap (λ r. r ∷ map set (map row (enumerate_from (n + 1) zs))) (misses n z miss)
      ∙ ap (λ rs. row (n, z) ∷ rs) (elsewhere (n + 1) zs (λ k low high. apart k (omega arith) (omega arith)))

  around_one : (before after : List Session) (z : Session) → 1 + length before ≡ s
      → map row (enumerate_from 1 (before ++ z ∷ after)) ≡ map row (enumerate_from 1 before) ++ row (s, z) ∷ map row (enumerate_from (s + 1) after)
  around_one before after z number =
      ap (map row) (enumerate_from-append 1 before (z ∷ after))
      ∙ map-append row (enumerate_from 1 before) (enumerate_from (1 + length before) (z ∷ after))
      ∙ ap (λ n. map row (enumerate_from 1 before) ++ map row (enumerate_from n (z ∷ after))) number

  one_row : (before after : List Session) (x y : Session) → 1 + length before ≡ s → set (row (s, x)) ≡ row (s, y)
      → map row (enumerate_from 1 (before ++ y ∷ after)) ≡ map set (map row (enumerate_from 1 (before ++ x ∷ after)))
  one_row before after x y number hits =
      let left : List StoredSession = map row (enumerate_from 1 before) in
      let right : List StoredSession = map row (enumerate_from (s + 1) after) in
      around_one before after y number
      ∙ sym (ap (map set) (around_one before after x number) ∙ map-append set left (row (s, x) ∷ right)
      ∙ ap (λ rs. rs ++ set (row (s, x)) ∷ map set right) (elsewhere 1 before (λ k low high same. omega arith))
      ∙ ap (λ rs. left ++ set (row (s, x)) ∷ rs) (elsewhere (s + 1) after (λ k low high same. omega arith))
      ∙ ap (λ r. left ++ r ∷ right) hits)

-- ---- the change

-- `now` is `was` with the state of one session changed from `state_was` to `state_now`.
pub record AreAround (was now : List SessionState) (state_was state_now : SessionState) : Type 0 where
  pub before : List SessionState
  pub after : List SessionState
  pub was_is : was ≡ before ++ state_was ∷ after
  pub now_is : now ≡ before ++ state_now ∷ after

module _ (f : Facts) (s : ℕ) (x : Session) (change : Session → Session) (there : session_numbered f.sessions s ≡ Some x)
    (batch : (change x).batch ≡ x.batch) (rec : (change x).rec ≡ x.rec) where
  abbrev pub now_facts : Facts
  now_facts = record f { sessions = at_session s change f.sessions }

  pub rows_changed : (set : StoredSession → StoredSession) → ((k : ℕ) (z : Session) → (k == s) ≡ false → set (stored_session f (k, z)) ≡ stored_session f (k, z))
      → set (stored_session f (s, x)) ≡ stored_session f (s, change x) → stored_sessions now_facts ≡ map set (stored_sessions f)
  unfolding stored_sessions session_state session_cursor plan_for
  rows_changed set misses hits =
      let split = split_numbered f.sessions s x change there in
      ap (λ xs. map (stored_session f) (enumerate_from 1 xs)) split.3 ∙ one_row (stored_session f) set s misses split.0 split.1 x (change x) split.4 hits
      ∙ sym (ap (λ xs. map set (map (stored_session f) (enumerate_from 1 xs))) split.2)

  -- the states of the sessions of another batch
  pub sessions_elsewhere : (c : List ℕ) → bytes_eq x.batch c ≡ false → session_states now_facts c ≡ session_states f c
  unfolding session_states session_state plan_for
  sessions_elsewhere c other =
      let split = split_numbered f.sessions s x change there in
      let of_batch : Session → Bool = λ z. bytes_eq z.batch c in
      let first : List SessionState = map (session_state f) (filter of_batch split.0) in
      let rest : List SessionState = map (session_state f) (filter of_batch split.1) in
      ap (λ xs. map (session_state f) (filter of_batch xs)) split.3 ∙ map_filter-at of_batch (session_state f) split.0 split.1 (change x)
      ∙ ap (λ ts. first ++ ts) (cond-false (of_batch (change x)) (session_state f (change x) ∷ rest) rest (ap (λ d. bytes_eq d c) batch ∙ other))
      ∙ sym (ap (λ xs. map (session_state f) (filter of_batch xs)) split.2 ∙ map_filter-at of_batch (session_state f) split.0 split.1 x
      ∙ ap (λ ts. first ++ ts) (cond-false (of_batch x) (session_state f x ∷ rest) rest other))

  -- the states of the sessions of the same batch
  pub sessions_around : AreAround (session_states f x.batch) (session_states now_facts x.batch) (session_state f x) (session_state f (change x))
  unfolding session_states session_state plan_for
  sessions_around =
      let split = split_numbered f.sessions s x change there in
      let of_batch : Session → Bool = λ z. bytes_eq z.batch x.batch in
      let first : List SessionState = map (session_state f) (filter of_batch split.0) in
      let rest : List SessionState = map (session_state f) (filter of_batch split.1) in
      record {
        before = first;
        after = rest;
        was_is = ap (λ xs. map (session_state f) (filter of_batch xs)) split.2 ∙ map_filter-at of_batch (session_state f) split.0 split.1 x
            ∙ ap (λ ts. first ++ ts) (cond-true (of_batch x) (session_state f x ∷ rest) rest (bytes_eq-same x.batch));
        now_is = ap (λ xs. map (session_state f) (filter of_batch xs)) split.3 ∙ map_filter-at of_batch (session_state f) split.0 split.1 (change x)
            ∙ ap (λ ts. first ++ ts)
            (cond-true (of_batch (change x)) (session_state f (change x) ∷ rest) rest (ap (λ d. bytes_eq d x.batch) batch ∙ bytes_eq-same x.batch));
      }

  -- the states of the sessions of the same record
  pub record_around : AreAround (states_of f x.batch x.rec) (states_of now_facts x.batch x.rec) (session_state f x) (session_state f (change x))
  record_around =
      let split = split_numbered f.sessions s x change there in
      let b : List ℕ = x.batch in
      let r : List ℕ = x.rec in
      let y : Session = change x in
      let first : List SessionState = map (session_state f) (filter (is_for b r) split.0) in
      let rest : List SessionState = map (session_state f) (filter (is_for b r) split.1) in
      let own : is_for b r y ≡ true = ap (λ d. bytes_eq d b && bytes_eq y.rec r) batch ∙ ap (λ q. bytes_eq b b && bytes_eq q r) rec ∙ for_own x in
      record {
        before = first;
        after = rest;
        was_is = ap (λ xs. states_of (record f { sessions = xs }) b r) split.2 ∙ states_around f split.0 split.1 x b r
            ∙ ap (λ ts. first ++ ts) (cond-true (is_for b r x) (session_state f x ∷ rest) rest (for_own x));
        now_is = ap (λ xs. states_of (record f { sessions = xs }) b r) split.3 ∙ states_around f split.0 split.1 y b r
            ∙ ap (λ ts. first ++ ts) (cond-true (is_for b r y) (session_state f y ∷ rest) rest own);
      }

  pub blanks_same : (change x).blank ≡ x.blank → stored_blanks now_facts ≡ stored_blanks f
  unfolding stored_blanks
  blanks_same same =
      let split = split_numbered f.sessions s x change there in
      let blank : Session → StoredBlank = λ z. stored_blank f false z.blank in
      let discarded : List StoredBlank = map (stored_blank f true) f.discarded in
      ap (λ xs. map blank xs ++ discarded) split.3
      ∙ ap (λ bs. bs ++ discarded) (map-append blank split.0 (change x ∷ split.1) ∙ ap (λ k. map blank split.0 ++ stored_blank f false k ∷ map blank split.1) same
      ∙ sym (map-append blank split.0 (x ∷ split.1)))
      ∙ sym (ap (λ xs. map blank xs ++ discarded) split.2)

  -- ---- a change that keeps the state of the session

  module _ (stands : session_state f (change x) ≡ session_state f x) where
    pub sessions_same : (c : List ℕ) → session_states now_facts c ≡ session_states f c
    unfolding session_states session_state plan_for
    sessions_same c =
        let split = split_numbered f.sessions s x change there in
        let of_batch : Session → Bool = λ z. bytes_eq z.batch c in
        let first : List SessionState = map (session_state f) (filter of_batch split.0) in
        let rest : List SessionState = map (session_state f) (filter of_batch split.1) in
        ap (λ xs. map (session_state f) (filter of_batch xs)) split.3 ∙ map_filter-at of_batch (session_state f) split.0 split.1 (change x)
        ∙ ap (λ t. first ++ cond (of_batch (change x)) (t ∷ rest) rest) stands
        ∙ ap (λ d. first ++ cond (bytes_eq d c) (session_state f x ∷ rest) rest) batch
        ∙ sym (ap (λ xs. map (session_state f) (filter of_batch xs)) split.2 ∙ map_filter-at of_batch (session_state f) split.0 split.1 x)

    pub stand_same : (b r : List ℕ) → StandsSame f now_facts b r
    stand_same b r =
        let split = split_numbered f.sessions s x change there in
        let y : Session = change x in
        let first : List SessionState = map (session_state f) (filter (is_for b r) split.0) in
        let rest : List SessionState = map (session_state f) (filter (is_for b r) split.1) in
        let states : states_of now_facts b r ≡ states_of f b r =
        ap (λ xs. states_of (record f { sessions = xs }) b r) split.3 ∙ states_around f split.0 split.1 y b r
        ∙ ap (λ t. first ++ cond (is_for b r y) (t ∷ rest) rest) stands
        ∙ ap (λ d. first ++ cond (bytes_eq d b && bytes_eq y.rec r) (session_state f x ∷ rest) rest) batch
        ∙ ap (λ q. first ++ cond (bytes_eq x.batch b && bytes_eq q r) (session_state f x ∷ rest) rest) rec
        ∙ sym (ap (λ xs. states_of (record f { sessions = xs }) b r) split.2 ∙ states_around f split.0 split.1 x b r) in
        record { states = states; withdrawn = refl; remakes = refl; stands = record_same f now_facts b r states refl refl }
