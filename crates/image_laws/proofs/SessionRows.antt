-- The status words and the row of a session that changes.
use Rattle.std.proofs.Common.{◌≡◌, ℕ, ◌+◌, ◌==◌, true, List, [], ◌∷◌, ◌++◌, length, map, Some, refl, sym, ap, subst, ◌∙◌, arith, append_assoc, IsPermutation}
use Rattle.std.specs.List.{enumerate_from, flat_map}
use Rattle.std.proofs.lemmas.Bool.{cond-false, cond-true, eq-eqb}
use Rattle.std.proofs.lemmas.Grind.{flat_map-append}
use Rattle.std.proofs.lemmas.List.{length_push, map-append}
use Rattle.std.proofs.lemmas.List.Sorted.{IsPermutation-middle}
use Rattle.store_data.proofs.CommandLemmas.{enumerate_from-append}
use Rattle.store_data.specs.declared.cursor.Cursor.{Cursor}
use Rattle.job_facts.specs.declared.facts.SessionState.{SessionState}
use Rattle.job_facts.specs.declared.facts.SessionState.TheVariants as session
use Rattle.job_facts.specs.Facts.{Facts, Session, at_session, ended, with_end, with_word, worded}
use Rattle.job_facts.specs.States.{session_cursor, session_numbered, session_state}
use Rattle.table_rows.specs.Tables.{StoredSession, StoredWord, end_set, session_set}
use Rattle.image_laws.specs.Image.{stored_session, stored_sessions, stored_words, words_in}
use Rattle.image_laws.proofs.OneSession.{rows_changed, split_numbered}

-- ---- status words

-- The rows in `word` change only by the words of the changed session.
module _ (f : Facts) (s : ℕ) (x : Session) (change : Session → Session) (there : session_numbered f.sessions s ≡ Some x) where
  words_around : (before after : List Session) (z : Session) → 1 + length before ≡ s
      → flat_map words_in (enumerate_from 1 (before ++ z ∷ after)) ≡ flat_map words_in (enumerate_from 1 before) ++ (words_in (s, z) ++ flat_map words_in (enumerate_from (s + 1) after))
  words_around before after z number =
      ap (flat_map words_in) (enumerate_from-append 1 before (z ∷ after))
      ∙ flat_map-append words_in (enumerate_from 1 before) (enumerate_from (1 + length before) (z ∷ after))
      ∙ ap (λ n. flat_map words_in (enumerate_from 1 before) ++ flat_map words_in (enumerate_from n (z ∷ after))) number

  abbrev next : Facts
  next = record f { sessions = at_session s change f.sessions }

  pub words_stay : (change x).words ≡ x.words → stored_words next ≡ stored_words f
  unfolding stored_words
  words_stay same =
      let split = split_numbered f.sessions s x change there in
      let left : List StoredWord = flat_map words_in (enumerate_from 1 split.0) in
      let right : List StoredWord = flat_map words_in (enumerate_from (s + 1) split.1) in
      let as_word : ℕ × ℕ → StoredWord = λ w. record { session = s; place = w.0; sw = w.1 } in
      ap (λ xs. flat_map words_in (enumerate_from 1 xs)) split.3 ∙ words_around split.0 split.1 (change x) split.4
      ∙ ap (λ ws. left ++ (map as_word (enumerate_from 0 ws) ++ right)) same
      ∙ sym (ap (λ xs. flat_map words_in (enumerate_from 1 xs)) split.2 ∙ words_around split.0 split.1 x split.4)

  pub word_put : (sw : ℕ) → (change x).words ≡ x.words ++ sw ∷ []
      → IsPermutation (stored_words next) (record { session = s; place = length x.words; sw = sw } ∷ stored_words f)
  unfolding stored_words
  word_put sw more =
      let split = split_numbered f.sessions s x change there in
      let as_word : ℕ × ℕ → StoredWord = λ w. record { session = s; place = w.0; sw = w.1 } in
      let word : StoredWord = as_word (length x.words, sw) in
      let left : List StoredWord = flat_map words_in (enumerate_from 1 split.0) in
      let own : List StoredWord = words_in (s, x) in
      let right : List StoredWord = flat_map words_in (enumerate_from (s + 1) split.1) in
      let place : 0 + length x.words ≡ length x.words = omega arith in
      let own_now : words_in (s, change x) ≡ own ++ word ∷ [] =
      ap (λ ws. map as_word (enumerate_from 0 ws)) more
      ∙ ap (map as_word) (enumerate_from-append 0 x.words (sw ∷ [])) ∙ map-append as_word (enumerate_from 0 x.words) (enumerate_from (0 + length x.words) (sw ∷ []))
      ∙ ap (λ n. own ++ map as_word (enumerate_from n (sw ∷ []))) place in
      let now : stored_words next ≡ (left ++ own) ++ word ∷ right =
      ap (λ xs. flat_map words_in (enumerate_from 1 xs)) split.3 ∙ words_around split.0 split.1 (change x) split.4
      ∙ ap (λ ws. left ++ (ws ++ right)) own_now ∙ ap (λ ws. left ++ ws) (append_assoc own (word ∷ []) right) ∙ sym (append_assoc left own (word ∷ right)) in
      let was : (left ++ own) ++ right ≡ stored_words f =
      append_assoc left own right ∙ sym (ap (λ xs. flat_map words_in (enumerate_from 1 xs)) split.2 ∙ words_around split.0 split.1 x split.4) in
      subst (λ ws. IsPermutation ws (word ∷ stored_words f)) (sym now) (subst (λ ws. IsPermutation ((left ++ own) ++ word ∷ right) (word ∷ ws)) was (IsPermutation-middle (left ++ own) word right))

-- ---- the row of the session

module _ (f : Facts) (s : ℕ) (x : Session) (there : session_numbered f.sessions s ≡ Some x) where
  number : (s == s) ≡ true
  number = eq-eqb s s refl

  pub word_set : (sw : ℕ) (state : SessionState) (words : ℕ) (cursor : Cursor) → session_state f (worded sw x) ≡ state → length x.words + 1 ≡ words
      → session_cursor f (worded sw x) ≡ cursor → stored_sessions (with_word f s sw) ≡ map (session_set s state words cursor) (stored_sessions f)
  word_set sw state words cursor state_is words_is cursor_is =
      let y : Session = worded sw x in
      let old : StoredSession = stored_session f (s, x) in
      let hits : session_set s state words cursor old ≡ stored_session f (s, y) =
      cond-true (s == s) (record old { state = state; words = words; cursor = cursor }) old number
      ∙ ap (λ t. record old { state = t; words = words; cursor = cursor }) (sym state_is)
      ∙ ap (λ n. record old { state = session_state f y; words = n; cursor = cursor }) (sym (length_push x.words sw ∙ words_is))
      ∙ ap (λ k. record old { state = session_state f y; words = length y.words; cursor = k }) (sym cursor_is) in
      rows_changed f s x (worded sw) there refl refl (session_set s state words cursor)
      (λ k z miss. cond-false (k == s) (record (stored_session f (k, z)) { state = state; words = words; cursor = cursor }) (stored_session f (k, z)) miss) hits

  -- The end of a session doesn't change its words and its cursor.
  pub ended_set : session_state f (ended x) ≡ session.Spoiled → stored_sessions (with_end f s) ≡ map (end_set s) (stored_sessions f)
  unfolding session_cursor
  ended_set state_is =
      let y : Session = ended x in
      let old : StoredSession = stored_session f (s, x) in
      let hits : end_set s old ≡ stored_session f (s, y) =
      cond-true (s == s) (record old { state = session.Spoiled; ended = true }) old number
      ∙ ap (λ t. record old { state = t; ended = true }) (sym state_is) in
      rows_changed f s x ended there refl refl (end_set s)
      (λ k z miss. cond-false (k == s) (record (stored_session f (k, z)) { state = session.Spoiled; ended = true }) (stored_session f (k, z)) miss) hits
