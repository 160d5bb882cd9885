-- The batches and sessions that the rows of an image determine.
use Rattle.std.proofs.Common.{◌≡◌, ℕ, suc, ◌+◌, ◌||◌, true, List, [], ◌∷◌, length, find, slice_get, bytes_eq, Option, Some, None, option_map, option_and_then, unwrap_or, inl, inr, refl, sym, ap, subst, ◌∙◌, arith}
use Rattle.std.specs.List.{cons_option, list_any, position_or_len}
use Rattle.std.proofs.lemmas.Bool.{cases_Bool, cond-true, cond-false, false≢true}
use Rattle.std.proofs.lemmas.List.{length-map}
use Rattle.std.proofs.lemmas.List.Folds.{find_at}
use Rattle.std.proofs.lemmas.List.FromFn.{length-enumerate_from}
use Rattle.std.proofs.lemmas.List.Sorted.{length_permutation}
use Rattle.store_data.proofs.GroupLemmas.{same-bytes_eq}
use Rattle.job_facts.specs.Contents.{AreSound, Contents}
use Rattle.job_facts.specs.Facts.{Batch, Facts, Session}
use Rattle.job_facts.specs.States.{records_named, records_of, records_under}
use Rattle.step_laws.proofs.Numbered.{session_sound}
use Rattle.table_rows.specs.Tables.{HaveSameRows, StoredBatch, StoredRecord, StoredWord, Tables}
use Rattle.image_laws.specs.Image.{batch_id, batches_by_id, image, place_in, sessions_by_id, stored_batch, stored_batches, stored_record, stored_records, stored_session, stored_sessions, stored_words}
use Rattle.image_laws.proofs.Lookups.{batch_rows, found_in_any_order, is_batch_row, is_record_row, is_session_row, is_word_row, record_row, record_rows, session_rows, word_row, word_rows}
use Rattle.image_laws.proofs.Named.{batch_there, has_name}
use Rattle.image_laws.specs.Decided.{batch_name, batch_of_row, batch_with, found_from, record_name, session_of_row, session_with, word_with}

-- ---- lists by index

-- If a look-up of each number finds the element at this index, the look-ups of all numbers find the
-- list.
pub found_from_is : {X : Type 0} (look : ℕ → Option X) (xs : List X) (n : ℕ) → ((j : ℕ) → look (n + j) ≡ slice_get xs j) → found_from look n (length xs) ≡ xs
found_from_is look [] n at = refl
found_from_is look (x ∷ xs) n at =
    let now : n + 0 ≡ n = omega arith in
    let first : look n ≡ Some x = subst (λ q. look q ≡ Some x) now (at 0) in
    let later = λ (j : ℕ). let e : n + suc j ≡ n + 1 + j = omega arith in subst (λ q. look q ≡ slice_get xs j) e (at (suc j)) in
    ap (λ o. cons_option o (found_from look (n + 1) (length xs))) first ∙ ap (λ ys. x ∷ ys) (found_from_is look xs (n + 1) later)

-- A look-up of a name that the list contains finds this name.
find_name : (r : List ℕ) (names : List (List ℕ)) → list_any (bytes_eq r) names ≡ true → find (bytes_eq r) names ≡ Some r
find_name r [] there = absurd (false≢true there)
find_name r (n ∷ names) there = elim (cases_Bool (bytes_eq r n)) [
  | inl hit ↦ cond-true (bytes_eq r n) (Some n) (find (bytes_eq r) names) hit ∙ ap Some (sym (same-bytes_eq r n hit))
  | inr miss ↦ cond-false (bytes_eq r n) (Some n) (find (bytes_eq r) names) miss ∙ find_name r names (sym (ap (λ b. b || list_any (bytes_eq r) names) miss) ∙ there)
]

named_there : (r : List ℕ) (names : List (List ℕ)) → list_any (bytes_eq r) names ≡ true → slice_get names (place_in names r) ≡ Some r
named_there r names there = sym (find_at (bytes_eq r) names) ∙ find_name r names there

module _ (c : Contents) (t : Tables) (sound : AreSound c) (same : HaveSameRows t (image c)) where
  abbrev f : Facts
  f = c.facts

  -- ---- look-ups

  batch_found : (k : ℕ) → find (is_batch_row (1 + k)) t.batches ≡ option_map (λ (b : Batch). stored_batch f (1 + k, b)) (slice_get f.batches k)
  batch_found k = found_in_any_order (is_batch_row (1 + k)) t.batches (stored_batches f) _ same.batches (batch_rows f k)

  record_found : (k place : ℕ) → find (is_record_row (1 + k) place) t.records ≡ option_and_then (record_row f k place) (slice_get f.batches k)
  record_found k place = found_in_any_order (is_record_row (1 + k) place) t.records (stored_records f) _ same.records (record_rows f k place)

  session_found : (k : ℕ) → find (is_session_row (1 + k)) t.sessions ≡ option_map (λ (s : Session). stored_session f (1 + k, s)) (slice_get f.sessions k)
  session_found k = found_in_any_order (is_session_row (1 + k)) t.sessions (stored_sessions f) _ same.sessions (session_rows f k)

  word_found : (k place : ℕ) → find (is_word_row (1 + k) place) t.words ≡ option_and_then (word_row f k place) (slice_get f.sessions k)
  word_found k place = found_in_any_order (is_word_row (1 + k) place) t.words (stored_words f) _ same.words (word_rows f k place)

  -- ---- names

  pub batch_name_at : (k : ℕ) (b : Batch) → slice_get f.batches k ≡ Some b → batch_name t (1 + k) ≡ b.name
  batch_name_at k b there =
      let name : Option StoredBatch → List ℕ = λ o. unwrap_or (option_map (λ (x : StoredBatch). x.name) o) [] in
      ap name (batch_found k) ∙ ap (λ o. name (option_map (λ (x : Batch). stored_batch f (1 + k, x)) o)) there

  pub record_name_at : (k place : ℕ) (b : Batch) (r : List ℕ) → slice_get f.batches k ≡ Some b → slice_get (records_of f.products b) place ≡ Some r → record_name t (1 + k) place ≡ r
  record_name_at k place b r there within =
      let name : Option StoredRecord → List ℕ = λ o. unwrap_or (option_map (λ (x : StoredRecord). x.name) o) [] in
      ap name (record_found k place) ∙ ap (λ o. name (option_and_then (record_row f k place) o)) there ∙ name_of (slice_get (records_of f.products b) place) within
    where
      name_of : (o : Option (List ℕ)) → o ≡ Some r → unwrap_or (option_map (λ (x : StoredRecord). x.name) (option_map (λ n. stored_record f (1 + k, b) (place, n)) o)) [] ≡ r
      name_of o is = ap (λ p. unwrap_or (option_map (λ (x : StoredRecord). x.name) (option_map (λ n. stored_record f (1 + k, b) (place, n)) p)) []) is

  -- ---- batches

  batch_back : (k : ℕ) (o : Option Batch) → option_map batch_of_row (option_map (λ (b : Batch). stored_batch f (1 + k, b)) o) ≡ o
  batch_back k None = refl
  batch_back k (Some b) = refl

  batches_counted : length (stored_batches f) ≡ length f.batches
  unfolding stored_batches
  batches_counted = length-map (batches_by_id f) (stored_batch f) ∙ length-enumerate_from 1 f.batches

  pub batches_are : found_from (batch_with t) 1 (length t.batches) ≡ f.batches
  batches_are =
      ap (found_from (batch_with t) 1) (sym (length_permutation t.batches (stored_batches f) same.batches) ∙ batches_counted)
      ∙ found_from_is (batch_with t) f.batches 1 (λ k. ap (option_map batch_of_row) (batch_found k) ∙ batch_back k (slice_get f.batches k))

  -- ---- sessions

  word_back : (o : Option ℕ) (k place : ℕ) → option_map (λ (w : StoredWord). w.sw) (option_map (λ sw. let w : StoredWord = record { session = 1 + k; place = place; sw = sw } in w) o) ≡ o
  word_back None k place = refl
  word_back (Some sw) k place = refl

  words_are : (k : ℕ) (s : Session) → slice_get f.sessions k ≡ Some s → found_from (word_with t (1 + k)) 0 (length s.words) ≡ s.words
  words_are k s there =
      found_from_is (word_with t (1 + k)) s.words 0 (λ j.
      let sw : Option StoredWord → Option ℕ = option_map (λ (w : StoredWord). w.sw) in
      let place : 0 + j ≡ j = omega arith in
      ap sw (word_found k (0 + j)) ∙ ap (λ o. sw (option_and_then (word_row f k (0 + j)) o)) there ∙ word_back (slice_get s.words (0 + j)) k (0 + j) ∙ ap (slice_get s.words) place)

  session_is : (k : ℕ) (s : Session) → slice_get f.sessions k ≡ Some s → session_of_row t (stored_session f (1 + k, s)) ≡ s
  session_is k s there =
      let is = session_sound f (suc k) s sound.facts there in
      let b = is.batch in
      let at_batch = batch_there f.batches s.batch b is.batch_is in
      let i = position_or_len (λ (x : Batch). bytes_eq x.name s.batch) f.batches in
      let place = place_in (records_named f s.batch) s.rec in
      let batch : batch_name t (batch_id f.batches s.batch) ≡ s.batch = batch_name_at i b at_batch ∙ has_name f.batches s.batch b is.batch_is in
      let own : records_named f s.batch ≡ records_of f.products b = ap (records_under f.products) is.batch_is in
      let within : slice_get (records_of f.products b) place ≡ Some s.rec = ap (λ names. slice_get names place) (sym own) ∙ named_there s.rec (records_named f s.batch) is.there in
      let rec : record_name t (batch_id f.batches s.batch) place ≡ s.rec = record_name_at i place b s.rec at_batch within in
      let made : List ℕ → List ℕ → List ℕ → Session = λ x y words. record { machine = s.machine; batch = x; rec = y; blank = s.blank; words = words; ended = s.ended } in
      let words = found_from (word_with t (1 + k)) 0 (length s.words) in
      ap (λ x. made x (record_name t (batch_id f.batches s.batch) place) words) batch ∙ ap (λ y. made s.batch y words) rec ∙ ap (made s.batch s.rec) (words_are k s there)

  session_back : (k : ℕ) (o : Option Session) → slice_get f.sessions k ≡ o → option_map (session_of_row t) (option_map (λ (s : Session). stored_session f (1 + k, s)) o) ≡ o
  session_back k None there = refl
  session_back k (Some s) there = ap Some (session_is k s there)

  sessions_counted : length (stored_sessions f) ≡ length f.sessions
  unfolding stored_sessions
  sessions_counted = length-map (sessions_by_id f) (stored_session f) ∙ length-enumerate_from 1 f.sessions

  pub sessions_are : found_from (session_with t) 1 (length t.sessions) ≡ f.sessions
  sessions_are =
      ap (found_from (session_with t) 1) (sym (length_permutation t.sessions (stored_sessions f) same.sessions) ∙ sessions_counted)
      ∙ found_from_is (session_with t) f.sessions 1 (λ k. ap (option_map (session_of_row t)) (session_found k) ∙ session_back k (slice_get f.sessions k) refl)
