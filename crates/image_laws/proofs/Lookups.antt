-- Look-ups of keys in rows in any order, and the rows of an image with a key.
use Rattle.std.proofs.Common.{◌≡◌, ℕ, zero, suc, ◌+◌, ◌<◌, ◌≤◌, ◌==◌, ◌&&◌, Bool, true, false, List, [], ◌∷◌, ◌++◌, length, map, filter, find, slice_get, Option, Some, None, option_map, option_and_then, option_to_list, inl, inr, refl, ap, ◌∙◌, arith, append-nil, IsPermutation}
use Rattle.std.specs.List.{enumerate_from, flat_map}
use Rattle.std.proofs.lemmas.Bool.{cases_Bool}
use Rattle.std.proofs.lemmas.Bool.Decides.{nat_tests}
use Rattle.std.proofs.lemmas.List.Elements.{filter-append}
use Rattle.std.proofs.lemmas.List.Sums.{length-filter}
use Rattle.step_laws.proofs.Permuted.{count_moved, find_moved}
use Rattle.job_facts.specs.Facts.{Batch, Facts, Session}
use Rattle.job_facts.specs.States.{records_of}
use Rattle.table_rows.specs.Tables.{StoredBatch, StoredRecord, StoredSession, StoredWord}
use Rattle.image_laws.specs.Image.{records_in, stored_batch, stored_batches, stored_record, stored_records, stored_session, stored_sessions, stored_words, words_in}

equal : (a b : ℕ) → a ≡ b → (a == b) ≡ true
equal a b is = grind (arith, nat_tests)

below : (a b : ℕ) → a < b → (a == b) ≡ false
below a b low = grind (arith, nat_tests)

above : (a b : ℕ) → b < a → (a == b) ≡ false
above a b low = grind (arith, nat_tests)

-- ---- rows in any order

module _ {X : Type 0} (p : X → Bool) where
  -- A look-up finds the first element that satisfies `p`.
  pub find_first : (xs : List X) → find p xs ≡ slice_get (filter p xs) 0
  find_first [] = refl
  find_first (x ∷ xs) = elim (cases_Bool (p x)) [ inl hit ↦ rw hit refl | inr miss ↦ rw miss (find_first xs) ]

  short : (o : Option X) → length (option_to_list o) ≤ 1
  short None = omega arith
  short (Some x) = omega arith

  first_of : (o : Option X) → slice_get (option_to_list o) 0 ≡ o
  first_of None = refl
  first_of (Some x) = refl

  -- If at most one element satisfies `p`, a look-up finds it in any order.
  pub found_in_any_order : (xs ys : List X) (o : Option X) → IsPermutation xs ys → filter p ys ≡ option_to_list o → find p xs ≡ o
  found_in_any_order xs ys o moved is =
      let one = short o in
      let counts = count_moved p xs ys moved in
      let counted = length-filter p ys in
      let many : length (filter p ys) ≡ length (option_to_list o) = ap length is in
      find_moved p xs ys moved (omega arith) ∙ find_first ys ∙ ap (λ l. slice_get l 0) is ∙ first_of o

-- ---- rows of a numbered list

-- one row for each element
module _ {X Y : Type 0} (g : ℕ × X → Y) (q : Y → Bool) (id : ℕ) (keyed : (k : ℕ) (x : X) → q (g (k, x)) ≡ (k == id)) where
  none_numbered : (xs : List X) (n : ℕ) → id < n → filter q (map g (enumerate_from n xs)) ≡ []
  none_numbered [] n low = refl
  none_numbered (x ∷ xs) n low =
      let miss : q (g (n, x)) ≡ false = keyed n x ∙ above n id low in
      rw miss (none_numbered xs (n + 1) (omega arith))

  pub one_numbered : (xs : List X) (n k : ℕ) → id ≡ n + k → filter q (map g (enumerate_from n xs)) ≡ option_to_list (option_map (λ x. g (id, x)) (slice_get xs k))
  one_numbered [] n k is = refl
  one_numbered (x ∷ xs) n zero is =
      let same : n ≡ id = omega arith in
      let hit : q (g (n, x)) ≡ true = keyed n x ∙ equal n id same in
      rw (hit, none_numbered xs (n + 1) (omega arith)) (ap (λ i. g (i, x) ∷ []) same)
  one_numbered (x ∷ xs) n (suc k) is =
      let miss : q (g (n, x)) ≡ false = keyed n x ∙ below n id (omega arith) in
      rw miss (one_numbered xs (n + 1) k (omega arith))

-- a list of rows for each element
module _ {X Y : Type 0} (g : ℕ × X → List Y) (q : Y → Bool) (id : ℕ) (others : (k : ℕ) (x : X) → (k == id) ≡ false → filter q (g (k, x)) ≡ []) where
  none_listed : (xs : List X) (n : ℕ) → id < n → filter q (flat_map g (enumerate_from n xs)) ≡ []
  none_listed [] n low = refl
  none_listed (x ∷ xs) n low =
      filter-append q (g (n, x)) (flat_map g (enumerate_from (n + 1) xs))
      ∙ ap (λ ys. ys ++ filter q (flat_map g (enumerate_from (n + 1) xs))) (others n x (above n id low))
      ∙ none_listed xs (n + 1) (omega arith)

  -- The rows that satisfy `q` are rows of the element with the number `id`, if there is one.
  abbrev pub IsOfOne : Option X → List Y → Type 0
  IsOfOne None ys = ys ≡ []
  IsOfOne (Some x) ys = ys ≡ filter q (g (id, x))

  pub one_listed : (xs : List X) (n k : ℕ) → id ≡ n + k → IsOfOne (slice_get xs k) (filter q (flat_map g (enumerate_from n xs)))
  one_listed [] n k is = refl
  one_listed (x ∷ xs) n zero is =
      let same : n ≡ id = omega arith in
      filter-append q (g (n, x)) (flat_map g (enumerate_from (n + 1) xs))
      ∙ ap (λ ys. filter q (g (n, x)) ++ ys) (none_listed xs (n + 1) (omega arith))
      ∙ append-nil (filter q (g (n, x))) ∙ ap (λ i. filter q (g (i, x))) same
  one_listed (x ∷ xs) n (suc k) is =
      let skipped : filter q (flat_map g (enumerate_from n (x ∷ xs))) ≡ filter q (flat_map g (enumerate_from (n + 1) xs)) =
      filter-append q (g (n, x)) (flat_map g (enumerate_from (n + 1) xs))
      ∙ ap (λ ys. ys ++ filter q (flat_map g (enumerate_from (n + 1) xs))) (others n x (below n id (omega arith))) in
      rw skipped (one_listed xs (n + 1) k (omega arith))

-- No row satisfies `q` if the row of no element does.
pub none_pass : {X Y : Type 0} (g : X → Y) (q : Y → Bool) (xs : List X) → ((x : X) → q (g x) ≡ false) → filter q (map g xs) ≡ []
none_pass g q [] fails = refl
none_pass g q (x ∷ xs) fails = rw (fails x) (none_pass g q xs fails)

-- ---- an image

abbrev pub is_batch_row : ℕ → StoredBatch → Bool
is_batch_row id b = b.id == id

abbrev pub is_record_row : ℕ → ℕ → StoredRecord → Bool
is_record_row batch place r = (r.batch == batch) && (r.place == place)

abbrev pub is_session_row : ℕ → StoredSession → Bool
is_session_row id s = s.id == id

abbrev pub is_word_row : ℕ → ℕ → StoredWord → Bool
is_word_row session place w = (w.session == session) && (w.place == place)

module _ (f : Facts) where
  pub batch_rows : (k : ℕ) → filter (is_batch_row (1 + k)) (stored_batches f) ≡ option_to_list (option_map (λ (b : Batch). stored_batch f (1 + k, b)) (slice_get f.batches k))
  unfolding stored_batches
  batch_rows k = one_numbered (stored_batch f) (is_batch_row (1 + k)) (1 + k) (λ n b. refl) f.batches 1 k refl

  pub session_rows : (k : ℕ) → filter (is_session_row (1 + k)) (stored_sessions f) ≡ option_to_list (option_map (λ (s : Session). stored_session f (1 + k, s)) (slice_get f.sessions k))
  unfolding stored_sessions
  session_rows k = one_numbered (stored_session f) (is_session_row (1 + k)) (1 + k) (λ n s. refl) f.sessions 1 k refl

  -- the row of the record at `place` of the batch `b` with the id `1 + k`, if there is one
  abbrev pub record_row : ℕ → ℕ → Batch → Option StoredRecord
  record_row k place b = option_map (λ r. stored_record f (1 + k, b) (place, r)) (slice_get (records_of f.products b) place)

  pub record_rows : (k place : ℕ) → filter (is_record_row (1 + k) place) (stored_records f) ≡ option_to_list (option_and_then (record_row k place) (slice_get f.batches k))
  unfolding stored_records
  record_rows k place = by (slice_get f.batches k) (filter q (stored_records f)) (one_listed (records_in f) q (1 + k) others f.batches 1 k refl)
    where
      q : StoredRecord → Bool
      q = is_record_row (1 + k) place

      others : (n : ℕ) (b : Batch) → (n == 1 + k) ≡ false → filter q (records_in f (n, b)) ≡ []
      others n b miss = none_pass (stored_record f (n, b)) q _ (λ r. ap (λ hit. hit && (r.0 == place)) miss)

      one : (b : Batch) → filter q (records_in f (1 + k, b)) ≡ option_to_list (record_row k place b)
      one b = one_numbered (stored_record f (1 + k, b)) q place (λ n r. ap (λ hit. hit && (n == place)) (equal (1 + k) (1 + k) refl)) (records_of f.products b) 0 place (omega arith)

      by : (o : Option Batch) (rows : List StoredRecord) → IsOfOne (records_in f) q (1 + k) others o rows → rows ≡ option_to_list (option_and_then (record_row k place) o)
      by None rows is = is
      by (Some b) rows is = is ∙ one b

  abbrev pub word_row : ℕ → ℕ → Session → Option StoredWord
  word_row k place s = option_map (λ sw. let w : StoredWord = record { session = 1 + k; place = place; sw = sw } in w) (slice_get s.words place)

  pub word_rows : (k place : ℕ) → filter (is_word_row (1 + k) place) (stored_words f) ≡ option_to_list (option_and_then (word_row k place) (slice_get f.sessions k))
  unfolding stored_words
  word_rows k place = by (slice_get f.sessions k) (filter q (stored_words f)) (one_listed words_in q (1 + k) others f.sessions 1 k refl)
    where
      q : StoredWord → Bool
      q = is_word_row (1 + k) place

      word : ℕ → ℕ × ℕ → StoredWord
      word id w = record { session = id; place = w.0; sw = w.1 }

      others : (n : ℕ) (s : Session) → (n == 1 + k) ≡ false → filter q (words_in (n, s)) ≡ []
      others n s miss = none_pass (word n) q _ (λ w. ap (λ hit. hit && (w.0 == place)) miss)

      one : (s : Session) → filter q (words_in (1 + k, s)) ≡ option_to_list (word_row k place s)
      one s = one_numbered (word (1 + k)) q place (λ n w. ap (λ hit. hit && (n == place)) (equal (1 + k) (1 + k) refl)) s.words 0 place (omega arith)

      by : (o : Option Session) (rows : List StoredWord) → IsOfOne words_in q (1 + k) others o rows → rows ≡ option_to_list (option_and_then (word_row k place) o)
      by None rows is = is
      by (Some s) rows is = is ∙ one s
