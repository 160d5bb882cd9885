-- The rows of an image, by batch and by session: ids are consecutive, and each batch file and each
-- session has exactly its own rows.
use Rattle.std.proofs.Common.{◌≡◌, ℕ, ◌+◌, ◌==◌, Bool, true, false, List, [], ◌∷◌, length, map, Some, refl, sym, ap, ◌∙◌, subst}
use Rattle.std.specs.Prelude.{filter, slice_get}
use Rattle.std.specs.List.{enumerate_from, flat_map, range_with_len}
use Rattle.std.proofs.lemmas.List.Elements.{All-map}
use Rattle.std.proofs.lemmas.List.Folds.{flat_map-map}
use Rattle.std.proofs.lemmas.Simd.{map-map}
use Rattle.store_data.proofs.RankLemmas.{flat_map-flat_map}
use Rattle.job_facts.specs.Contents.{Contents}
use Rattle.job_facts.specs.Facts.{Facts, Session}
use Rattle.table_rows.specs.Tables.{StoredBatch, StoredSession, StoredWord}
use Rattle.image_laws.specs.Image.{batches_by_id, image, placed_records, records_in, sessions_by_id, stored_batch, stored_batches, stored_groupings, stored_record, stored_records, stored_remakes, stored_session, stored_sessions, stored_words, words_in}
use Rattle.image_laws.proofs.Lists.{flat_map_same}
use Rattle.image_laws.proofs.Lookups.{IsOfOne, none_pass, one_listed}
use Rattle.image_laws.proofs.Places.{map_joined}
use Rattle.image_laws.specs.Decided.{batch_of_row}
use Rattle.row_laws.proofs.Finding.{filter_all, unnumbered}
use Rattle.row_laws.proofs.RecordRows.{equal_self}
use Rattle.audit_laws.specs.Audited.{file_groupings, file_keys, key_of, placed_words, turns_of, words_of}
use Rattle.audit_laws.proofs.AuditedPlaces.{All-placed}

-- If each element gives one row with its number, the numbers of the rows are consecutive.
numbers_are : {X Y : Type 0} (number : Y → ℕ) (g : ℕ × X → Y) → ((e : ℕ × X) → number (g e) ≡ e.0) → (n : ℕ) (xs : List X)
    → map number (map g (enumerate_from n xs)) ≡ range_with_len n (length (map g (enumerate_from n xs)))
numbers_are number g is n [] = refl
numbers_are number g is n (x ∷ xs) =
    ap (λ k. k ∷ map number (map g (enumerate_from (n + 1) xs))) (is (n, x))
    ∙ ap (λ ks. n ∷ ks) (numbers_are number g is (n + 1) xs)

module _ (c : Contents) where
  abbrev f : Facts
  f = c.facts

  -- ---- batches

  pub batches_back : map batch_of_row (stored_batches f) ≡ f.batches
  unfolding stored_batches
  batches_back = map-map batch_of_row (stored_batch f) (batches_by_id f) ∙ unnumbered 1 f.batches

  pub batch_ids : map (λ (b : StoredBatch). b.id) (stored_batches f) ≡ range_with_len 1 (length (stored_batches f))
  unfolding stored_batches
  batch_ids = numbers_are (λ (b : StoredBatch). b.id) (stored_batch f) (λ e. refl) 1 f.batches

  pub records_filed : map key_of (stored_records f) ≡ flat_map (file_keys (image c)) (stored_batches f)
  unfolding stored_records stored_batches
  records_filed =
      sym (map_joined key_of (records_in f) (batches_by_id f))
      ∙ (λ i. flat_map (λ e. map-map key_of (stored_record f e) (placed_records f e) i) (batches_by_id f))
      ∙ sym (flat_map-map (file_keys (image c)) (stored_batch f) (batches_by_id f))

  pub groupings_filed : stored_groupings f ≡ flat_map (file_groupings (image c)) (stored_batches f)
  unfolding stored_groupings stored_batches
  groupings_filed = sym (flat_map-map (file_groupings (image c)) (stored_batch f) (batches_by_id f))

  pub remakes_turned : stored_remakes f ≡ flat_map turns_of (stored_records f)
  unfolding stored_remakes stored_records
  remakes_turned =
      (λ i. flat_map (λ e. sym (flat_map-map turns_of (stored_record f e) (placed_records f e)) i) (batches_by_id f))
      ∙ sym (flat_map-flat_map turns_of (records_in f) (batches_by_id f))

  -- ---- sessions

  pub session_ids : map (λ (s : StoredSession). s.id) (stored_sessions f) ≡ range_with_len 1 (length (stored_sessions f))
  unfolding stored_sessions
  session_ids = numbers_are (λ (s : StoredSession). s.id) (stored_session f) (λ e. refl) 1 f.sessions

  abbrev word : ℕ → ℕ × ℕ → StoredWord
  word id w = record { session = id; place = w.0; sw = w.1 }

  pub own_words : (k : ℕ) (s : Session) → slice_get f.sessions k ≡ Some s → words_of (stored_words f) (1 + k) ≡ s.words
  unfolding stored_words
  own_words k s there =
      let is_own : StoredWord → Bool = λ w. w.session == 1 + k in
      let sw : StoredWord → ℕ = λ w. w.sw in
      let others : (n : ℕ) (x : Session) → (n == 1 + k) ≡ false → filter is_own (words_in (n, x)) ≡ [] =
      λ n x miss. none_pass (word n) is_own (enumerate_from 0 x.words) (λ w. miss) in
      let kept : filter is_own (stored_words f) ≡ filter is_own (words_in (1 + k, s)) =
      subst (λ o. IsOfOne words_in is_own (1 + k) others o (filter is_own (stored_words f))) there
      (one_listed words_in is_own (1 + k) others f.sessions 1 k refl) in
      ap (map sw) (kept ∙ filter_all is_own (words_in (1 + k, s))
      (All-map (λ w. is_own w ≡ true) (word (1 + k)) (enumerate_from 0 s.words) (λ i d within. equal_self (1 + k))))
      ∙ map-map sw (word (1 + k)) (enumerate_from 0 s.words) ∙ unnumbered 0 s.words

  pub words_placed : stored_words f ≡ flat_map (placed_words (image c)) (stored_sessions f)
  unfolding stored_words stored_sessions
  words_placed =
      flat_map_same words_in (λ e. placed_words (image c) (stored_session f e)) (sessions_by_id f)
      (All-placed (λ e. words_in e ≡ placed_words (image c) (stored_session f e)) 1 f.sessions
      (λ k s there. ap (λ ws. map (word (1 + k)) (enumerate_from 0 ws)) (sym (own_words k s there))))
      ∙ sym (flat_map-map (placed_words (image c)) (stored_session f) (sessions_by_id f))
