-- The numbers of rows, and their ids.
use Rattle.std.proofs.Common.{◌≡◌, ℕ, ◌+◌, ◌≤◌, ◌<◌, List, [], ◌∷◌, All, length, map, refl, sym, ap, ◌∙◌, subst, arith}
use Rattle.std.specs.List.{enumerate_from, range_with_len}
use Rattle.std.proofs.lemmas.List.{length-map}
use Rattle.std.proofs.lemmas.List.Elements.{All-map}
use Rattle.std.proofs.lemmas.List.FromFn.{get_or-enumerate_from, length-enumerate_from}
use Rattle.std.proofs.lemmas.Simd.{map-map}
use Rattle.job_facts.specs.Facts.{Facts}
use Rattle.table_rows.specs.Tables.{StoredBatch, StoredSession}
use Rattle.image_laws.specs.Image.{batches_by_id, sessions_by_id, stored_batch, stored_batches, stored_lot, stored_lots, stored_session, stored_sessions}

module _ {X : Type 0} where
  numbers_are : (n : ℕ) (xs : List X) → map (λ (e : ℕ × X). e.0) (enumerate_from n xs) ≡ range_with_len n (length xs)
  numbers_are n [] = refl
  numbers_are n (x ∷ xs) = ap (λ ns. n ∷ ns) (numbers_are (n + 1) xs)

  ids_within : (xs : List X) → All (λ (e : ℕ × X). (1 ≤ e.0) × (e.0 ≤ length xs)) (enumerate_from 1 xs)
  ids_within xs k d within =
      let inside : k < length xs = omega (arith, within, length-enumerate_from 1 xs) in
      subst (λ (e : ℕ × X). (1 ≤ e.0) × (e.0 ≤ length xs)) (sym (get_or-enumerate_from 1 xs k d inside)) (omega arith, omega arith)

module _ (f : Facts) where
  pub session_ids : map (λ (s : StoredSession). s.id) (stored_sessions f) ≡ range_with_len 1 (length f.sessions)
  unfolding stored_sessions
  session_ids = map-map (λ (s : StoredSession). s.id) (stored_session f) (sessions_by_id f) ∙ numbers_are 1 f.sessions

  pub batch_ids : map (λ (b : StoredBatch). b.id) (stored_batches f) ≡ range_with_len 1 (length f.batches)
  unfolding stored_batches
  batch_ids = map-map (λ (b : StoredBatch). b.id) (stored_batch f) (batches_by_id f) ∙ numbers_are 1 f.batches

  -- The last id is the number of rows.
  pub session_ids_within : All (λ (s : StoredSession). (1 ≤ s.id) × (s.id ≤ length f.sessions)) (stored_sessions f)
  unfolding stored_sessions
  session_ids_within = All-map (λ (s : StoredSession). (1 ≤ s.id) × (s.id ≤ length f.sessions)) (stored_session f) (sessions_by_id f) (ids_within f.sessions)

  pub batch_ids_within : All (λ (b : StoredBatch). (1 ≤ b.id) × (b.id ≤ length f.batches)) (stored_batches f)
  unfolding stored_batches
  batch_ids_within = All-map (λ (b : StoredBatch). (1 ≤ b.id) × (b.id ≤ length f.batches)) (stored_batch f) (batches_by_id f) (ids_within f.batches)

  pub session_count : length f.sessions ≡ length (stored_sessions f)
  unfolding stored_sessions
  session_count = sym (length-map (sessions_by_id f) (stored_session f) ∙ length-enumerate_from 1 f.sessions)

  pub batch_count : length f.batches ≡ length (stored_batches f)
  unfolding stored_batches
  batch_count = sym (length-map (batches_by_id f) (stored_batch f) ∙ length-enumerate_from 1 f.batches)

  pub lot_count : length f.lots ≡ length (stored_lots f)
  unfolding stored_lots
  lot_count = sym (length-map f.lots (stored_lot f))
