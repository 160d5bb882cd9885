-- Look-ups of batches by name and by id, and the counters of batches.
use Rattle.std.proofs.Common.{◌≡◌, ℕ, ◌+◌, ◌≤◌, ◌==◌, Bool, true, false, cond, ◌&&◌, List, [], ◌∷◌, length, map, All, Option, Some, None, refl, sym, ap, ◌∙◌, arith}
use Rattle.std.specs.Prelude.{bytes_eq, find, option_map}
use Rattle.std.specs.List.{list_all, position_or_len}
use Rattle.std.proofs.lemmas.Bool.{false_from_ne_true}
use Rattle.std.proofs.lemmas.Bool.Decides.{nat_tests}
use Rattle.std.proofs.lemmas.List.Elements.{All-weaker}
use Rattle.std.proofs.lemmas.List.Folds.{find_at, list_all-map}
use Rattle.std.proofs.lemmas.List.Sums.{sum_by-cons}
use Rattle.std.proofs.lemmas.Option.{none-some}
use Rattle.store_data.proofs.GroupLemmas.{same-bytes_eq}
use Rattle.job_facts.specs.declared.facts.RecordState.{RecordState}
use Rattle.job_facts.specs.declared.facts.RecordState.TheVariants as rec
use Rattle.job_facts.specs.declared.rows.BatchTotals.{BatchTotals}
use Rattle.job_facts.specs.Accounts.{batch_totals, count_records, record_states, session_states}
use Rattle.job_facts.specs.Facts.{Batch, Facts, Session}
use Rattle.job_facts.specs.Sound.{IsSession, IsSound}
use Rattle.job_facts.specs.States.{batch_named, is_batch_finished, is_finished, record_state, records_named, records_under, same_record_state, session_state}
use Rattle.step_laws.proofs.BlankSums.{named_once}
use Rattle.table_rows.specs.Keys.{is_batch, is_batch_named}
use Rattle.table_rows.specs.Tables.{PassesOnce, totals_of}
use Rattle.table_rows.proofs.Found.{filter_none, find_passes}
use Rattle.image_laws.specs.Image.{batch_id, batches_by_id, stored_batch, stored_batches}
use Rattle.row_laws.specs.RowValues.{is_over_in, no_totals, totals_in}
use Rattle.row_laws.proofs.Finding.{AllPairs-map, AllPairs-numbered, find-map, found_numbered, number_found, number_once, option_map-map}

-- ---- counts of states

-- Each record has exactly one of the five states.
one_state : (s : RecordState)
    → cond {A = ℕ} (same_record_state rec.Waiting s) 1 0 + cond {A = ℕ} (same_record_state rec.Running s) 1 0 + cond {A = ℕ} (same_record_state rec.Failed s) 1 0
    + cond {A = ℕ} (same_record_state rec.Withdrawn s) 1 0 + cond {A = ℕ} (same_record_state rec.Good s) 1 0 ≡ 1
one_state rec.Waiting = refl
one_state rec.Running = refl
one_state rec.Failed = refl
one_state rec.Withdrawn = refl
one_state rec.Good = refl

one_more : (state s : RecordState) (states : List RecordState) → count_records (s ∷ states) state ≡ cond {A = ℕ} (same_record_state state s) 1 0 + count_records states state
one_more state s states = sum_by-cons (λ t. cond {A = ℕ} (same_record_state state t) 1 0) s states

five_counts : (states : List RecordState)
    → length states ≡ count_records states rec.Waiting + count_records states rec.Running + count_records states rec.Failed + count_records states rec.Withdrawn + count_records states rec.Good
five_counts [] = refl
five_counts (s ∷ states) = omega (
  arith,
  five_counts states,
  one_state s,
  one_more rec.Waiting s states,
  one_more rec.Running s states,
  one_more rec.Failed s states,
  one_more rec.Withdrawn s states,
  one_more rec.Good s states,
)

abbrev three_none : ℕ → ℕ → ℕ → Bool
three_none w r f = (w == 0) && ((r == 0) && (f == 0))

none_same : (w r f v q e : ℕ) → v ≡ w → q ≡ r → e ≡ f → three_none v q e ≡ three_none w r f
none_same w r f v q e one two three = λ i. three_none (one i) (two i) (three i)

not_none : (w r f : ℕ) → 1 ≤ w + r + f → three_none w r f ≡ false
not_none w r f some = false_from_ne_true (three_none w r f) (λ all. grind (arith, nat_tests))

abbrev CountsMore : RecordState → RecordState → List RecordState → Type 0
CountsMore t state states = count_records (t ∷ states) state ≡ cond {A = ℕ} (same_record_state state t) 1 0 + count_records states state

abbrev IsCounted : List RecordState → Type 0
IsCounted states = list_all is_finished states ≡ three_none (count_records states rec.Waiting) (count_records states rec.Running) (count_records states rec.Failed)

counted_more : (t : RecordState) (states : List RecordState) → CountsMore t rec.Waiting states → CountsMore t rec.Running states → CountsMore t rec.Failed states
    → IsCounted states → IsCounted (t ∷ states)
counted_more rec.Waiting states w r f rest = sym (not_none (count_records (rec.Waiting ∷ states) rec.Waiting) (count_records (rec.Waiting ∷ states) rec.Running) (count_records (rec.Waiting ∷ states) rec.Failed) (omega (arith, w)))
counted_more rec.Running states w r f rest = sym (not_none (count_records (rec.Running ∷ states) rec.Waiting) (count_records (rec.Running ∷ states) rec.Running) (count_records (rec.Running ∷ states) rec.Failed) (omega (arith, r)))
counted_more rec.Failed states w r f rest = sym (not_none (count_records (rec.Failed ∷ states) rec.Waiting) (count_records (rec.Failed ∷ states) rec.Running) (count_records (rec.Failed ∷ states) rec.Failed) (omega (arith, f)))
counted_more rec.Withdrawn states w r f rest =
    rest
    ∙ sym (none_same (count_records states rec.Waiting) (count_records states rec.Running) (count_records states rec.Failed)
    (count_records (rec.Withdrawn ∷ states) rec.Waiting) (count_records (rec.Withdrawn ∷ states) rec.Running) (count_records (rec.Withdrawn ∷ states) rec.Failed)
    (omega (arith, w)) (omega (arith, r)) (omega (arith, f)))
counted_more rec.Good states w r f rest =
    rest
    ∙ sym (none_same (count_records states rec.Waiting) (count_records states rec.Running) (count_records states rec.Failed)
    (count_records (rec.Good ∷ states) rec.Waiting) (count_records (rec.Good ∷ states) rec.Running) (count_records (rec.Good ∷ states) rec.Failed)
    (omega (arith, w)) (omega (arith, r)) (omega (arith, f)))

finished_counts : (states : List RecordState) → IsCounted states
finished_counts [] = refl
finished_counts (s ∷ states) = counted_more s states (one_more rec.Waiting s states) (one_more rec.Running s states) (one_more rec.Failed s states) (finished_counts states)

module _ (f : Facts) where
  -- ---- by name

  pub name_once : IsSound f → (n : List ℕ) → PassesOnce (is_batch_named n) (stored_batches f)
  unfolding stored_batches
  name_once sound n =
      AllPairs-map (λ x y. is_batch_named n x ≡ true → is_batch_named n y ≡ false) (stored_batch f) (batches_by_id f)
      (AllPairs-numbered (λ (a b : Batch). bytes_eq a.name n ≡ true → bytes_eq b.name n ≡ false) 1 f.batches (named_once (λ (b : Batch). b.name) f.batches n sound.named.batches.once))

  pub named_row : (n : List ℕ) → find (is_batch_named n) (stored_batches f) ≡ option_map (λ (b : Batch). stored_batch f (batch_id f.batches n, b)) (batch_named f.batches n)
  unfolding stored_batches
  named_row n =
      find-map (is_batch_named n) (stored_batch f) (batches_by_id f)
      ∙ ap (option_map (stored_batch f)) (found_numbered (λ (b : Batch). bytes_eq b.name n) 1 f.batches)
      ∙ option_map-map (stored_batch f) (λ b. (batch_id f.batches n, b)) (batch_named f.batches n)

  pub own_name : (n : List ℕ) (b : Batch) → batch_named f.batches n ≡ Some b → b.name ≡ n
  own_name n b there = same-bytes_eq b.name n (find_passes (λ (c : Batch). bytes_eq c.name n) f.batches b there)

  -- ---- by id

  pub id_once : (id : ℕ) → PassesOnce (is_batch id) (stored_batches f)
  unfolding stored_batches
  id_once id = AllPairs-map (λ x y. is_batch id x ≡ true → is_batch id y ≡ false) (stored_batch f) (batches_by_id f) (number_once id 1 f.batches)

  pub batch_at : (n : List ℕ) (b : Batch) → batch_named f.batches n ≡ Some b
      → find (λ (e : ℕ × Batch). e.0 == batch_id f.batches n) (batches_by_id f) ≡ Some (batch_id f.batches n, b)
  batch_at n b there =
      let is_named : Batch → Bool = λ c. bytes_eq c.name n in
      number_found (batch_id f.batches n) (position_or_len is_named f.batches) 1 f.batches refl
      ∙ ap (option_map (λ (c : Batch). (batch_id f.batches n, c))) (sym (find_at is_named f.batches) ∙ there)

  pub id_row : (n : List ℕ) (b : Batch) → batch_named f.batches n ≡ Some b → find (is_batch (batch_id f.batches n)) (stored_batches f) ≡ Some (stored_batch f (batch_id f.batches n, b))
  unfolding stored_batches
  id_row n b there = find-map (is_batch (batch_id f.batches n)) (stored_batch f) (batches_by_id f) ∙ ap (option_map (stored_batch f)) (batch_at n b there)

  -- ---- counters

  five : (n : List ℕ) → (batch_totals f n).records ≡ (batch_totals f n).waiting + (batch_totals f n).running + (batch_totals f n).failed + (batch_totals f n).withdrawn + (batch_totals f n).good
  unfolding batch_totals
  five n = five_counts (record_states f n)

  pub totals_are : (n : List ℕ) (b : Batch) → batch_named f.batches n ≡ Some b → batch_totals f n ≡ totals_of (stored_batch f (batch_id f.batches n, b))
  totals_are n b there =
      ap (batch_totals f) (sym (own_name n b there)) ∙ ap (λ (k : ℕ). let t : BatchTotals = batch_totals f b.name in record t { records = k }) (five b.name)

  -- A batch that doesn't exist has no sessions.
  no_session : IsSound f → (n : List ℕ) → batch_named f.batches n ≡ None → All (λ (s : Session). bytes_eq s.batch n ≡ false) f.sessions
  no_session sound n none =
      All-weaker (IsSession f) (λ (s : Session). bytes_eq s.batch n ≡ false)
      (λ s is. false_from_ne_true (bytes_eq s.batch n) (λ same. none-some is.batch (sym none ∙ ap (batch_named f.batches) (sym (same-bytes_eq s.batch n same)) ∙ is.batch_is)))
      f.sessions sound.sessions.each

  no_states : (n : List ℕ) → batch_named f.batches n ≡ None → record_states f n ≡ []
  unfolding record_states
  no_states n none = ap (λ o. map (record_state f n) (records_under f.products o)) none

  no_sessions : IsSound f → (n : List ℕ) → batch_named f.batches n ≡ None → session_states f n ≡ []
  unfolding session_states
  no_sessions sound n none = ap (map (session_state f)) (filter_none (λ (s : Session). bytes_eq s.batch n) f.sessions (no_session sound n none))

  pub totals_none : IsSound f → (n : List ℕ) → batch_named f.batches n ≡ None → batch_totals f n ≡ no_totals
  unfolding batch_totals
  totals_none sound n none = rw (no_states n none, no_sessions sound n none) refl

  pub totals_in_rows : IsSound f → (n : List ℕ) → batch_totals f n ≡ totals_in (find (is_batch_named n) (stored_batches f))
  totals_in_rows sound n = by_batch (batch_named f.batches n) refl ∙ sym (ap totals_in (named_row n))
    where
      by_batch : (o : Option Batch) → batch_named f.batches n ≡ o → batch_totals f n ≡ totals_in (option_map (λ (b : Batch). stored_batch f (batch_id f.batches n, b)) o)
      by_batch None is = totals_none sound n is
      by_batch (Some b) is = totals_are n b is

  by_states : (n : List ℕ) → is_batch_finished f n ≡ list_all is_finished (record_states f n)
  unfolding is_batch_finished record_states
  by_states n = sym (list_all-map is_finished (record_state f n) (records_named f n))

  by_totals : (n : List ℕ) → list_all is_finished (record_states f n) ≡ three_none (batch_totals f n).waiting (batch_totals f n).running (batch_totals f n).failed
  unfolding batch_totals
  by_totals n = finished_counts (record_states f n)

  pub finished_in_rows : IsSound f → (n : List ℕ) → is_batch_finished f n ≡ is_over_in (find (is_batch_named n) (stored_batches f))
  finished_in_rows sound n = by_states n ∙ by_totals n ∙ by_batch (batch_named f.batches n) refl ∙ sym (ap is_over_in (named_row n))
    where
      by_batch : (o : Option Batch) → batch_named f.batches n ≡ o
          → three_none (batch_totals f n).waiting (batch_totals f n).running (batch_totals f n).failed ≡ is_over_in (option_map (λ (b : Batch). stored_batch f (batch_id f.batches n, b)) o)
      by_batch None is = ap (λ (t : BatchTotals). three_none t.waiting t.running t.failed) (totals_none sound n is)
      by_batch (Some b) is = ap (λ (t : BatchTotals). three_none t.waiting t.running t.failed) (totals_are n b is)
