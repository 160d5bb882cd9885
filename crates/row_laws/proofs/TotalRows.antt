-- The counters of the blanks of a product, from the rows of its lots and batches.
use Rattle.std.proofs.Common.{◌≡◌, ℕ, suc, ◌+◌, ◌≤◌, Bool, true, false, ◌&&◌, List, [], ◌∷◌, get_or, length, map, All, Option, Some, None, inl, inr, refl, sym, ap, ◌∙◌, arith}
use Rattle.std.specs.Prelude.{AllPairs, bytes_eq, count_by, filter, sum_by}
use Rattle.std.specs.List.{list_any}
use Rattle.std.proofs.lemmas.Bool.{cases_Bool}
use Rattle.std.proofs.lemmas.List.{length-map}
use Rattle.std.proofs.lemmas.List.Elements.{All-weaker}
use Rattle.std.proofs.lemmas.List.Folds.{fold-map, list_any_none}
use Rattle.std.proofs.lemmas.List.Sums.{sum_by-cons}
use Rattle.store_data.proofs.GroupLemmas.{same-bytes_eq}
use Rattle.store_data.proofs.PieceLemmas.{sum_by-agree}
use Rattle.store_data.proofs.SummaryLemmas.{filter-map}
use Rattle.job_facts.specs.declared.facts.Lot.{Lot}
use Rattle.job_facts.specs.declared.facts.RecordState.{RecordState}
use Rattle.job_facts.specs.declared.facts.RecordState.TheVariants as rec
use Rattle.job_facts.specs.declared.facts.SessionState.{SessionState}
use Rattle.job_facts.specs.declared.facts.SessionState.TheVariants as session
use Rattle.job_facts.specs.Accounts.{batch_totals, blank_totals, count_records, count_sessions, lots_of, record_states, session_states}
use Rattle.job_facts.specs.Facts.{Batch, Facts, Session}
use Rattle.job_facts.specs.Sound.{IsSession, IsSound}
use Rattle.job_facts.specs.States.{batch_named, is_withdrawn, record_state, records_named, records_under, remakes_of, same_record_state, same_session_state, session_state, states_of}
use Rattle.job_facts.proofs.Lists.{count_by_any, count_by_none}
use Rattle.job_facts.proofs.SoundFacts.{is_for}
use Rattle.step_laws.specs.Sums.{AreBlankSums, batches_of}
use Rattle.step_laws.proofs.BlankSums.{blank_sums, by_keys, count_beside, one, sum_by_nothing}
use Rattle.step_laws.proofs.GoodCards.{count_among}
use Rattle.table_rows.specs.Keys.{is_batch_for, is_lot_for}
use Rattle.table_rows.specs.Tables.{StoredBatch, StoredLot}
use Rattle.image_laws.specs.Image.{batches_by_id, stored_batch, stored_batches, stored_lot, stored_lots}
use Rattle.row_laws.specs.RowValues.{blanks_of}
use Rattle.row_laws.proofs.CardCounts.{IsCardOf, good_counted, running_counted}
use Rattle.row_laws.proofs.Finding.{kept_numbered}
use Rattle.row_laws.proofs.RecordRows.{names_once}

pub sum_by-map : {X Y : Type 0} (g : Y → ℕ) (h : X → Y) (xs : List X) → sum_by g (map h xs) ≡ sum_by (λ x. g (h x)) xs
sum_by-map g h xs = fold-map (λ a y. a + g y) h 0 xs

-- ---- a name in a list of names

-- A name occurs at most once in a list without duplicates.
one_name : (r : List ℕ) (names : List (List ℕ)) → AllPairs (λ (m k : List ℕ). bytes_eq m k ≡ false) names → count_by (bytes_eq r) names ≤ 1
one_name r [] once = omega arith
one_name r (n ∷ names) once =
    let sum = sum_by-cons (λ m. one (bytes_eq r m)) n names in
    let rest = one_name r names (λ i j d before within. once (suc i) (suc j) d (omega arith) (omega arith)) in
    elim (cases_Bool (bytes_eq r n)) [
      | inl hit ↦
          let apart : All (λ m. bytes_eq r m ≡ false) names =
          λ k d within. ap (λ z. bytes_eq z (get_or names k d)) (same-bytes_eq r n hit) ∙ once 0 (suc k) d (omega arith) (omega arith) in
          let none : count_by (bytes_eq r) names ≡ 0 = count_by_none (bytes_eq r) names (list_any_none (bytes_eq r) names apart) in
          let single : one (bytes_eq r n) ≡ 1 = ap one hit in
          omega (arith, sum, none, single)
      | inr miss ↦
          let none : one (bytes_eq r n) ≡ 0 = ap one miss in
          omega (arith, sum, none, rest)
    ]

-- the count of a name, combined with conditions that don't depend on the name
name_beside : (r : List ℕ) (b q : Bool) (names : List (List ℕ)) → (b ≡ true → count_by (bytes_eq r) names ≡ 1) → count_by (λ n. (b && bytes_eq r n) && q) names ≡ one (b && q)
name_beside r true q names once = count_beside (bytes_eq r) true q names (once refl)
name_beside r false q names once = sum_by_nothing names

module _ (f : Facts) (sound : IsSound f) where
  -- ---- the sessions of a batch, record by record

  named_once_of : (n : List ℕ) → AllPairs (λ (m k : List ℕ). bytes_eq m k ≡ false) (records_named f n)
  named_once_of n = by_batch (batch_named f.batches n)
    where
      by_batch : (o : Option Batch) → AllPairs (λ (m k : List ℕ). bytes_eq m k ≡ false) (records_under f.products o)
      by_batch None = λ i j d before within. absurd (omega arith)
      by_batch (Some b) = names_once f.products b

  module _ (n : List ℕ) (state : SessionState) (stands : RecordState) (card : IsCardOf state stands) where
    abbrev is : Session → Bool
    is s = same_session_state state (session_state f s)

    abbrev fits : Session → List ℕ → Bool
    fits s r = (bytes_eq s.batch n && bytes_eq s.rec r) && is s

    own_record : (s : Session) → IsSession f s → bytes_eq s.batch n ≡ true → count_by (bytes_eq s.rec) (records_named f n) ≡ 1
    own_record s sound_one hit =
        let there : list_any (bytes_eq s.rec) (records_named f n) ≡ true = ap (λ m. list_any (bytes_eq s.rec) (records_named f m)) (sym (same-bytes_eq s.batch n hit)) ∙ sound_one.there in
        omega (arith, count_by_any (bytes_eq s.rec) (records_named f n) there, one_name s.rec (records_named f n) (named_once_of n))

    of_record : (r : List ℕ) → count_by (λ s. fits s r) f.sessions ≡ one (same_record_state stands (record_state f n r))
    unfolding states_of record_state
    of_record r =
        sym (count_among (same_session_state state) (session_state f) (is_for n r) f.sessions)
        ∙ card (states_of f n r) (is_withdrawn f n r) (remakes_of f n r) (sound.states.records n r)

    pub cards_of_batch : count_sessions (session_states f n) state ≡ count_records (record_states f n) stands
    unfolding session_states record_states
    cards_of_batch =
        let of_batch : Session → Bool = λ s. bytes_eq s.batch n in
        let names : List (List ℕ) = records_named f n in
        count_among (same_session_state state) (session_state f) of_batch f.sessions
        ∙ by_keys fits (λ s. of_batch s && is s) names f.sessions
        (All-weaker (IsSession f) (λ s. count_by (fits s) names ≡ one (of_batch s && is s)) (λ s sound_one. name_beside s.rec (of_batch s) (is s) names (own_record s sound_one)) f.sessions sound.sessions.each)
        ∙ sum_by-agree (λ r. count_by (λ s. fits s r) f.sessions) (λ r. one (same_record_state stands (record_state f n r))) of_record names
        ∙ sym (sum_by-map (λ t. one (same_record_state stands t)) (record_state f n) names)

  -- ---- the rows of a product

  module _ (p : List ℕ) where
    of_batches : (g : StoredBatch → ℕ) (h : List ℕ → ℕ) → ((k : ℕ) (b : Batch) → g (stored_batch f (k, b)) ≡ h b.name)
        → sum_by g (filter (is_batch_for p) (stored_batches f)) ≡ sum_by (λ (b : Batch). h b.name) (batches_of f p)
    unfolding stored_batches
    of_batches g h same =
        let mine : ℕ × Batch → Bool = λ e. bytes_eq e.1.product p in
        ap (sum_by g) (filter-map (is_batch_for p) (stored_batch f) (batches_by_id f))
        ∙ sum_by-map g (stored_batch f) (filter mine (batches_by_id f))
        ∙ sum_by-agree (λ e. g (stored_batch f e)) (λ (e : ℕ × Batch). h e.1.name) (λ e. same e.0 e.1) (filter mine (batches_by_id f))
        ∙ sym (sum_by-map (λ (b : Batch). h b.name) (λ (e : ℕ × Batch). e.1) (filter mine (batches_by_id f)))
        ∙ ap (sum_by (λ (b : Batch). h b.name)) (kept_numbered (λ (b : Batch). bytes_eq b.product p) 1 f.batches)

    good_row : (n : List ℕ) → (batch_totals f n).good ≡ count_sessions (session_states f n) session.Good
    unfolding batch_totals
    good_row n = sym (cards_of_batch n session.Good rec.Good good_counted)

    running_row : (n : List ℕ) → (batch_totals f n).running ≡ count_sessions (session_states f n) session.Running
    unfolding batch_totals
    running_row n = sym (cards_of_batch n session.Running rec.Running running_counted)

    spoiled_row : (n : List ℕ) → (batch_totals f n).spoiled ≡ count_sessions (session_states f n) session.Spoiled
    unfolding batch_totals
    spoiled_row n = refl

    lots_kept : filter (is_lot_for p) (stored_lots f) ≡ map (stored_lot f) (lots_of f p)
    unfolding stored_lots
    lots_kept = filter-map (is_lot_for p) (stored_lot f) f.lots

    of_lots : (g : StoredLot → ℕ) → sum_by (λ (l : Lot). g (stored_lot f l)) (lots_of f p) ≡ sum_by g (filter (is_lot_for p) (stored_lots f))
    of_lots g = sym (ap (sum_by g) lots_kept ∙ sum_by-map g (stored_lot f) (lots_of f p))

    lots_many : (blank_totals f p).lots ≡ length (filter (is_lot_for p) (stored_lots f))
    unfolding blank_totals
    lots_many = sym (ap length lots_kept ∙ length-map (lots_of f p) (stored_lot f))

    serials_many : (blank_totals f p).total ≡ sum_by (λ (l : StoredLot). l.lot.count) (filter (is_lot_for p) (stored_lots f))
    unfolding blank_totals
    serials_many = of_lots (λ l. l.lot.count)

    pub blanks_in_rows : blank_totals f p ≡ blanks_of (filter (is_lot_for p) (stored_lots f)) (filter (is_batch_for p) (stored_batches f))
    blanks_in_rows =
        let sums : AreBlankSums f p = blank_sums f p sound in
        let lots = lots_many in
        let total = serials_many in
        let good : (blank_totals f p).good ≡ sum_by (λ (b : StoredBatch). b.good) (filter (is_batch_for p) (stored_batches f)) =
        sums.good ∙ sym (of_batches (λ b. b.good) (λ n. count_sessions (session_states f n) session.Good) (λ k b. good_row b.name)) in
        let running : (blank_totals f p).running ≡ sum_by (λ (b : StoredBatch). b.running) (filter (is_batch_for p) (stored_batches f)) =
        sums.running ∙ sym (of_batches (λ b. b.running) (λ n. count_sessions (session_states f n) session.Running) (λ k b. running_row b.name)) in
        let spoiled : (blank_totals f p).spoiled ≡ sum_by (λ (b : StoredBatch). b.spoiled) (filter (is_batch_for p) (stored_batches f)) =
        sums.spoiled ∙ sym (of_batches (λ b. b.spoiled) (λ n. count_sessions (session_states f n) session.Spoiled) (λ k b. spoiled_row b.name)) in
        let discarded : (blank_totals f p).discarded ≡ sum_by (λ (l : StoredLot). l.discarded) (filter (is_lot_for p) (stored_lots f)) =
        sums.discarded ∙ of_lots (λ l. l.discarded) in
        λ i. record { lots = lots i; total = total i; good = good i; running = running i; spoiled = spoiled i; discarded = discarded i }
