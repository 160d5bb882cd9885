-- The rows of an image are in the order of their keys, and no two keys are equal.
use Rattle.std.proofs.Common.{◌≡◌, ℕ, zero, suc, ◌+◌, ◌<◌, List, [], ◌∷◌, get_or, map, All, inl, inr, refl, sym, ◌∙◌, arith}
use Rattle.std.specs.Prelude.{AllPairs}
use Rattle.std.specs.List.{enumerate_from, flat_map, range_with_len}
use Rattle.std.proofs.lemmas.List.Elements.{All-cons, All-map, All-nil}
use Rattle.std.proofs.lemmas.List.Kept.{AllPairs-cons}
use Rattle.store_data.proofs.RankLemmas.{All-flat_map}
use Rattle.job_facts.specs.Facts.{Batch, Facts}
use Rattle.table_rows.specs.Tables.{StoredBatch, StoredGrouping, StoredRecord, StoredRemake, StoredSession, StoredWord}
use Rattle.image_laws.specs.Image.{groupings_in, placed_records, records_in, remakes_at, remakes_in, stored_batch, stored_batches, stored_grouping, stored_groupings, stored_record, stored_records, stored_remakes, stored_session, stored_sessions, stored_words, words_in}
use Rattle.row_laws.proofs.Finding.{AllPairs-joined, AllPairs-map, numbers_rise}
use Rattle.audit_laws.proofs.InOrder.{IsBelow}

-- ---- rows of the elements of a numbered list

-- The first number in the key of a row is the number of its element. The rows of one element are in
-- the order of the other numbers.
module _ {X Y : Type 0} (first : Y → ℕ) (others : Y → List ℕ) (g : ℕ × X → List Y) (own : (e : ℕ × X) → All (λ y. first y ≡ e.0) (g e))
    (inside : (e : ℕ × X) → AllPairs (λ x y. IsBelow (others x) (others y)) (g e)) where
  abbrev Below : Y → Y → Type 0
  Below x y = IsBelow (first x ∷ others x) (first y ∷ others y)

  pub joined_below : (n : ℕ) (xs : List X) → AllPairs Below (flat_map g (enumerate_from n xs))
  joined_below n xs = AllPairs-joined Below (λ (d e : ℕ × X). d.0 < e.0) g
      (λ e i j d before within. inr (own e i d (omega arith) ∙ sym (own e j d within), inside e i j d before within))
      (λ d e less i x here j y there. let from = own d i x here in let to = own e j y there in inl (omega arith))
      (enumerate_from n xs) (numbers_rise n xs)

-- One row for each element, whose key is only the number of the element.
pub mapped_below : {X Y : Type 0} (number : Y → ℕ) (g : ℕ × X → Y) → ((e : ℕ × X) → number (g e) ≡ e.0) → (n : ℕ) (xs : List X)
    → AllPairs (λ x y. IsBelow (number x ∷ []) (number y ∷ [])) (map g (enumerate_from n xs))
mapped_below number g is n xs =
    AllPairs-map (λ x y. IsBelow (number x ∷ []) (number y ∷ [])) g (enumerate_from n xs)
    (λ i j d before within.
    let less = numbers_rise n xs i j d before within in
    let from = is (get_or (enumerate_from n xs) i d) in
    let to = is (get_or (enumerate_from n xs) j d) in
    inl (omega arith))

range_rises : (n k : ℕ) → AllPairs (λ a b. a < b) (range_with_len n k)
range_rises n zero = λ i j d before within. absurd (omega arith)
range_rises n (suc k) = AllPairs-cons (λ a b. a < b) n (range_with_len (n + 1) k) (later n (n + 1) k (omega arith)) (range_rises (n + 1) k)
  where
    later : (a n k : ℕ) → a < n → All (λ b. a < b) (range_with_len n k)
    later a n zero less = All-nil (λ b. a < b)
    later a n (suc k) less = All-cons (λ b. a < b) n (range_with_len (n + 1) k) less (later a (n + 1) k (omega arith))

-- ---- an image

module _ (f : Facts) where
  pub batches_below : AllPairs (λ (x y : StoredBatch). IsBelow (x.id ∷ []) (y.id ∷ [])) (stored_batches f)
  unfolding stored_batches
  batches_below = mapped_below (λ (b : StoredBatch). b.id) (stored_batch f) (λ e. refl) 1 f.batches

  pub records_below : AllPairs (λ (x y : StoredRecord). IsBelow (x.batch ∷ x.place ∷ []) (y.batch ∷ y.place ∷ [])) (stored_records f)
  unfolding stored_records
  records_below = joined_below (λ (r : StoredRecord). r.batch) (λ r. r.place ∷ []) (records_in f)
      (λ e. All-map (λ (r : StoredRecord). r.batch ≡ e.0) (stored_record f e) (placed_records f e) (λ k d within. refl))
      (λ e. mapped_below (λ (r : StoredRecord). r.place) (stored_record f e) (λ r. refl) 0 _)
      1 f.batches

  pub groupings_below : AllPairs (λ (x y : StoredGrouping). IsBelow (x.batch ∷ x.line ∷ []) (y.batch ∷ y.line ∷ [])) (stored_groupings f)
  unfolding stored_groupings
  groupings_below = joined_below (λ (g : StoredGrouping). g.batch) (λ g. g.line ∷ []) (groupings_in f)
      (λ e. All-map (λ (g : StoredGrouping). g.batch ≡ e.0) (stored_grouping f e) _ (λ k d within. refl))
      (λ e. mapped_below (λ (g : StoredGrouping). g.line) (stored_grouping f e) (λ r. refl) 2 _)
      1 f.batches

  pub sessions_below : AllPairs (λ (x y : StoredSession). IsBelow (x.id ∷ []) (y.id ∷ [])) (stored_sessions f)
  unfolding stored_sessions
  sessions_below = mapped_below (λ (s : StoredSession). s.id) (stored_session f) (λ e. refl) 1 f.sessions

  abbrev word : ℕ → ℕ × ℕ → StoredWord
  word id w = record { session = id; place = w.0; sw = w.1 }

  pub words_below : AllPairs (λ (x y : StoredWord). IsBelow (x.session ∷ x.place ∷ []) (y.session ∷ y.place ∷ [])) (stored_words f)
  unfolding stored_words
  words_below = joined_below (λ (w : StoredWord). w.session) (λ w. w.place ∷ []) words_in
      (λ e. All-map (λ (w : StoredWord). w.session ≡ e.0) (word e.0) _ (λ k d within. refl))
      (λ e. mapped_below (λ (w : StoredWord). w.place) (word e.0) (λ w. refl) 0 _)
      1 f.sessions

  abbrev turn_of : ℕ → ℕ → ℕ → StoredRemake
  turn_of batch place turn = record { batch = batch; place = place; turn = turn }

  of_batch : (e : ℕ × Batch) → All (λ (r : StoredRemake). r.batch ≡ e.0) (remakes_in f e)
  of_batch e = All-flat_map (λ (r : StoredRemake). r.batch ≡ e.0) (remakes_at f e)
      (λ r. All-map (λ (x : StoredRemake). x.batch ≡ e.0) (turn_of e.0 r.0) _ (λ k d within. refl)) (placed_records f e)

  pub remakes_below
      : AllPairs (λ (x y : StoredRemake). IsBelow (x.batch ∷ x.place ∷ x.turn ∷ []) (y.batch ∷ y.place ∷ y.turn ∷ [])) (stored_remakes f)
  unfolding stored_remakes
  remakes_below = joined_below (λ (r : StoredRemake). r.batch) (λ r. r.place ∷ r.turn ∷ []) (remakes_in f) of_batch
      (λ e. joined_below (λ (r : StoredRemake). r.place) (λ r. r.turn ∷ []) (remakes_at f e)
      (λ r. All-map (λ (x : StoredRemake). x.place ≡ r.0) (turn_of e.0 r.0) _ (λ k d within. refl))
      (λ r. AllPairs-map (λ (x y : StoredRemake). IsBelow (x.turn ∷ []) (y.turn ∷ [])) (turn_of e.0 r.0) _
      (λ i j d before within. inl (range_rises 1 _ i j d before within)))
      0 _)
      1 f.batches
