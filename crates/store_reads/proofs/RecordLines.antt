-- Lemmas about the lines of a batch's records, from the rows of the records and of the good cards.
use Rattle.std.proofs.Common.{◌≡◌, ℕ, ◌+◌, ◌<◌, ◌≤◌, ◌==◌, Bool, cond, true, false, List, [], ◌∷◌, ◌++◌, length, take, get_or, map, Option, Some, None, inl, inr, refl, sym, ap, subst, ◌∙◌, arith, IsPermutation}
use Rattle.std.specs.Prelude.{AllPairs, IsTrue, count_by, filter, find, is_some, option_map, unwrap_or}
use Rattle.std.specs.List.{enumerate_from, flat_map}
use Rattle.std.specs.Option.{option_or}
use Rattle.std.proofs.lemmas.Bool.{cases_Bool, cond-false, cond-true}
use Rattle.std.proofs.lemmas.List.{take_more}
use Rattle.std.proofs.lemmas.Bool.Decides.{nat_tests}
use Rattle.std.proofs.lemmas.List.Elements.{filter-append}
use Rattle.std.proofs.lemmas.List.Folds.{find-append}
use Rattle.std.proofs.lemmas.List.Sums.{count_by_more_yes, sum_by-cons, sum_by-take-le, sum_by_push}
use Rattle.std.proofs.lemmas.Option.{none-some}
use Rattle.job_facts.specs.Facts.{Batch, Facts}
use Rattle.job_facts.proofs.Lists.{unmapped}
use Rattle.row_reads.specs.declared.records.RecordAt.{RecordAt}
use Rattle.row_reads.specs.declared.sessions.GoodCard.{GoodCard}
use Rattle.row_reads.specs.CardDecoding.{good_at, place_of, record_at}
use Rattle.row_reads.specs.Extremes.{AreSorted}
use Rattle.image_laws.specs.Image.{placed_records, records_in, stored_batches, stored_record, stored_records, stored_sessions}
use Rattle.sql_base.proofs.Selecting.{map_map}
use Rattle.step_laws.proofs.Permuted.{count_moved, find_moved}
use Rattle.table_rows.specs.Keys.{is_batch_named, is_good_of, is_record_of}
use Rattle.table_rows.specs.Tables.{StoredBatch, StoredRecord, StoredSession}
use Rattle.row_laws.specs.RowValues.{line_of, lines_at, lines_in}
use Rattle.row_laws.proofs.Finding.{find-map, option_map-map}
use Rattle.store_reads.specs.Lines.{blank_of, is_card_at, line_for, lines_with}
use Rattle.store_reads.proofs.Found.{found_some}
use Rattle.store_reads.proofs.Ordered.{read_in_order}

-- ---- rows

module _ (sessions : List StoredSession) (good : List GoodCard) (moved : IsPermutation (map good_at sessions) good) (once : (k : ℕ) → count_by (is_card_at k) good ≤ 1) where
  blank_same : (k : ℕ) → blank_of good k ≡ option_map (λ (s : StoredSession). s.serial) (find (λ (s : StoredSession). s.place == k) sessions)
  blank_same k =
      let few : count_by (is_card_at k) (map good_at sessions) ≤ 1 = omega (arith, once k, count_moved (is_card_at k) (map good_at sessions) good moved) in
      ap (option_map (λ (g : GoodCard). g.serial)) (sym (find_moved (is_card_at k) (map good_at sessions) good moved few) ∙ find-map (is_card_at k) good_at sessions)
      ∙ option_map-map (λ (g : GoodCard). g.serial) good_at (find (λ (s : StoredSession). s.place == k) sessions)

  lines_same : (xs : List StoredRecord) → map (λ (x : StoredRecord). line_for good (record_at x)) xs ≡ map (line_of sessions) xs
  lines_same [] = refl
  lines_same (x ∷ xs) = rw (blank_same x.place, lines_same xs) refl

  pub lines_are : (xs : List StoredRecord) → AllPairs (λ (x y : StoredRecord). x.place < y.place) xs → (all : List RecordAt) → AreSorted place_of (map record_at xs) all
      → map (line_for good) all ≡ map (line_of sessions) xs
  lines_are xs rising all sorted = ap (map (line_for good)) (read_in_order record_at place_of xs rising all sorted) ∙ map_map (line_for good) record_at xs ∙ lines_same xs

-- ---- a batch that doesn't exist

-- no batch has the id 0
module _ (f : Facts) where
  apart : (n : ℕ) (b : Batch) → 1 ≤ n → (ps : List (ℕ × List ℕ)) → filter (is_record_of 0) (map (stored_record f (n, b)) ps) ≡ []
  apart n b least [] = refl
  apart n b least (p ∷ ps) =
      let miss : (n == 0) ≡ false = grind (arith, nat_tests) in
      cond-false (n == 0) (stored_record f (n, b) p ∷ filter (is_record_of 0) (map (stored_record f (n, b)) ps)) (filter (is_record_of 0) (map (stored_record f (n, b)) ps)) miss ∙ apart n b least ps

  all_apart : (n : ℕ) (bs : List Batch) → 1 ≤ n → filter (is_record_of 0) (flat_map (records_in f) (enumerate_from n bs)) ≡ []
  all_apart n [] least = refl
  all_apart n (b ∷ bs) least =
      filter-append (is_record_of 0) (records_in f (n, b)) (flat_map (records_in f) (enumerate_from (n + 1) bs))
      ∙ ap (λ xs. xs ++ filter (is_record_of 0) (flat_map (records_in f) (enumerate_from (n + 1) bs))) (apart n b least (placed_records f (n, b)))
      ∙ all_apart (n + 1) bs (omega (arith, least))

  none_at_0 : filter (is_record_of 0) (stored_records f) ≡ []
  unfolding stored_records
  none_at_0 = all_apart 1 f.batches (omega arith)

  pub lines_by_id : (b : List ℕ) (found : Option ℕ) → found ≡ option_map (λ (row : StoredBatch). row.id) (find (is_batch_named b) (stored_batches f))
      → lines_with f (unwrap_or found 0) ≡ lines_in (stored_batches f) (stored_records f) (stored_sessions f) b
  lines_by_id b None none =
      ap (map (line_of (filter (is_good_of 0) (stored_sessions f)))) none_at_0
      ∙ sym (ap (lines_at (stored_records f) (stored_sessions f)) (unmapped (λ (row : StoredBatch). row.id) (find (is_batch_named b) (stored_batches f)) (sym none)))
  lines_by_id b (Some id) is =
      let row = found_some (λ (row : StoredBatch). row.id) (find (is_batch_named b) (stored_batches f)) id is in
      ap (lines_with f) row.2 ∙ sym (ap (lines_at (stored_records f) (stored_sessions f)) row.1)

-- ---- good cards by position

abbrev serial : GoodCard → ℕ
serial g = g.serial

or_none : (o : Option GoodCard) → option_or o None ≡ o
or_none None = refl
or_none (Some g) = refl

counted_none : (p : GoodCard → Bool) (xs : List GoodCard) → find p xs ≡ None → count_by p xs ≡ 0
counted_none p [] none = refl
counted_none p (x ∷ xs) none =
    let sum = sum_by-cons (λ y. cond {A = ℕ} (p y) 1 0) x xs in
    elim (cases_Bool (p x)) [
      | inl hit ↦ absurd (none-some x (sym none ∙ cond-true (p x) (Some x) (find p xs) hit))
      | inr miss ↦ omega (arith, sum, cond-false {A = ℕ} (p x) 1 0 miss, counted_none p xs (sym (cond-false (p x) (Some x) (find p xs) miss) ∙ none))
    ]

-- adds a card at a position that has no card yet
module _ (xs : List GoodCard) (g : GoodCard) (free : blank_of xs g.place ≡ None) where
  none_there : (k : ℕ) → (g.place == k) ≡ true → find (is_card_at k) xs ≡ None
  none_there k hit =
      let same : g.place ≡ k = grind (arith, nat_tests, hit) in
      unmapped serial (find (is_card_at k) xs) (ap (blank_of xs) (sym same) ∙ free)

  pub blank_more : (k : ℕ) → blank_of (xs ++ g ∷ []) k ≡ cond (g.place == k) (Some g.serial) (blank_of xs k)
  blank_more k =
      let joined : blank_of (xs ++ g ∷ []) k ≡ option_map serial (option_or (find (is_card_at k) xs) (cond (g.place == k) (Some g) None)) =
      ap (option_map serial) (find-append (is_card_at k) xs (g ∷ [])) in
      elim (cases_Bool (g.place == k)) [
        | inl hit ↦ joined ∙ rw (none_there k hit, hit) refl
        | inr miss ↦
            joined ∙ ap (λ b. option_map serial (option_or (find (is_card_at k) xs) (cond b (Some g) None))) miss ∙ ap (option_map serial) (or_none (find (is_card_at k) xs))
            ∙ sym (cond-false (g.place == k) (Some g.serial) (blank_of xs k) miss)
      ]

  pub once_more : (k : ℕ) → count_by (is_card_at k) xs ≤ 1 → count_by (is_card_at k) (xs ++ g ∷ []) ≤ 1
  once_more k once =
      let sum = sum_by_push (λ h. cond {A = ℕ} (is_card_at k h) 1 0) xs g in
      elim (cases_Bool (g.place == k)) [
        | inl hit ↦ omega (arith, sum, cond-true {A = ℕ} (g.place == k) 1 0 hit, counted_none (is_card_at k) xs (none_there k hit))
        | inr miss ↦ omega (arith, sum, cond-false {A = ℕ} (g.place == k) 1 0 miss, once)
      ]

-- the map after adding a card at a position that has no card yet
module _ (good : List GoodCard) (i : ℕ) (d : GoodCard) (within : i < length good) (old new : ℕ → Option ℕ) (value : (k : ℕ) → old k ≡ blank_of (take i good) k)
    (free : old (get_or good i d).place ≡ None) where
  free_so_far : blank_of (take i good) (get_or good i d).place ≡ None
  free_so_far = sym (value (get_or good i d).place) ∙ free

  pub kept_more : ((k : ℕ) → new k ≡ cond ((get_or good i d).place == k) (Some (get_or good i d).serial) (old k)) → (k : ℕ) → new k ≡ blank_of (take (i + 1) good) k
  kept_more put k =
      put k ∙ ap (cond ((get_or good i d).place == k) (Some (get_or good i d).serial)) (value k) ∙ sym (blank_more (take i good) (get_or good i d) free_so_far k)
      ∙ sym (ap (λ xs. blank_of xs k) (take_more good i d within))

  pub once_so_far : ((k : ℕ) → count_by (is_card_at k) (take i good) ≤ 1) → (k : ℕ) → count_by (is_card_at k) (take (i + 1) good) ≤ 1
  once_so_far once k =
      subst (λ xs. count_by (is_card_at k) xs ≤ 1) (sym (take_more good i d within)) (once_more (take i good) (get_or good i d) free_so_far k (once k))

-- if the position already has a card, it has two
counted_some : (p : GoodCard → Bool) (xs : List GoodCard) → IsTrue (is_some (find p xs)) → 1 ≤ count_by p xs
counted_some p [] some = absurd cc
counted_some p (x ∷ xs) some =
    let sum = sum_by-cons (λ y. cond {A = ℕ} (p y) 1 0) x xs in
    elim (cases_Bool (p x)) [
      | inl hit ↦ omega (arith, sum, cond-true {A = ℕ} (p x) 1 0 hit)
      | inr miss ↦ omega (arith, sum, counted_some p xs (subst (λ o. IsTrue (is_some o)) (cond-false (p x) (Some x) (find p xs) miss) some))
    ]

found_there : (o : Option GoodCard) → IsTrue (is_some (option_map serial o)) → IsTrue (is_some o)
found_there None some = some
found_there (Some g) some = refl

pub two_there : (good : List GoodCard) (i : ℕ) (d : GoodCard) → i < length good → (old : ℕ → Option ℕ) → ((k : ℕ) → old k ≡ blank_of (take i good) k)
    → IsTrue (is_some (old (get_or good i d).place)) → ((k : ℕ) → count_by (is_card_at k) good ≤ 1) → ⊥
two_there good i d within old value some once =
    let k = (get_or good i d).place in
    let same : is_card_at k (get_or good i d) ≡ true = grind (arith, nat_tests) in
    let kept : IsTrue (is_some (blank_of (take i good) k)) = subst (λ o. IsTrue (is_some o)) (value k) some in
    omega (
      arith,
      once k,
      counted_some (is_card_at k) (take i good) (found_there (find (is_card_at k) (take i good)) kept),
      count_by_more_yes (is_card_at k) good i d within same,
      sum_by-take-le (λ h. cond {A = ℕ} (is_card_at k h) 1 0) good (i + 1),
    )

pub nothing : (o : Option ℕ) → is_some o ≡ false → o ≡ None
nothing None e = refl
nothing (Some n) e = absurd cc
