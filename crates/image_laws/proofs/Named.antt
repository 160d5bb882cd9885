-- The names of the batches and records of sound facts, which are unique.
use Rattle.std.proofs.Common.{◌≡◌, ℕ, ◌+◌, ◌≤◌, ◌&&◌, ◌||◌, Bool, true, false, cond, List, [], ◌∷◌, get_or, map, count_by, sum_by, find, slice_get, bytes_eq, Option, Some, None, inl, inr, refl, sym, ap, ◌∙◌, arith}
use Rattle.std.specs.List.{enumerate_from, flat_map, list_any, position_or_len}
use Rattle.std.proofs.lemmas.Bool.{and_from, and_parts, both_ways, cases_Bool, cond-true, cond-false, false_from_ne_true, false≢true, or_left, or_right}
use Rattle.std.proofs.lemmas.List.Folds.{find_at}
use Rattle.std.proofs.lemmas.List.Sums.{passes_at_first, sum_by-cons}
use Rattle.std.proofs.lemmas.Option.{get_or_from_slice_get, none-some, same_Some, slice_get_within}
use Rattle.store_data.proofs.GroupLemmas.{Distinct, Distinct-first_appearances, bytes_eq-same, same-bytes_eq}
use Rattle.store_data.proofs.PieceLemmas.{sum_by-agree, sum_by-flat_map, sum_by-map}
use Rattle.store_data.specs.declared.row.Product.{Product}
use Rattle.store_data.specs.declared.row.Row.{Row}
use Rattle.job_facts.specs.Facts.{Batch, Facts, RecordName}
use Rattle.job_facts.specs.Sound.{AreNamedOnce, IsRecord, IsSound}
use Rattle.job_facts.specs.States.{batch_named, is_record, records_of, records_under, rows_of}
use Rattle.step_laws.proofs.Permuted.{PassAlone, at_most_one}
use Rattle.image_laws.specs.Image.{batches_by_id, placed_records}
use Rattle.image_laws.proofs.OneRecord.{turned}
use Rattle.image_laws.proofs.Counted.{once_or_none}

abbrev one : Bool → ℕ
one b = cond {A = ℕ} b 1 0

-- ---- sums

-- A sum that doesn't depend on the numbers is the sum over the list itself.
sum_numbered : {X : Type 0} (h : X → ℕ) (n : ℕ) (xs : List X) → sum_by (λ (e : ℕ × X). h e.1) (enumerate_from n xs) ≡ sum_by h xs
sum_numbered h n [] = refl
sum_numbered h n (x ∷ xs) = omega (arith, sum_by-cons (λ e. h e.1) (n, x) (enumerate_from (n + 1) xs), sum_by-cons h x xs, sum_numbered h (n + 1) xs)

module _ {X : Type 0} (p : X → Bool) (h : X → ℕ) (others : (x : X) → p x ≡ false → h x ≡ 0) where
  sum_none : (xs : List X) → count_by p xs ≡ 0 → sum_by h xs ≡ 0
  sum_none [] none = refl
  sum_none (x ∷ xs) none =
      let count = sum_by-cons (λ z. one (p z)) x xs in
      let sum = sum_by-cons h x xs in
      elim (cases_Bool (p x)) [
        | inl hit ↦ let here : one (p x) ≡ 1 = ap one hit in absurd (omega (arith, none, count, here))
        | inr miss ↦ let here = others x miss in let rest = sum_none xs (omega (arith, none, count)) in omega (arith, sum, here, rest)
      ]

  -- If only one element satisfies `p`, the sum is the value of this element.
  sum_of_one : (xs : List X) (x : X) → find p xs ≡ Some x → count_by p xs ≤ 1 → sum_by h xs ≡ h x
  sum_of_one [] x found few = absurd (none-some x found)
  sum_of_one (y ∷ xs) x found few =
      let count = sum_by-cons (λ z. one (p z)) y xs in
      let sum = sum_by-cons h y xs in
      elim (cases_Bool (p y)) [
        | inl hit ↦
            let here : one (p y) ≡ 1 = ap one hit in
            let none = sum_none xs (omega (arith, few, count, here)) in
            let same : y ≡ x = same_Some y x (sym (cond-true (p y) (Some y) (find p xs) hit) ∙ found) in
            let alone : sum_by h (y ∷ xs) ≡ h y = omega (arith, sum, none) in
            alone ∙ ap h same
        | inr miss ↦
            let here = others y miss in
            let rest = sum_of_one xs x (sym (cond-false (p y) (Some y) (find p xs) miss) ∙ found) (omega (arith, few, count)) in
            omega (arith, sum, here, rest)
      ]

-- ---- the names of batches

-- The batch that a look-up of a name finds is at the index of this name.
pub batch_there : (bs : List Batch) (n : List ℕ) (b : Batch) → batch_named bs n ≡ Some b → slice_get bs (position_or_len (λ (x : Batch). bytes_eq x.name n) bs) ≡ Some b
batch_there bs n b is = sym (find_at (λ (x : Batch). bytes_eq x.name n) bs) ∙ is

pub has_name : (bs : List Batch) (n : List ℕ) (b : Batch) → batch_named bs n ≡ Some b → b.name ≡ n
has_name bs n b is =
    let p : Batch → Bool = λ x. bytes_eq x.name n in
    let k = position_or_len p bs in
    let there = batch_there bs n b is in
    same-bytes_eq b.name n (ap p (sym (get_or_from_slice_get bs k b b there)) ∙ passes_at_first p bs b (slice_get_within bs k b there))

name_there : (bs : List Batch) (n : List ℕ) (b : Batch) → batch_named bs n ≡ Some b → list_any (bytes_eq n) (map (λ (x : Batch). x.name) bs) ≡ true
name_there [] n b is = absurd (none-some b is)
name_there (x ∷ bs) n b is = elim (cases_Bool (bytes_eq x.name n)) [
  | inl hit ↦ or_left (bytes_eq n x.name) (list_any (bytes_eq n) (map (λ (y : Batch). y.name) bs)) (ap (bytes_eq n) (same-bytes_eq x.name n hit) ∙ bytes_eq-same n)
  | inr miss ↦
      or_right (bytes_eq n x.name) (list_any (bytes_eq n) (map (λ (y : Batch). y.name) bs))
      (name_there bs n b (sym (cond-false (bytes_eq x.name n) (Some x) (batch_named bs n) miss) ∙ is))
]

module _ (f : Facts) (sound : IsSound f) where
  abbrev names : List (List ℕ)
  names = map (λ (b : Batch). b.name) f.batches

  once : AreNamedOnce names
  once = sound.named.batches.once

  pub batch_once : (n : List ℕ) (b : Batch) → batch_named f.batches n ≡ Some b → count_by (λ (e : ℕ × Batch). bytes_eq n e.1.name) (batches_by_id f) ≡ 1
  batch_once n b there =
      sum_numbered (λ (x : Batch). one (bytes_eq n x.name)) 1 f.batches
      ∙ sym (sum_by-map (λ m. one (bytes_eq n m)) (λ (x : Batch). x.name) f.batches)
      ∙ once_or_none bytes_eq same-bytes_eq bytes_eq-same names (λ i j d before within. turned (get_or names i d) (get_or names j d) (once i j d before within)) n
      ∙ cond-true {A = ℕ} (list_any (bytes_eq n) names) 1 0 (name_there f.batches n b there)

  few_named : (n : List ℕ) → count_by (λ (b : Batch). bytes_eq b.name n) f.batches ≤ 1
  few_named n =
      let alone : (l m : List ℕ) → bytes_eq l m ≡ false → PassAlone (λ k. bytes_eq k n) l m = λ l m differ hit.
      false_from_ne_true (bytes_eq m n) (λ also. both_ways (bytes_eq l m) differ (ap (bytes_eq l) (same-bytes_eq m n also) ∙ hit)) in
      let few = at_most_one (λ m. bytes_eq m n) names (λ i j d before within. alone (get_or names i d) (get_or names j d) (once i j d before within)) in
      omega (arith, few, sum_by-map (λ m. one (bytes_eq m n)) (λ (b : Batch). b.name) f.batches)

-- ---- the names of the records of a batch

distinct_counted : (names : List (List ℕ)) → Distinct names → (r : List ℕ) → count_by (λ k. bytes_eq k r) names ≡ one (list_any (bytes_eq r) names)
distinct_counted [] distinct r = refl
distinct_counted (k ∷ names) distinct r =
    let sum = sum_by-cons (λ n. one (bytes_eq n r)) k names in
    let rest = distinct_counted names distinct.1 r in
    elim (cases_Bool (bytes_eq k r)) [
      | inl hit ↦
          let here : one (bytes_eq k r) ≡ 1 = ap one hit in
          let same : k ≡ r = same-bytes_eq k r hit in
          let none : one (list_any (bytes_eq r) names) ≡ 0 = ap (λ m. one (list_any (bytes_eq m) names)) (sym same) ∙ ap one distinct.0 in
          let there : one (list_any (bytes_eq r) (k ∷ names)) ≡ 1 = ap one (or_left (bytes_eq r k) (list_any (bytes_eq r) names) (ap (bytes_eq r) same ∙ bytes_eq-same r)) in
          omega (arith, sum, rest, here, none, there)
      | inr miss ↦
          let here : one (bytes_eq k r) ≡ 0 = ap one miss in
          let other : one (list_any (bytes_eq r) (k ∷ names)) ≡ one (list_any (bytes_eq r) names) = ap (λ b. one (b || list_any (bytes_eq r) names)) (turned k r miss) in
          omega (arith, sum, rest, here, other)
    ]

records_distinct : (products : List Product) (b : Batch) → Distinct (records_of products b)
unfolding records_of
records_distinct products b = Distinct-first_appearances [] (map (λ (row : Row). row.rec) (rows_of products b)) tt

-- the batch that contains a record
pub batch_of_record : (products : List Product) (o : Option Batch) (r : List ℕ) → list_any (bytes_eq r) (records_under products o) ≡ true
    → (b : Batch) × (o ≡ Some b) × (list_any (bytes_eq r) (records_of products b) ≡ true)
batch_of_record products None r there = absurd (false≢true there)
batch_of_record products (Some b) r there = (b, refl, there)

-- ---- all records

-- a batch with its id, and a record with its place
abbrev pub Placed : Type 0
Placed = (ℕ × Batch) × (ℕ × List ℕ)

abbrev pub all_records : Facts → List Placed
all_records f = flat_map (λ (e : ℕ × Batch). map (λ (r : ℕ × List ℕ). let x : Placed = (e, r) in x) (placed_records f e)) (batches_by_id f)

abbrev pub name_of_placed : Placed → RecordName
name_of_placed x = record { batch = x.0.1.name; rec = x.1.1 }

abbrev pub same_record : RecordName → RecordName → Bool
same_record m n = is_record m.batch m.rec n

pub same_record-exact : (m n : RecordName) → same_record m n ≡ true → m ≡ n
same_record-exact m n hit =
    let made : List ℕ → List ℕ → RecordName = λ b r. record { batch = b; rec = r } in
    let parts = and_parts (bytes_eq n.batch m.batch) (bytes_eq n.rec m.rec) hit in
    ap (λ b. made b m.rec) (sym (same-bytes_eq n.batch m.batch parts.0)) ∙ ap (made n.batch) (sym (same-bytes_eq n.rec m.rec parts.1))

pub same_record-itself : (n : RecordName) → same_record n n ≡ true
same_record-itself n = and_from (bytes_eq n.batch n.batch) (bytes_eq n.rec n.rec) (bytes_eq-same n.batch) (bytes_eq-same n.rec)

module _ (f : Facts) (sound : IsSound f) (z : RecordName) where
  abbrev passes : Placed → Bool
  passes x = bytes_eq x.0.1.name z.batch && bytes_eq x.1.1 z.rec

  -- the number of times that batch `b` contains the record `z`
  abbrev in_batch : Batch → ℕ
  in_batch b = count_by (λ r. bytes_eq b.name z.batch && bytes_eq r z.rec) (records_of f.products b)

  elsewhere : (b : Batch) → bytes_eq b.name z.batch ≡ false → in_batch b ≡ 0
  elsewhere b miss = ap (λ t. count_by (λ r. t && bytes_eq r z.rec) (records_of f.products b)) miss ∙ none (records_of f.products b)
    where
      none : (names : List (List ℕ)) → count_by (λ r. false && bytes_eq r z.rec) names ≡ 0
      none [] = refl
      none (n ∷ names) = omega (arith, sum_by-cons (λ (r : List ℕ). 0) n names, none names)

  pub record_once : IsRecord f z.batch z.rec → count_by (λ x. same_record z (name_of_placed x)) (all_records f) ≡ 1
  record_once is =
      let there = batch_of_record f.products (batch_named f.batches z.batch) z.rec is in
      let b = there.0 in
      let hit : bytes_eq b.name z.batch ≡ true = ap (λ m. bytes_eq m z.batch) (has_name f.batches z.batch b there.1) ∙ bytes_eq-same z.batch in
      sum_by-flat_map (λ (x : Placed). one (same_record z (name_of_placed x))) (λ (e : ℕ × Batch). map (λ (r : ℕ × List ℕ). let x : Placed = (e, r) in x) (placed_records f e)) (batches_by_id f)
      ∙ sum_by-agree _ (λ (e : ℕ × Batch). in_batch e.1) (λ e.
      sum_by-map (λ (x : Placed). one (same_record z (name_of_placed x))) (λ (r : ℕ × List ℕ). let x : Placed = (e, r) in x) (placed_records f e)
      ∙ sum_numbered (λ r. one (bytes_eq e.1.name z.batch && bytes_eq r z.rec)) 0 (records_of f.products e.1)) (batches_by_id f)
      ∙ sum_numbered in_batch 1 f.batches
      ∙ sum_of_one (λ (x : Batch). bytes_eq x.name z.batch) in_batch elsewhere f.batches b there.1 (few_named f sound z.batch)
      ∙ ap (λ t. count_by (λ r. t && bytes_eq r z.rec) (records_of f.products b)) hit
      ∙ distinct_counted (records_of f.products b) (records_distinct f.products b) z.rec
      ∙ ap one there.2
