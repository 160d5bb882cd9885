-- The sets that the rows of an image determine: lots, discarded blanks, closed batches, and
-- withdrawn and remade records.
use Rattle.std.proofs.Common.{◌≡◌, ℕ, suc, ◌+◌, Bool, true, false, cond, List, [], ◌∷◌, ◌++◌, length, map, replicate, filter, slice_get, All, bytes_eq, Some, IsSome, inl, inr, refl, sym, ap, subst, ◌∙◌, arith, IsPermutation}
use Rattle.std.specs.List.{enumerate_from, flat_map, list_any, range_with_len}
use Rattle.std.proofs.lemmas.Bool.{cases_Bool, or_parts}
use Rattle.std.proofs.lemmas.List.Elements.{All-cons, All-head, All-map, All-nil, All-tail, All-weaker, filter-append}
use Rattle.std.proofs.lemmas.List.Folds.{flat_map-map, list_any_none}
use Rattle.std.proofs.lemmas.List.FromFn.{length-range_with_len}
use Rattle.std.proofs.lemmas.List.Sorted.{IsPermutation-map, IsPermutation-trans}
use Rattle.std.proofs.lemmas.Grind.{flat_map-append}
use Rattle.std.proofs.lemmas.Simd.{map-map}
use Rattle.store_data.proofs.GroupLemmas.{bytes_eq-same, same-bytes_eq}
use Rattle.store_data.proofs.IsPlanLemmas.{All-from_list_any}
use Rattle.job_facts.specs.declared.facts.RecordState.TheVariants as rec
use Rattle.job_facts.specs.declared.facts.SessionState.{SessionState}
use Rattle.job_facts.specs.Contents.{AreSound, Contents}
use Rattle.job_facts.specs.Facts.{Batch, Facts, RecordName, Session}
use Rattle.job_facts.specs.Sound.{IsRecord, IsSoundRecord, has_card}
use Rattle.job_facts.specs.States.{batch_named, is_closed, is_good, is_running, is_withdrawn, record_state, records_of, remakes_of, same_record_state, state_by}
use Rattle.step_laws.proofs.Permuted.{IsPermutation-filter}
use Rattle.table_rows.specs.Tables.{HaveSameRows, StoredBatch, StoredBlank, StoredLot, StoredRecord, StoredRemake, Tables}
use Rattle.image_laws.specs.Image.{batches_by_id, image, placed_records, records_in, remakes_at, remakes_in, stored_batch, stored_batches, stored_blank, stored_blanks, stored_lot, stored_lots, stored_record, stored_records, stored_remakes}
use Rattle.image_laws.proofs.Found.{some_there}
use Rattle.image_laws.proofs.Lists.{All-joined, flat_map_same}
use Rattle.image_laws.proofs.Lookups.{none_pass}
use Rattle.image_laws.proofs.Places.{map_joined}
use Rattle.image_laws.specs.Decided.{batch_name, closed_rows, discarded_rows, record_name, remade_of_row, withdrawn_of_row, withdrawn_rows}
use Rattle.image_laws.proofs.Back.{batch_name_at, record_name_at}
use Rattle.image_laws.proofs.Counted.{once_or_none, spread, spreads}
use Rattle.image_laws.proofs.Named.{Placed, all_records, batch_once, name_of_placed, record_once, same_record, same_record-exact, same_record-itself}

-- ---- lists

mapped_back : {X Y : Type 0} (g : X → Y) (h : Y → X) → ((x : X) → h (g x) ≡ x) → (xs : List X) → map h (map g xs) ≡ xs
mapped_back g h back [] = refl
mapped_back g h back (x ∷ xs) = ap (λ y. y ∷ map h (map g xs)) (back x) ∙ ap (λ ys. x ∷ ys) (mapped_back g h back xs)

all_pass : {X Y : Type 0} (g : X → Y) (q : Y → Bool) → ((x : X) → q (g x) ≡ true) → (xs : List X) → filter q (map g xs) ≡ map g xs
all_pass g q passes [] = refl
all_pass g q passes (x ∷ xs) = rw (passes x) (ap (λ ys. g x ∷ ys) (all_pass g q passes xs))

-- The rows whose names satisfy `p` have exactly these names.
module _ {X Y K : Type 0} (g : X → Y) (q : Y → Bool) (h : Y → K) (name : X → K) (p : K → Bool) where
  abbrev once_each : K → ℕ
  once_each k = cond (p k) 1 0

  abbrev IsNamed : X → Type 0
  IsNamed x = (q (g x) ≡ p (name x)) × (h (g x) ≡ name x)

  rows_spread : (xs : List X) → All IsNamed xs → map h (filter q (map g xs)) ≡ spread name once_each xs
  rows_spread [] each = refl
  rows_spread (x ∷ xs) each =
      let here = All-head IsNamed x xs each in
      let rest = rows_spread xs (All-tail IsNamed x xs each) in
      let kept : List Y = filter q (map g xs) in
      let spread_by : Bool → List K = λ b. replicate (cond {A = ℕ} b 1 0) (name x) ++ spread name once_each xs in
      elim (cases_Bool (p (name x))) [
        | inl hit ↦ ap (λ b. map h (cond b (g x ∷ kept) kept)) (here.0 ∙ hit) ∙ ap (λ k. k ∷ map h kept) here.1 ∙ ap (λ ks. name x ∷ ks) rest ∙ ap spread_by (sym hit)
        | inr miss ↦ ap (λ b. map h (cond b (g x ∷ kept) kept)) (here.0 ∙ miss) ∙ rest ∙ ap spread_by (sym miss)
      ]

-- If every element gives the same value, the mapped list repeats this value.
same_each : {X Y Z : Type 0} (h : Y → Z) (g : X → Y) (z : Z) → ((x : X) → h (g x) ≡ z) → (xs : List X) → map h (map g xs) ≡ replicate (length xs) z
same_each h g z same [] = refl
same_each h g z same (x ∷ xs) = ap (λ y. y ∷ map h (map g xs)) (same x) ∙ ap (λ ys. z ∷ ys) (same_each h g z same xs)

-- Each numbered element is at the index of its number.
pub numbered_there : {X : Type 0} (n : ℕ) (xs : List X) → All (λ (e : ℕ × X). (k : ℕ) × (e.0 ≡ n + k) × (slice_get xs k ≡ Some e.1)) (enumerate_from n xs)
numbered_there {X} n [] = let none : List X = [] in All-nil (λ (e : ℕ × X). (k : ℕ) × (e.0 ≡ n + k) × (slice_get none k ≡ Some e.1))
numbered_there {X} n (x ∷ xs) =
    All-cons (λ (e : ℕ × X). (k : ℕ) × (e.0 ≡ n + k) × (slice_get (x ∷ xs) k ≡ Some e.1)) (n, x) (enumerate_from (n + 1) xs) (0, omega arith, refl)
    (All-weaker (λ (e : ℕ × X). (k : ℕ) × (e.0 ≡ n + 1 + k) × (slice_get xs k ≡ Some e.1)) (λ e. (k : ℕ) × (e.0 ≡ n + k) × (slice_get (x ∷ xs) k ≡ Some e.1))
    (λ e at. (suc at.0, omega (arith, at.1), at.2)) (enumerate_from (n + 1) xs) (numbered_there (n + 1) xs))

-- ---- the state of a withdrawn record

without_withdrawal : (good running more : Bool)
    → same_record_state rec.Withdrawn (cond good rec.Good (cond running rec.Running (cond false rec.Withdrawn (cond more rec.Failed rec.Waiting)))) ≡ false
without_withdrawal true running more = refl
without_withdrawal false true more = refl
without_withdrawal false false true = refl
without_withdrawal false false false = refl

pub withdrawn_stands : (states : List SessionState) (withdrawn : Bool) (remakes : ℕ) → IsSoundRecord states withdrawn remakes
    → same_record_state rec.Withdrawn (state_by states withdrawn remakes) ≡ withdrawn
withdrawn_stands states true remakes is =
    let none : All (λ s. has_card s ≡ false) states = All-from_list_any has_card states (is.withdrawn_none refl) in
    let good : list_any is_good states ≡ false = list_any_none is_good states (All-weaker (λ s. has_card s ≡ false) (λ s. is_good s ≡ false) (λ s miss. (or_parts (is_good s) (is_running s) miss).0) states none) in
    let running : list_any is_running states ≡ false = list_any_none is_running states (All-weaker (λ s. has_card s ≡ false) (λ s. is_running s ≡ false) (λ s miss. (or_parts (is_good s) (is_running s) miss).1) states none) in
    rw (good, running) refl
withdrawn_stands states false remakes is = without_withdrawal (list_any is_good states) (list_any is_running states) _

-- ---- all records with their batches and places

-- the rows of all records, from the records of each batch
rows_by_place : (f : Facts) → stored_records f ≡ map (λ (x : Placed). stored_record f x.0 x.1) (all_records f)
unfolding stored_records
rows_by_place f =
    flat_map_same (records_in f) _ (batches_by_id f) (λ k d within. sym (map-map _ _ _)) ∙ map_joined (λ (x : Placed). stored_record f x.0 x.1) _ (batches_by_id f)

remakes_by_place : (f : Facts) → stored_remakes f ≡ flat_map (λ (x : Placed). remakes_at f x.0 x.1) (all_records f)
unfolding stored_remakes
remakes_by_place f = joined (batches_by_id f)
  where
    joined : (es : List (ℕ × Batch)) → flat_map (remakes_in f) es
        ≡ flat_map (λ (x : Placed). remakes_at f x.0 x.1) (flat_map (λ (e : ℕ × Batch). map (λ (r : ℕ × List ℕ). let x : Placed = (e, r) in x) (placed_records f e)) es)
    joined [] = refl
    joined (e ∷ es) =
        ap (λ rs. flat_map (remakes_at f e) (placed_records f e) ++ rs) (joined es)
        ∙ ap (λ rs. rs ++ flat_map (λ (x : Placed). remakes_at f x.0 x.1) (flat_map (λ (d : ℕ × Batch). map (λ (r : ℕ × List ℕ). let x : Placed = (d, r) in x) (placed_records f d)) es))
        (sym (flat_map-map (λ (x : Placed). remakes_at f x.0 x.1) (λ (r : ℕ × List ℕ). let x : Placed = (e, r) in x) (placed_records f e)))
        ∙ sym (flat_map-append (λ (x : Placed). remakes_at f x.0 x.1) (map (λ (r : ℕ × List ℕ). let x : Placed = (e, r) in x) (placed_records f e))
        (flat_map (λ (d : ℕ × Batch). map (λ (r : ℕ × List ℕ). let x : Placed = (d, r) in x) (placed_records f d)) es))

abbrev IsPlaced : Facts → Placed → Type 0
IsPlaced f x = (k : ℕ) × (x.0.0 ≡ 1 + k) × (slice_get f.batches k ≡ Some x.0.1) × (slice_get (records_of f.products x.0.1) x.1.0 ≡ Some x.1.1)

module _ (f : Facts) where
  abbrev with_record : ℕ × Batch → ℕ × List ℕ → Placed
  with_record e r = (e, r)

  placed_in : (e : ℕ × Batch) (k : ℕ) → e.0 ≡ 1 + k → slice_get f.batches k ≡ Some e.1 → All (λ (r : ℕ × List ℕ). IsPlaced f (with_record e r)) (placed_records f e)
  placed_in e k is there =
      All-weaker (λ (r : ℕ × List ℕ). (p : ℕ) × (r.0 ≡ 0 + p) × (slice_get (records_of f.products e.1) p ≡ Some r.1)) (λ r. IsPlaced f (with_record e r))
      (λ r own. let place : own.0 ≡ r.0 = omega (arith, own.1) in (k, is, there, ap (slice_get (records_of f.products e.1)) (sym place) ∙ own.2))
      (placed_records f e) (numbered_there 0 (records_of f.products e.1))

  all_placed : All (IsPlaced f) (all_records f)
  all_placed =
      All-joined (IsPlaced f) (λ e. map (with_record e) (placed_records f e)) (batches_by_id f)
      (All-weaker (λ (e : ℕ × Batch). (k : ℕ) × (e.0 ≡ 1 + k) × (slice_get f.batches k ≡ Some e.1)) (λ e. All (IsPlaced f) (map (with_record e) (placed_records f e)))
      (λ e at. All-map (IsPlaced f) (with_record e) (placed_records f e) (placed_in e at.0 at.1 at.2))
      (batches_by_id f) (numbered_there 1 f.batches))

-- ---- sets from rows

module _ (c : Contents) (t : Tables) (sound : AreSound c) (same : HaveSameRows t (image c)) where
  abbrev f : Facts
  f = c.facts

  lots_back : map (λ (l : StoredLot). l.lot) (stored_lots f) ≡ f.lots
  unfolding stored_lots
  lots_back = mapped_back (stored_lot f) (λ (l : StoredLot). l.lot) (λ l. refl) f.lots

  pub lots_are : IsPermutation (map (λ (l : StoredLot). l.lot) t.lots) f.lots
  lots_are = subst (IsPermutation (map (λ (l : StoredLot). l.lot) t.lots)) lots_back (IsPermutation-map (λ (l : StoredLot). l.lot) t.lots (stored_lots f) same.lots)

  discarded_back : map (λ (b : StoredBlank). b.serial) (discarded_rows (stored_blanks f)) ≡ f.discarded
  unfolding stored_blanks
  discarded_back =
      let is_out : StoredBlank → Bool = λ b. b.discarded in
      let opened : List StoredBlank = map (λ (s : Session). stored_blank f false s.blank) f.sessions in
      let out : List StoredBlank = map (stored_blank f true) f.discarded in
      ap (map (λ (b : StoredBlank). b.serial))
      (filter-append is_out opened out
      ∙ ap (λ bs. bs ++ filter is_out out) (none_pass (λ (s : Session). stored_blank f false s.blank) is_out f.sessions (λ s. refl))
      ∙ all_pass (stored_blank f true) is_out (λ b. refl) f.discarded)
      ∙ mapped_back (stored_blank f true) (λ (b : StoredBlank). b.serial) (λ b. refl) f.discarded

  pub discarded_are : IsPermutation (map (λ (b : StoredBlank). b.serial) (discarded_rows t.blanks)) f.discarded
  discarded_are =
      subst (IsPermutation (map (λ (b : StoredBlank). b.serial) (discarded_rows t.blanks))) discarded_back
      (IsPermutation-map (λ (b : StoredBlank). b.serial) _ _ (IsPermutation-filter (λ (b : StoredBlank). b.discarded) t.blanks (stored_blanks f) same.blanks))

  -- ---- closed batches

  closed_back : map (λ (b : StoredBatch). b.name) (closed_rows (stored_batches f)) ≡ spread (λ (e : ℕ × Batch). e.1.name) (λ n. cond (is_closed f n) 1 0) (batches_by_id f)
  unfolding stored_batches
  closed_back = rows_spread (stored_batch f) (λ (b : StoredBatch). b.closed) (λ (b : StoredBatch). b.name) (λ (e : ℕ × Batch). e.1.name) (is_closed f) (batches_by_id f) (λ k d within. (refl, refl))

  closed_spread : IsPermutation (spread (λ (e : ℕ × Batch). e.1.name) (λ n. cond (is_closed f n) 1 0) (batches_by_id f)) f.closed
  closed_spread =
      let given = sound.facts.states in
      spreads bytes_eq same-bytes_eq bytes_eq-same (λ (e : ℕ × Batch). e.1.name) (λ n. cond (is_closed f n) 1 0) (batches_by_id f) f.closed
      (λ n. sym (once_or_none bytes_eq same-bytes_eq bytes_eq-same f.closed given.closed_once n))
      (All-weaker (λ n. IsSome (batch_named f.batches n)) _ (λ n is. let there = some_there (batch_named f.batches n) is in batch_once f sound.facts n there.0 there.1) f.closed given.closed_there)

  pub closed_are : IsPermutation (map (λ (b : StoredBatch). b.name) (closed_rows t.batches)) f.closed
  closed_are = let moved = IsPermutation-map (λ (b : StoredBatch). b.name) _ _ (IsPermutation-filter (λ (b : StoredBatch). b.closed) t.batches (stored_batches f) same.batches) in
      IsPermutation-trans _ _ _ (subst (IsPermutation (map (λ (b : StoredBatch). b.name) (closed_rows t.batches))) closed_back moved) closed_spread

  -- ---- records

  batch_named_so : (x : Placed) → IsPlaced f x → batch_name t x.0.0 ≡ x.0.1.name
  batch_named_so x at = ap (batch_name t) at.1 ∙ batch_name_at c t sound same at.0 x.0.1 at.2

  record_named_so : (x : Placed) → IsPlaced f x → record_name t x.0.0 x.1.0 ≡ x.1.1
  record_named_so x at = ap (λ id. record_name t id x.1.0) at.1 ∙ record_name_at c t sound same at.0 x.1.0 x.0.1 x.1.1 at.2 at.3

  abbrev gone : RecordName → Bool
  gone n = is_withdrawn f n.batch n.rec

  withdrawn_so : (b r : List ℕ) → same_record_state rec.Withdrawn (record_state f b r) ≡ is_withdrawn f b r
  unfolding record_state
  withdrawn_so b r = withdrawn_stands _ (is_withdrawn f b r) (remakes_of f b r) (sound.facts.states.records b r)

  withdrawn_named : (x : Placed) → IsPlaced f x → (same_record_state rec.Withdrawn (record_state f x.0.1.name x.1.1) ≡ gone (name_of_placed x)) × (withdrawn_of_row t (stored_record f x.0 x.1) ≡ name_of_placed x)
  withdrawn_named x at = let named : List ℕ → RecordName = λ b. record { batch = b; rec = x.1.1 } in (withdrawn_so x.0.1.name x.1.1, ap named (batch_named_so x at))

  withdrawn_back : map (withdrawn_of_row t) (withdrawn_rows (stored_records f)) ≡ spread name_of_placed (λ n. cond (gone n) 1 0) (all_records f)
  withdrawn_back =
      ap (λ rows. map (withdrawn_of_row t) (withdrawn_rows rows)) (rows_by_place f)
      ∙ rows_spread (λ (x : Placed). stored_record f x.0 x.1) (λ (r : StoredRecord). same_record_state rec.Withdrawn r.state) (withdrawn_of_row t) name_of_placed gone (all_records f)
      (All-weaker (IsPlaced f) _ withdrawn_named (all_records f) (all_placed f))

  withdrawn_spread : IsPermutation (spread name_of_placed (λ n. cond (gone n) 1 0) (all_records f)) f.withdrawn
  withdrawn_spread =
      let given = sound.facts.states in
      spreads same_record same_record-exact same_record-itself name_of_placed (λ n. cond (gone n) 1 0) (all_records f) f.withdrawn
      (λ n. sym (once_or_none same_record same_record-exact same_record-itself f.withdrawn given.withdrawn_once n))
      (All-weaker (λ (n : RecordName). IsRecord f n.batch n.rec) _ (λ n is. record_once f sound.facts n is) f.withdrawn given.withdrawn)

  pub withdrawn_are : IsPermutation (map (withdrawn_of_row t) (withdrawn_rows t.records)) f.withdrawn
  withdrawn_are =
      let moved = IsPermutation-map (withdrawn_of_row t) _ _ (IsPermutation-filter (λ (r : StoredRecord). same_record_state rec.Withdrawn r.state) t.records (stored_records f) same.records) in
      IsPermutation-trans _ _ _ (subst (IsPermutation (map (withdrawn_of_row t) (withdrawn_rows t.records))) withdrawn_back moved) withdrawn_spread

  abbrev times : RecordName → ℕ
  times n = remakes_of f n.batch n.rec

  remade_so : (x : Placed) → IsPlaced f x → map (remade_of_row t) (remakes_at f x.0 x.1) ≡ replicate (times (name_of_placed x)) (name_of_placed x)
  remade_so x at =
      let named : List ℕ → List ℕ → RecordName = λ b r. record { batch = b; rec = r } in
      let is : named (batch_name t x.0.0) (record_name t x.0.0 x.1.0) ≡ name_of_placed x = ap (λ b. named b (record_name t x.0.0 x.1.0)) (batch_named_so x at) ∙ ap (named x.0.1.name) (record_named_so x at) in
      same_each (remade_of_row t) (λ turn. let r : StoredRemake = record { batch = x.0.0; place = x.1.0; turn = turn } in r) (name_of_placed x) (λ turn. is) (range_with_len 1 (times (name_of_placed x)))
      ∙ ap (λ n. replicate n (name_of_placed x)) (length-range_with_len 1 (times (name_of_placed x)))

  remakes_back : map (remade_of_row t) (stored_remakes f) ≡ spread name_of_placed times (all_records f)
  remakes_back =
      ap (map (remade_of_row t)) (remakes_by_place f)
      ∙ sym (map_joined (remade_of_row t) (λ (x : Placed). remakes_at f x.0 x.1) (all_records f))
      ∙ flat_map_same _ _ (all_records f) (All-weaker (IsPlaced f) _ remade_so (all_records f) (all_placed f))

  remakes_spread : IsPermutation (spread name_of_placed times (all_records f)) f.remakes
  remakes_spread =
      spreads same_record same_record-exact same_record-itself name_of_placed times (all_records f) f.remakes (λ n. refl)
      (All-weaker (λ (n : RecordName). IsRecord f n.batch n.rec) _ (λ n is. record_once f sound.facts n is) f.remakes sound.facts.states.remade)

  pub remakes_are : IsPermutation (map (remade_of_row t) t.remakes) f.remakes
  remakes_are =
      let moved = IsPermutation-map (remade_of_row t) t.remakes (stored_remakes f) same.remakes in
      IsPermutation-trans _ _ _ (subst (IsPermutation (map (remade_of_row t) t.remakes)) remakes_back moved) remakes_spread
