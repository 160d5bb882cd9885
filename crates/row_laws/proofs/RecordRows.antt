-- Look-ups of records by name and by place.
use Rattle.std.proofs.Common.{◌≡◌, ℕ, ◌+◌, ◌==◌, Bool, true, false, cond, ◌&&◌, List, [], ◌∷◌, map, All, Option, Some, None, refl, sym, ap, ◌∙◌, subst, arith}
use Rattle.std.specs.Prelude.{AllPairs, bytes_eq, count_by, find, if◌then◌else◌, option_and_then, option_map, slice_get}
use Rattle.std.specs.List.{enumerate_from, list_any}
use Rattle.std.proofs.lemmas.Bool.{and_left, and_parts, and_right, cond-true}
use Rattle.std.proofs.lemmas.Bool.Decides.{nat_tests}
use Rattle.std.proofs.lemmas.List.Elements.{All-map}
use Rattle.std.proofs.lemmas.List.Folds.{find_at}
use Rattle.std.proofs.lemmas.List.Kept.{AllPairs-cons}
use Rattle.std.proofs.lemmas.Map.Made.{find_same}
use Rattle.std.proofs.lemmas.Option.{cond_some, none-some, same_Some}
use Rattle.std.proofs.lemmas.Slice.Eq.{bytes_eq-Decides}
use Rattle.store_data.specs.declared.row.Product.{Product}
use Rattle.store_data.specs.declared.row.Row.{Row}
use Rattle.store_data.proofs.GroupLemmas.{Distinct, Distinct-first_appearances, same-bytes_eq}
use Rattle.store_data.proofs.IsPlanLemmas.{All-from_list_any}
use Rattle.job_facts.specs.declared.facts.RecordState.{RecordState}
use Rattle.job_facts.specs.Facts.{Batch, Facts}
use Rattle.job_facts.specs.Sound.{IsRecord}
use Rattle.job_facts.specs.States.{batch_named, is_spoiled, record_state, record_state_of, records_named, records_of, records_under, remakes_of, rows_of, states_of}
use Rattle.job_facts.proofs.Lists.{mapped}
use Rattle.step_laws.proofs.BlankSums.{bytes_eq_either}
use Rattle.table_rows.specs.Keys.{is_batch_named, is_record_at, is_record_named}
use Rattle.table_rows.specs.Tables.{PassesOnce, StoredBatch, StoredRecord}
use Rattle.image_laws.specs.WritingOf.{IsPlaceOf}
use Rattle.image_laws.specs.Image.{batch_id, batches_by_id, place_in, placed_records, records_in, stored_batch, stored_batches, stored_record, stored_records}
use Rattle.row_laws.specs.RowValues.{place_of, record_row}
use Rattle.row_laws.proofs.BatchRows.{batch_at, named_row, own_name, totals_are}
use Rattle.row_laws.proofs.Finding.{AllPairs-map, AllPairs-numbered, find-map, found_joined, found_numbered, number_found, number_once, once_joined}

-- ---- the names of one batch

distinct_once : (names : List (List ℕ)) → Distinct names → AllPairs (λ (m k : List ℕ). bytes_eq m k ≡ false) names
distinct_once [] distinct = λ i j d before within. absurd (omega arith)
distinct_once (n ∷ names) distinct =
    AllPairs-cons (λ (m k : List ℕ). bytes_eq m k ≡ false) n names (All-from_list_any (bytes_eq n) names distinct.0) (distinct_once names distinct.1)

pub names_once : (products : List Product) (b : Batch) → AllPairs (λ (m k : List ℕ). bytes_eq m k ≡ false) (records_of products b)
unfolding records_of
names_once products b = distinct_once (records_of products b) (Distinct-first_appearances [] (map (λ (row : Row). row.rec) (rows_of products b)) tt)

pub name_alone : (n m k : List ℕ) → bytes_eq m k ≡ false → bytes_eq m n ≡ true → bytes_eq k n ≡ false
name_alone n m k differ hit = bytes_eq_either k n ∙ ap (λ z. bytes_eq z k) (sym (same-bytes_eq m n hit)) ∙ differ

pub mapped_cond : {X Y : Type 0} (g : X → Y) (t : Bool) (x : X) → option_map g (cond t (Some x) None) ≡ cond t (Some (g x)) None
mapped_cond g true x = refl
mapped_cond g false x = refl

pub equal_self : (n : ℕ) → (n == n) ≡ true
equal_self n = grind (arith, nat_tests)

-- A look-up of a name finds the name with its place.
found_place : (n : List ℕ) (names : List (List ℕ))
    → find (λ (r : ℕ × List ℕ). bytes_eq r.1 n) (enumerate_from 0 names) ≡ cond (list_any (bytes_eq n) names) (Some (place_in names n, n)) None
found_place n names =
    let place : 0 + place_in names n ≡ place_in names n = omega arith in
    (λ i. find (λ (r : ℕ × List ℕ). bytes_eq_either r.1 n i) (enumerate_from 0 names))
    ∙ found_numbered (bytes_eq n) 0 names
    ∙ ap (λ k. option_map (λ (m : List ℕ). (k, m)) (find (bytes_eq n) names)) place
    ∙ ap (option_map (λ (m : List ℕ). (place_in names n, m))) (find_same bytes_eq-Decides n names)
    ∙ mapped_cond (λ (m : List ℕ). (place_in names n, m)) (list_any (bytes_eq n) names) n

pub name_at : (n : List ℕ) (names : List (List ℕ)) → list_any (bytes_eq n) names ≡ true → slice_get names (place_in names n) ≡ Some n
name_at n names among =
    sym (find_at (bytes_eq n) names) ∙ find_same bytes_eq-Decides n names ∙ cond-true (list_any (bytes_eq n) names) (Some n) None among

-- A look-up of the place of a name finds this name.
found_at : (n : List ℕ) (names : List (List ℕ)) → list_any (bytes_eq n) names ≡ true
    → find (λ (r : ℕ × List ℕ). r.0 == place_in names n) (enumerate_from 0 names) ≡ Some (place_in names n, n)
found_at n names among =
    number_found (place_in names n) (place_in names n) 0 names (omega arith)
    ∙ ap (option_map (λ (m : List ℕ). (place_in names n, m))) (name_at n names among)

module _ (f : Facts) where
  abbrev of_batch : ℕ → ℕ × Batch → Bool
  of_batch id e = e.0 == id

  pub names_are : (b : List ℕ) (batch : Batch) → batch_named f.batches b ≡ Some batch → records_of f.products batch ≡ records_named f b
  names_are b batch there = sym (ap (records_under f.products) there)

  -- ---- by name

  others_named : (id : ℕ) (n : List ℕ) (e : ℕ × Batch) → (e.0 == id) ≡ false → All (λ (r : StoredRecord). is_record_named id n r ≡ false) (records_in f e)
  others_named id n e miss = All-map (λ (r : StoredRecord). is_record_named id n r ≡ false) (stored_record f e) (placed_records f e) (λ k d within. and_left (e.0 == id) _ miss)

  named_once_in : (id : ℕ) (n : List ℕ) (e : ℕ × Batch) → PassesOnce (is_record_named id n) (records_in f e)
  named_once_in id n e =
      let names : List (List ℕ) = records_of f.products e.1 in
      let alone : List ℕ → List ℕ → Type 0 = λ m k. ((e.0 == id) && bytes_eq m n) ≡ true → ((e.0 == id) && bytes_eq k n) ≡ false in
      let once : AllPairs alone names = λ i j d before within hit.
      and_right (e.0 == id) _ (name_alone n _ _ (names_once f.products e.1 i j d before within) (and_parts (e.0 == id) _ hit).1) in
      AllPairs-map (λ (x y : StoredRecord). is_record_named id n x ≡ true → is_record_named id n y ≡ false) (stored_record f e) (placed_records f e) (AllPairs-numbered alone 0 names once)

  pub name_once : (id : ℕ) (n : List ℕ) → PassesOnce (is_record_named id n) (stored_records f)
  unfolding stored_records
  name_once id n = once_joined (is_record_named id n) (of_batch id) (records_in f) (others_named id n) (batches_by_id f) (number_once id 1 f.batches) (named_once_in id n)

  named_in : (id : ℕ) (n : List ℕ) (batch : Batch)
      → find (is_record_named id n) (records_in f (id, batch))
      ≡ cond (list_any (bytes_eq n) (records_of f.products batch)) (Some (stored_record f (id, batch) (place_in (records_of f.products batch) n, n))) None
  named_in id n batch =
      let names : List (List ℕ) = records_of f.products batch in
      find-map (is_record_named id n) (stored_record f (id, batch)) (placed_records f (id, batch))
      ∙ ap (λ t. option_map (stored_record f (id, batch)) (find (λ (r : ℕ × List ℕ). t && bytes_eq r.1 n) (enumerate_from 0 names))) (equal_self id)
      ∙ ap (option_map (stored_record f (id, batch))) (found_place n names)
      ∙ mapped_cond (stored_record f (id, batch)) (list_any (bytes_eq n) names) (place_in names n, n)

  pub name_row : (b n : List ℕ) (batch : Batch) → batch_named f.batches b ≡ Some batch
      → find (is_record_named (batch_id f.batches b) n) (stored_records f)
      ≡ (if list_any (bytes_eq n) (records_named f b) then Some (stored_record f (batch_id f.batches b, batch) (place_in (records_named f b) n, n)) else None)
  unfolding stored_records
  name_row b n batch there =
      let id : ℕ = batch_id f.batches b in
      found_joined (is_record_named id n) (of_batch id) (records_in f) (others_named id n) (batches_by_id f) (id, batch) (number_once id 1 f.batches) (batch_at f b batch there)
      ∙ named_in id n batch
      ∙ ap (λ names. cond (list_any (bytes_eq n) names) (Some (stored_record f (id, batch) (place_in names n, n))) None) (names_are b batch there)

  -- ---- by place

  others_at : (id place : ℕ) (e : ℕ × Batch) → (e.0 == id) ≡ false → All (λ (r : StoredRecord). is_record_at id place r ≡ false) (records_in f e)
  others_at id place e miss = All-map (λ (r : StoredRecord). is_record_at id place r ≡ false) (stored_record f e) (placed_records f e) (λ k d within. and_left (e.0 == id) _ miss)

  place_once_in : (id place : ℕ) (e : ℕ × Batch) → PassesOnce (is_record_at id place) (records_in f e)
  place_once_in id place e =
      let names : List (List ℕ) = records_of f.products e.1 in
      AllPairs-map (λ (x y : StoredRecord). is_record_at id place x ≡ true → is_record_at id place y ≡ false) (stored_record f e) (placed_records f e)
      (λ i j d before within hit. and_right (e.0 == id) _ (number_once place 0 names i j d before within (and_parts (e.0 == id) _ hit).1))

  pub place_once : (id place : ℕ) → PassesOnce (is_record_at id place) (stored_records f)
  unfolding stored_records
  place_once id place = once_joined (is_record_at id place) (of_batch id) (records_in f) (others_at id place) (batches_by_id f) (number_once id 1 f.batches) (place_once_in id place)

  at_in : (id : ℕ) (n : List ℕ) (batch : Batch) → list_any (bytes_eq n) (records_of f.products batch) ≡ true
      → find (is_record_at id (place_in (records_of f.products batch) n)) (records_in f (id, batch)) ≡ Some (stored_record f (id, batch) (place_in (records_of f.products batch) n, n))
  at_in id n batch among =
      let names : List (List ℕ) = records_of f.products batch in
      find-map (is_record_at id (place_in names n)) (stored_record f (id, batch)) (placed_records f (id, batch))
      ∙ ap (λ t. option_map (stored_record f (id, batch)) (find (λ (r : ℕ × List ℕ). t && (r.0 == place_in names n)) (enumerate_from 0 names))) (equal_self id)
      ∙ ap (option_map (stored_record f (id, batch))) (found_at n names among)

  pub place_row : (b n : List ℕ) (batch : Batch) → batch_named f.batches b ≡ Some batch → IsRecord f b n
      → find (is_record_at (batch_id f.batches b) (place_in (records_named f b) n)) (stored_records f)
      ≡ Some (stored_record f (batch_id f.batches b, batch) (place_in (records_named f b) n, n))
  unfolding stored_records
  place_row b n batch there among =
      let id : ℕ = batch_id f.batches b in
      let place : ℕ = place_in (records_named f b) n in
      found_joined (is_record_at id place) (of_batch id) (records_in f) (others_at id place) (batches_by_id f) (id, batch) (number_once id 1 f.batches) (batch_at f b batch there)
      ∙ subst (λ names. list_any (bytes_eq n) names ≡ true → find (is_record_at id (place_in names n)) (records_in f (id, batch)) ≡ Some (stored_record f (id, batch) (place_in names n, n)))
      (names_are b batch there) (at_in id n batch) among

  -- ---- values in the rows

  pub state_in_rows : (b r : List ℕ) → record_state_of f b r ≡ option_map (λ (x : StoredRecord). x.state) (record_row (stored_batches f) (stored_records f) b r)
  unfolding record_state_of
  state_in_rows b r = by_batch (batch_named f.batches b) refl
    where
      by_batch : (o : Option Batch) → batch_named f.batches b ≡ o
          → cond (list_any (bytes_eq r) (records_named f b)) (Some (record_state f b r)) None ≡ option_map (λ (x : StoredRecord). x.state) (record_row (stored_batches f) (stored_records f) b r)
      by_batch None is =
          let row : find (is_batch_named b) (stored_batches f) ≡ None = named_row f b ∙ ap (option_map (λ (c : Batch). stored_batch f (batch_id f.batches b, c))) is in
          ap (λ o. cond (list_any (bytes_eq r) (records_under f.products o)) (Some (record_state f b r)) None) is
          ∙ sym (rw row refl)
      by_batch (Some batch) is =
          let row : find (is_batch_named b) (stored_batches f) ≡ Some (stored_batch f (batch_id f.batches b, batch)) = named_row f b ∙ ap (option_map (λ (c : Batch). stored_batch f (batch_id f.batches b, c))) is in
          let there : Bool = list_any (bytes_eq r) (records_named f b) in
          sym (rw row (ap (option_map (λ (x : StoredRecord). x.state)) (name_row b r batch is)
          ∙ mapped_cond (λ (x : StoredRecord). x.state) there (stored_record f (batch_id f.batches b, batch) (place_in (records_named f b) r, r))
          ∙ ap (λ m. cond there (Some (record_state f m r)) None) (own_name f b batch is)))

  pub place_is : (b r : List ℕ) (batch : Batch) → batch_named f.batches b ≡ Some batch
      → IsPlaceOf f b r (place_of (stored_batch f (batch_id f.batches b, batch)) (stored_record f (batch_id f.batches b, batch) (place_in (records_named f b) r, r)))
  place_is b r batch there =
      let own = own_name f b batch there in
      record {
        batch = refl;
        place = refl;
        spoiled = ap (λ m. count_by is_spoiled (states_of f m r)) own;
        remakes = ap (λ m. remakes_of f m r) own;
        totals = sym (totals_are f b batch there);
      }

  pub place_in_rows : (b r : List ℕ) (row : StoredBatch) (x : StoredRecord) → find (is_batch_named b) (stored_batches f) ≡ Some row
      → find (is_record_named row.id r) (stored_records f) ≡ Some x → IsPlaceOf f b r (place_of row x)
  place_in_rows b r row x at_row at_x = by_batch (batch_named f.batches b) refl
    where
      by_batch : (o : Option Batch) → batch_named f.batches b ≡ o → IsPlaceOf f b r (place_of row x)
      by_batch None is = absurd (none-some row (sym (named_row f b ∙ ap (option_map (λ (c : Batch). stored_batch f (batch_id f.batches b, c))) is) ∙ at_row))
      by_batch (Some batch) is =
          let e : ℕ × Batch = (batch_id f.batches b, batch) in
          let first : stored_batch f e ≡ row =
          same_Some (stored_batch f e) row (sym (named_row f b ∙ ap (option_map (λ (c : Batch). stored_batch f (batch_id f.batches b, c))) is) ∙ at_row) in
          let id : batch_id f.batches b ≡ row.id = ap (λ (y : StoredBatch). y.id) first in
          let second = cond_some (list_any (bytes_eq r) (records_named f b)) (stored_record f e (place_in (records_named f b) r, r)) x
          (sym (name_row b r batch is) ∙ ap (λ k. find (is_record_named k r) (stored_records f)) id ∙ at_x) in
          subst (λ y. IsPlaceOf f b r (place_of row y)) second.1
          (subst (λ y. IsPlaceOf f b r (place_of y (stored_record f e (place_in (records_named f b) r, r)))) first (place_is b r batch is))

  -- If a record exists, its row and the row of its batch exist.
  pub rows_there : (b r : List ℕ) (state : RecordState) → record_state_of f b r ≡ Some state
      → (row : StoredBatch) × (x : StoredRecord) × (find (is_batch_named b) (stored_batches f) ≡ Some row) × (find (is_record_named row.id r) (stored_records f) ≡ Some x)
  rows_there b r state is =
      let it = mapped (λ (x : StoredRecord). x.state) (record_row (stored_batches f) (stored_records f) b r) state (sym (state_in_rows b r) ∙ is) in
      by_row it.0 it.1 (find (is_batch_named b) (stored_batches f)) refl
    where
      by_row : (x : StoredRecord) → record_row (stored_batches f) (stored_records f) b r ≡ Some x → (o : Option StoredBatch) → find (is_batch_named b) (stored_batches f) ≡ o
          → (row : StoredBatch) × (y : StoredRecord) × (find (is_batch_named b) (stored_batches f) ≡ Some row) × (find (is_record_named row.id r) (stored_records f) ≡ Some y)
      by_row x at None none = absurd (none-some x (sym (ap (option_and_then (λ (row : StoredBatch). find (is_record_named row.id r) (stored_records f))) none) ∙ at))
      by_row x at (Some row) there = (row, x, there, sym (ap (option_and_then (λ (y : StoredBatch). find (is_record_named y.id r) (stored_records f))) there) ∙ at)
