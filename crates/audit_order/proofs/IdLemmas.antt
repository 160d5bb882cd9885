-- Batches with consecutive ids.
use Rattle.std.proofs.Common.{◌≡◌, ℕ, ◌+◌, ◌<◌, List, length, get_or, map, Some, sym, ap, ◌∙◌, subst, arith}
use Rattle.std.specs.Prelude.{find}
use Rattle.std.specs.List.{position_or_len, range_with_len, slice_get}
use Rattle.std.proofs.lemmas.Bool.Decides.{nat_tests}
use Rattle.std.proofs.lemmas.List.Folds.{find_at}
use Rattle.std.proofs.lemmas.List.FromFn.{get_or-range_with_len}
use Rattle.std.proofs.lemmas.List.Sums.{position_or_len_is}
use Rattle.std.proofs.lemmas.Option.{slice_get-get_or}
use Rattle.table_rows.specs.Keys.{is_batch}
use Rattle.table_rows.specs.Tables.{StoredBatch, Tables}
use Rattle.audit_order.proofs.SameLists.{get_or-map}

module _ (t : Tables) (ids : map (λ (b : StoredBatch). b.id) t.batches ≡ range_with_len 1 (length t.batches)) where
  pub id_at : (i : ℕ) (d : StoredBatch) → i < length t.batches → (get_or t.batches i d).id ≡ 1 + i
  id_at i d within =
      sym (get_or-map (λ (b : StoredBatch). b.id) t.batches i d 0 within) ∙ ap (λ xs. get_or xs i 0) ids ∙ get_or-range_with_len 1 (length t.batches) i 0 within

  found_batch : (i : ℕ) (d : StoredBatch) → i < length t.batches → find (is_batch (get_or t.batches i d).id) t.batches ≡ Some (get_or t.batches i d)
  found_batch i d within =
      let id : ℕ = (get_or t.batches i d).id in
      let id_is : (get_or t.batches i d).id ≡ 1 + i = id_at i d within in
      let place : position_or_len (is_batch id) t.batches ≡ i =
      position_or_len_is (is_batch id) t.batches i d (omega arith) (λ k before. let other = id_at k d (omega arith) in grind (arith, nat_tests)) (λ inside. grind (arith, nat_tests)) in
      find_at (is_batch id) t.batches ∙ ap (slice_get t.batches) place ∙ slice_get-get_or t.batches i d within

-- the look-up of each batch, by its index
found_here : (t : Tables) → map (λ (b : StoredBatch). b.id) t.batches ≡ range_with_len 1 (length t.batches) → (i : ℕ) (b : StoredBatch) → i < length t.batches → b ≡ get_or t.batches i b
    → find (is_batch b.id) t.batches ≡ Some b
found_here t ids i b within is =
    subst (λ (x : StoredBatch). find (is_batch x.id) t.batches ≡ Some x) (sym is) (found_batch t ids i b within)

pub found_among : (t : Tables) → map (λ (b : StoredBatch). b.id) t.batches ≡ range_with_len 1 (length t.batches) → (batches : List StoredBatch) → batches ≡ t.batches
    → (i : ℕ) (b : StoredBatch) → i < length batches → b ≡ get_or batches i b → find (is_batch b.id) t.batches ≡ Some b
found_among t ids batches same i b within is =
    found_here t ids i b (subst (λ (bs : List StoredBatch). i < length bs) same within) (is ∙ ap (λ (bs : List StoredBatch). get_or bs i b) same)
