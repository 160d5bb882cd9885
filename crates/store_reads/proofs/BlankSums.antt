-- Lemmas about the counters of a product's blanks, from the rows of its lots and batches in any
-- order.
use Rattle.std.proofs.Common.{◌≡◌, ◌+◌, ℕ, List, [], ◌∷◌, length, map, refl, sym, ap, ◌∙◌, IsPermutation}
use Rattle.std.specs.Prelude.{sum_by}
use Rattle.std.proofs.lemmas.List.{length-map}
use Rattle.std.proofs.lemmas.List.Sums.{sum_by-cons}
use Rattle.std.proofs.lemmas.List.Sorted.{length_permutation, sum_by-IsPermutation}
use Rattle.row_reads.specs.declared.batches.BatchHead.{BatchHead}
use Rattle.row_reads.specs.declared.lots.LotRow.{LotRow}
use Rattle.row_reads.specs.RowValues.{head_of, lot_row_of}
use Rattle.table_rows.specs.Tables.{StoredBatch, StoredLot}
use Rattle.row_laws.specs.RowValues.{blanks_of}
use Rattle.store_reads.specs.Sums.{totals_of_rows}

sum_mapped : {X Y : Type 0} (view : X → Y) (n : Y → ℕ) (xs : List X) → sum_by n (map view xs) ≡ sum_by (λ x. n (view x)) xs
sum_mapped view n [] = refl
sum_mapped view n (x ∷ xs) = sum_by-cons n (view x) (map view xs) ∙ ap (λ k. n (view x) + k) (sum_mapped view n xs) ∙ sym (sum_by-cons (λ y. n (view y)) x xs)

sum_moved : {X Y : Type 0} (view : X → Y) (n : Y → ℕ) (xs : List X) (ys : List Y) → IsPermutation (map view xs) ys → sum_by n ys ≡ sum_by (λ x. n (view x)) xs
sum_moved view n xs ys moved = sum_by-IsPermutation n (map view xs) ys moved ∙ sum_mapped view n xs

pub blanks_read : (lots : List StoredLot) (batches : List StoredBatch) (rows : List LotRow) (heads : List BatchHead) → IsPermutation (map lot_row_of lots) rows
    → IsPermutation (map head_of batches) heads → totals_of_rows rows heads ≡ blanks_of lots batches
blanks_read lots batches rows heads lots_moved batches_moved =
    let many : length rows ≡ length lots = length_permutation (map lot_row_of lots) rows lots_moved ∙ length-map lots lot_row_of in
    rw (
      many,
      sum_moved lot_row_of (λ (l : LotRow). l.lot.count) lots rows lots_moved,
      sum_moved lot_row_of (λ (l : LotRow). l.discarded) lots rows lots_moved,
      sum_moved head_of (λ (h : BatchHead). h.totals.good) batches heads batches_moved,
      sum_moved head_of (λ (h : BatchHead). h.totals.running) batches heads batches_moved,
      sum_moved head_of (λ (h : BatchHead). h.totals.spoiled) batches heads batches_moved,
    ) refl
