-- Setting the bytes of one batch.
use Rattle.std.proofs.Common.{◌≡◌, ◌==◌, ℕ, true, false, List, [], ◌∷◌, map, refl, arith}
use Rattle.std.proofs.lemmas.Bool.Decides.{nat_tests}
use Rattle.std.specs.List.{AllByRecursion}
use Rattle.table_rows.specs.Tables.{StoredBatch}
use Rattle.row_writes.specs.Raw.{raw_set}

pub itself : (n : ℕ) → (n == n) ≡ true
itself n = grind (arith, nat_tests)

-- Batches with other ids are unchanged.
pub stay : (id : ℕ) (raw : List ℕ) (bs : List StoredBatch) → AllByRecursion (λ (b : StoredBatch). (b.id == id) ≡ false) bs → map (raw_set id raw) bs ≡ bs
stay id raw [] differ = refl
stay id raw (b ∷ bs) differ = rw (differ.0, stay id raw bs differ.1) refl
