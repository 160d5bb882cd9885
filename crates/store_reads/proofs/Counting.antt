-- Lemmas: if ids start at 1 and increase by 1, the last id is the number of rows.
use Rattle.std.proofs.Common.{◌≡◌, ℕ, zero, suc, ◌≤◌, ◌<◌, List, All, subst, arith}
use Rattle.std.specs.List.{range_with_len}
use Rattle.std.proofs.lemmas.List.Elements.{All-contains}
use Rattle.std.proofs.lemmas.List.FromFn.{get_or-range_with_len, length-range_with_len}
use Rattle.row_reads.specs.Extremes.{IsGreatest}

none_behind : (n : ℕ) → All (λ m. m ≤ n) (range_with_len 1 n)
none_behind n k d low =
    let within : k < n = omega (arith, length-range_with_len 1 n) in
    omega (arith, get_or-range_with_len 1 n k d within)

last_id : (n g : ℕ) → IsGreatest (range_with_len 1 n) g → g ≡ n
last_id zero g is = is
last_id (suc n) g is =
    let most = All-contains (λ m. m ≤ suc n) (range_with_len 1 (suc n)) g (none_behind (suc n)) is.0 in
    let least = is.1 n 0 (omega (arith, length-range_with_len 1 (suc n))) in
    omega (arith, most, least, get_or-range_with_len 1 (suc n) n 0 (omega arith))

pub counted : (ids : List ℕ) (n g : ℕ) → ids ≡ range_with_len 1 n → IsGreatest ids g → g ≡ n
counted ids n g are is = last_id n g (subst (λ ns. IsGreatest ns g) are is)
