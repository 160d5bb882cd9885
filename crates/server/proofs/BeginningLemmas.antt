-- Lemmas about the first bytes of a text that grows.
use Rattle.std.proofs.Common.{◌≡◌, ℕ, ◌+◌, ◌-◌, ◌≤◌, List, ◌++◌, length, take, sym, ap, ◌∙◌, arith, min}
use Rattle.std.proofs.lemmas.List.{length-take-le, take_min}
use Rattle.std.proofs.Math.Seq.{take-append-add}

-- the first bytes with the part of `text` that still fits are the first bytes of the whole text
filled : (most : ℕ) (first text : List ℕ) → length first ≤ most → first ++ take (most - length first) text ≡ take most (first ++ text)
filled most first text few =
    let all : length first + (most - length first) ≡ most = omega arith in
    sym (take-append-add first text (most - length first)) ∙ ap (λ n. take n (first ++ text)) all

-- the first bytes in an array with the part of `text` that still fits are the first bytes of the
-- whole text
pub added : (most len : ℕ) (bytes first text : List ℕ) → length bytes ≡ most → len ≤ most → take len bytes ≡ first
    → take len bytes ++ take (min (most - len) (length text)) text ≡ take most (first ++ text)
added most len bytes first text all few is =
    let fits : len ≤ length bytes = omega arith in
    let counted : length first ≡ len = ap length (sym is) ∙ length-take-le len bytes fits in
    let room : length first ≤ most = omega arith in
    rw (take_min (most - len) text, is, ← counted) (filled most first text room)
