-- Many rows that one INSERT adds. Each of their values is a parameter.
use Rattle.std.proofs.Common.{◌≡◌, ℕ, zero, suc, ◌+◌, List, [], ◌∷◌, ◌++◌, length, map, take, drop, refl, subst, arith}
use Rattle.std.specs.List.{flat_map, range_with_len}
use Rattle.sqlite.specs.declared.types.Value.{Value}
use Rattle.sqlite.specs.Effect.{value_rows}
use Rattle.sqlite.specs.Order.{Row}
use Rattle.sqlite.specs.Term.{Term, col, eval_all}
use Rattle.sqlite_value.specs.Order.{column}
use Rattle.sql_base.proofs.Numbering.{unnumbered_row}
use Rattle.row_writes.specs.BatchTexts.{row_terms, rows_terms}

-- the value at position `at`, and the values after it
first_left : (params : Row) (at : ℕ) (v : Value) (rest : Row) → drop at params ≡ v ∷ rest → (column params at ≡ v) × (drop (suc at) params ≡ rest)
first_left [] zero v rest is = absurd (cc)
first_left [] (suc n) v rest is = absurd (cc)
first_left (p ∷ params) zero v rest is = (cc, cc)
first_left (p ∷ params) (suc n) v rest is = first_left params n v rest is

-- The values from position `first` on are the values of the row.
row_given : (params row rest : Row) (first : ℕ) → drop first params ≡ row ++ rest
    → (eval_all (map (col 0) (range_with_len first (length row))) (params ∷ []) ≡ row) × (drop (first + length row) params ≡ rest)
row_given params [] rest first is = (refl, subst (λ k. drop k params ≡ rest) {x = first} {y = first + 0} (omega arith) is)
row_given params (v ∷ row) rest first is =
    let here = first_left params first v (row ++ rest) is in
    let more = row_given params row rest (first + 1) (subst (λ k. drop k params ≡ row ++ rest) {x = suc first} {y = first + 1} (omega arith) here.1) in
    (rw (here.0, more.0) refl, subst (λ k. drop k params ≡ rest) {x = first + 1 + length row} {y = first + length (v ∷ row)} (omega arith) more.1)

module _ {X : Type 0} (row_of : X → Row) (width : ℕ) (wide : (x : X) → length (row_of x) ≡ width)
    (cut : (first : ℕ) (rest : List Term) → (take (1 + width) (row_terms width first ++ rest) ≡ row_terms width first) × (drop (1 + width) (row_terms width first ++ rest) ≡ rest))
    (params : Row) where
  given_from : (xs : List X) (first : ℕ) → drop first params ≡ flat_map row_of xs
      → value_rows params (1 + width) (length xs) (rows_terms width first (length xs)) ≡ map unnumbered_row (map row_of xs)
  given_from [] first is = refl
  given_from (x ∷ xs) first is =
      let here = row_given params (row_of x) (flat_map row_of xs) first is in
      let row : eval_all (map (col 0) (range_with_len first width)) (params ∷ []) ≡ row_of x = subst (λ n. eval_all (map (col 0) (range_with_len first n)) (params ∷ []) ≡ row_of x) (wide x) here.0 in
      let left : drop (first + width) params ≡ flat_map row_of xs = subst (λ n. drop (first + n) params ≡ flat_map row_of xs) (wide x) here.1 in
      let parts = cut first (rows_terms width (first + width) (length xs)) in
      rw (parts.0, parts.1, row, given_from xs (first + width) left) refl

  -- the rows that the parameters contain
  pub given : (xs : List X) (count : ℕ) → length xs ≡ count → params ≡ flat_map row_of xs → value_rows params (1 + width) count (rows_terms width 0 count) ≡ map unnumbered_row (map row_of xs)
  given xs count many is = subst (λ n. value_rows params (1 + width) n (rows_terms width 0 n) ≡ map unnumbered_row (map row_of xs)) many (given_from xs 0 is)

-- A change that leaves each row unchanged leaves all of them unchanged.
pub all_same : {X : Type 0} (row_of : X → Row) (change : Row → Row) → ((x : X) → change (unnumbered_row (row_of x)) ≡ unnumbered_row (row_of x))
    → (xs : List X) → map change (map unnumbered_row (map row_of xs)) ≡ map unnumbered_row (map row_of xs)
all_same row_of change same [] = refl
all_same row_of change same (x ∷ xs) = rw (same x, all_same row_of change same xs) refl
