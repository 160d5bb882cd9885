-- The serials of lots.
use Rattle.std.proofs.Common.{◌≡◌, ℕ, zero, suc, ◌+◌, ◌<◌, ◌≤◌, ◌==◌, Bool, true, List, [], ◌∷◌, length, length-append, refl, ap, ◌∙◌, inl, inr, arith}
use Rattle.std.specs.Prelude.{sum_by}
use Rattle.std.specs.List.{flat_map, list_any}
use Rattle.std.proofs.lemmas.Bool.{cases_Bool, or_left, or_right}
use Rattle.std.proofs.lemmas.Bool.Decides.{nat_tests}
use Rattle.std.proofs.lemmas.List.Concat.{flat_map-cons}
use Rattle.std.proofs.lemmas.List.Folds.{list_any-append}
use Rattle.std.proofs.lemmas.List.Sums.{sum_by-cons}
use Rattle.job_facts.specs.declared.facts.Lot.{Lot}
use Rattle.job_facts.specs.States.{is_in}

abbrev pub serials : ℕ → ℕ → List ℕ
serials first zero = []
serials first (suc n) = first ∷ serials (first + 1) n

abbrev pub serials_of : Lot → List ℕ
serials_of l = serials l.first l.count

abbrev pub has : List ℕ → ℕ → Bool
has xs q = list_any (λ x. q == x) xs

length-serials : (first n : ℕ) → length (serials first n) ≡ n
length-serials first zero = refl
length-serials first (suc n) = ap suc (length-serials (first + 1) n)

pub length-all : (lots : List Lot) → length (flat_map serials_of lots) ≡ sum_by (λ (l : Lot). l.count) lots
length-all [] = refl
length-all (l ∷ lots) =
    let joined = ap length (flat_map-cons serials_of l lots) ∙ length-append (serials_of l) (flat_map serials_of lots) in
    omega (arith, joined, length-serials l.first l.count, length-all lots, sum_by-cons (λ (m : Lot). m.count) l lots)

has_serial : (first n q : ℕ) → first ≤ q → q < first + n → has (serials first n) q ≡ true
has_serial first zero q low high = absurd (omega arith)
has_serial first (suc n) q low high = elim (cases_Bool (q == first)) [
  | inl here ↦ or_left (q == first) (has (serials (first + 1) n) q) here
  | inr other ↦ or_right (q == first) (has (serials (first + 1) n) q) (has_serial (first + 1) n q (grind (arith, nat_tests)) (omega arith))
]

-- A blank of the first lot or of a later lot is one of all serials.
pub has_first : (q : ℕ) (l : Lot) (lots : List Lot) → is_in q l ≡ true → has (flat_map serials_of (l ∷ lots)) q ≡ true
has_first q l lots inside =
    ap (λ xs. has xs q) (flat_map-cons serials_of l lots) ∙ list_any-append (λ x. q == x) (serials_of l) (flat_map serials_of lots)
    ∙ or_left (has (serials_of l) q) (has (flat_map serials_of lots) q) (has_serial l.first l.count q (grind (arith, nat_tests)) (grind (arith, nat_tests)))

pub has_later : (q : ℕ) (l : Lot) (lots : List Lot) → has (flat_map serials_of lots) q ≡ true → has (flat_map serials_of (l ∷ lots)) q ≡ true
has_later q l lots there =
    ap (λ xs. has xs q) (flat_map-cons serials_of l lots) ∙ list_any-append (λ x. q == x) (serials_of l) (flat_map serials_of lots)
    ∙ or_right (has (serials_of l) q) (has (flat_map serials_of lots) q) there
