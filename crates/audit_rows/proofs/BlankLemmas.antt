-- The blanks of lots and sessions, compared by their serials.
use Rattle.std.proofs.Common.{◌≡◌, ◌≢◌, ℕ, ◌+◌, ◌<◌, Bool, true, false, cond, ltb, List, [], get_or, map, All, sym, ◌∙◌, subst, arith}
use Rattle.std.specs.Prelude.{AllPairs, IsPermutation, count_by}
use Rattle.std.specs.List.{IsAllAdjacentAnswer}
use Rattle.std.specs.List.Sorted.{IsNonDecreasing, IsNonDecreasingBy}
use Rattle.std.proofs.lemmas.Bool.Decides.{nat_tests}
use Rattle.std.proofs.lemmas.List.Sorted.{IsPermutation-sym, IsPermutation-trans, sum_by-IsPermutation}
use Rattle.job_facts.specs.States.{is_in}
use Rattle.table_rows.specs.Tables.{StoredBlank, StoredLot}
use Rattle.image_laws.specs.Decided.{discarded_rows}
use Rattle.row_laws.proofs.TotalRows.{sum_by-map}
use Rattle.audit_order.proofs.Tested.{granted, refused}
use Rattle.audit_rows.proofs.SortedLemmas.{sorted_same}

-- ---- counters

module _ (lots : List StoredLot) (blanks : List StoredBlank) (serials : List ℕ) (same : IsPermutation (map (λ (b : StoredBlank). b.serial) (discarded_rows blanks)) serials) where
  counted : (l : StoredLot) → count_by (λ serial. is_in serial l.lot) serials ≡ count_by (λ (b : StoredBlank). is_in b.serial l.lot) (discarded_rows blanks)
  counted l =
      sum_by-IsPermutation (λ serial. cond (is_in serial l.lot) 1 0) (map (λ (b : StoredBlank). b.serial) (discarded_rows blanks)) serials same
      ∙ sum_by-map (λ serial. cond (is_in serial l.lot) 1 0) (λ (b : StoredBlank). b.serial) (discarded_rows blanks)

  pub by_rows : All (λ (l : StoredLot). l.discarded ≡ count_by (λ serial. is_in serial l.lot) serials) lots
      → All (λ (l : StoredLot). l.discarded ≡ count_by (λ (b : StoredBlank). is_in b.serial l.lot) (discarded_rows blanks)) lots
  by_rows all = λ k d within. all k d within ∙ counted (get_or lots k d)

  pub by_serials : All (λ (l : StoredLot). l.discarded ≡ count_by (λ (b : StoredBlank). is_in b.serial l.lot) (discarded_rows blanks)) lots
      → All (λ (l : StoredLot). l.discarded ≡ count_by (λ serial. is_in serial l.lot) serials) lots
  by_serials all = λ k d within. all k d within ∙ sym (counted (get_or lots k d))

-- ---- equal sets of serials

pub same_if : (xs ys us vs : List ℕ) → IsPermutation xs us → IsPermutation ys vs → us ≡ vs → IsPermutation xs ys
same_if xs ys us vs to_us to_vs same =
    IsPermutation-trans xs vs ys (subst (IsPermutation xs) same to_us) (IsPermutation-sym ys vs to_vs)

pub same_only : (xs ys us vs : List ℕ) → IsPermutation xs us → IsPermutation ys vs → IsNonDecreasing us → IsNonDecreasing vs → IsPermutation xs ys → us ≡ vs
same_only xs ys us vs to_us to_vs up_u up_v same =
    sorted_same us vs up_u up_v (IsPermutation-trans us xs vs (IsPermutation-sym xs us to_us) (IsPermutation-trans xs ys vs same to_vs))

-- ---- serials without duplicates

some_blank : StoredBlank
some_blank = record { serial = 0; lot = []; discarded = false }

-- Serials in ascending order are distinct if and only if each is below the next.
pub rising_once : (blanks : List StoredBlank) (r : Bool) → IsNonDecreasingBy (λ (b : StoredBlank). b.serial) blanks → IsAllAdjacentAnswer (λ (b c : StoredBlank) below. below ≡ ltb b.serial c.serial) blanks r
    → (r ≡ true → AllPairs (λ (b c : StoredBlank). b.serial ≢ c.serial) blanks) × (AllPairs (λ (b c : StoredBlank). b.serial ≢ c.serial) blanks → r ≡ true)
rising_once blanks true rising each = granted (λ i j d before within same.
    let below = each i d (omega arith) in
    let up = rising (i + 1) j d (omega arith) within in
    let less : (get_or blanks i d).serial < (get_or blanks (i + 1) d).serial = grind (arith, nat_tests) in
    absurd (omega arith))
rising_once blanks false rising (k, within, fails) = refused (λ pairs.
    let up = rising k (k + 1) some_blank (omega arith) within in
    let other = fails some_blank in
    absurd (pairs k (k + 1) some_blank (omega arith) within (grind (arith, nat_tests))))
