-- Lemmas about lots that share no serial: only the last lot that begins at or before a serial can
-- contain it.
use Rattle.std.proofs.Common.{◌≡◌, ℕ, ◌≤◌, ◌<◌, ◌^◌, Bool, true, false, cond, List, [], ◌∷◌, get_or, All, Contains, Option, Some, None, MatchOption, option_to_list, inl, inr, refl, sym, ap, ◌∙◌, arith}
use Rattle.std.specs.Prelude.{filter, find}
use Rattle.std.proofs.lemmas.Bool.{cases_Bool, cond-false, cond-true, false_from_ne_true}
use Rattle.std.proofs.lemmas.Bool.Decides.{nat_tests}
use Rattle.std.proofs.lemmas.List.Elements.{All-contains, All-filter, All-head, All-tail, filter_passes}
use Rattle.std.proofs.lemmas.List.Kept.{AllPairs-filter}
use Rattle.std.proofs.lemmas.Option.{same_Some}
use Rattle.store_data.specs.declared.row.Product.{Product}
use Rattle.job_facts.specs.declared.facts.Lot.{Lot}
use Rattle.job_facts.specs.Sound.{AreLots, IsLot}
use Rattle.job_facts.specs.States.{is_in, lot_of}
use Rattle.step_laws.proofs.BlankSums.{apart_once}
use Rattle.step_laws.proofs.Permuted.{PassAlone}
use Rattle.table_rows.proofs.Found.{find_none}
use Rattle.image_laws.proofs.Places.{found_alone, once_of}
use Rattle.row_reads.specs.Extremes.{IsLastBegun, begins_by}

-- ---- lists

-- the slice of an optional value
pub listed : {X : Type 0} (o : Option X) (xs : List X) → MatchOption o (xs ≡ []) (λ x. xs ≡ x ∷ []) → xs ≡ option_to_list o
listed None xs is = is
listed (Some x) xs is = is

-- if every element that passes `p` also passes `q`
find_among : {X : Type 0} (p q : X → Bool) (xs : List X) → All (λ x. p x ≡ true → q x ≡ true) xs → find p (filter q xs) ≡ find p xs
find_among p q [] all = refl
find_among p q (x ∷ xs) all =
    let more = find_among p q xs (All-tail (λ y. p y ≡ true → q y ≡ true) x xs all) in
    elim (cases_Bool (q x)) [
      | inl hit ↦ rw hit (ap (cond (p x) (Some x)) more)
      | inr miss ↦
          let none : p x ≡ false = false_from_ne_true (p x) (λ yes. cc (miss, All-head (λ y. p y ≡ true → q y ≡ true) x xs all yes)) in
          rw (miss, none) more
    ]

-- ---- lots

begins_before : (blank n : ℕ) (l : Lot) → n ≤ blank → begins_by n l ≡ true → l.first ≤ blank
begins_before blank n l low begun = grind (arith, nat_tests)

has_first : (l : Lot) → 1 ≤ l.count → is_in l.first l ≡ true
has_first l some = grind (arith, nat_tests)

begun_earlier : (blank : ℕ) (l m : Lot) → l.first ≤ blank → m.first ≤ l.first → is_in l.first m ≡ false → is_in blank m ≡ false
begun_earlier blank l m begun earlier outside = grind (arith, nat_tests)

module _ (products : List Product) (lots : List Lot) (are : AreLots products lots) (blank n : ℕ) (low : n ≤ blank) (high : (m : ℕ) → m ≤ blank → m < 10 ^ 18 → m ≤ n) where
  abbrev begun : List Lot
  begun = filter (begins_by n) lots

  -- a lot that contains `blank` begins at or before `n`
  contains_begun : (l : Lot) → IsLot products l → is_in blank l ≡ true → begins_by n l ≡ true
  contains_begun l is inside =
      let least : l.first ≤ blank = grind (arith, nat_tests) in
      let some = is.least in
      let range = is.range in
      let early : l.first ≤ n = high l.first least (omega arith) in
      grind (arith, nat_tests)

  among_begun : lot_of begun blank ≡ lot_of lots blank
  among_begun = find_among (is_in blank) (begins_by n) lots (λ k d within. contains_begun _ (are.each k d within))

  found : (serial : ℕ) → All (λ (l : Lot). is_in serial l ≡ true → lot_of begun serial ≡ Some l) begun
  found serial =
      found_alone (is_in serial) begun (once_of (is_in serial) begun (AllPairs-filter (PassAlone (is_in serial)) (begins_by n) lots
      (λ i j d before within. apart_once serial (get_or lots i d) (get_or lots j d) (are.apart i j d before within))))

  found_one : (serial : ℕ) (l : Lot) → Contains begun l → is_in serial l ≡ true → lot_of begun serial ≡ Some l
  found_one serial l there inside = All-contains (λ (m : Lot). is_in serial m ≡ true → lot_of begun serial ≡ Some m) begun l (found serial) there inside

  -- if the last lot doesn't contain `blank`, no other lot does
  none_contains : (l : Lot) → Contains begun l → All (λ (m : Lot). m.first ≤ l.first) begun → is_in blank l ≡ false → All (λ (m : Lot). is_in blank m ≡ false) begun
  none_contains l there last outside k d within =
      let is = All-contains (IsLot products) begun l (All-filter (begins_by n) (IsLot products) lots are.each) there in
      let early = begins_before blank n l low (All-contains (λ (m : Lot). begins_by n m ≡ true) begun l (filter_passes (begins_by n) lots) there) in
      let m : Lot = get_or begun k d in
      elim (cases_Bool (is_in l.first m)) [
        | inl inside ↦ ap (is_in blank) (same_Some m l (sym (found l.first k d within inside) ∙ found_one l.first l there (has_first l is.least))) ∙ outside
        | inr before ↦ begun_earlier blank l m early (last k d within) before
      ]

  pub last_contains : (last : Option Lot) → IsLastBegun n lots last → lot_of (option_to_list last) blank ≡ lot_of lots blank
  last_contains None none = ap (λ ls. lot_of ls blank) (sym none) ∙ among_begun
  last_contains (Some l) last = elim (cases_Bool (is_in blank l)) [
    | inl inside ↦ cond-true (is_in blank l) (Some l) None inside ∙ sym (found_one blank l last.0 inside) ∙ among_begun
    | inr outside ↦ cond-false (is_in blank l) (Some l) None outside ∙ sym (find_none (is_in blank) begun (none_contains l last.0 last.1 outside)) ∙ among_begun
  ]
