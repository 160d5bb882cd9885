-- The lot of a serial is the last one whose first serial is at most this serial.
use Rattle.std.proofs.Common.{◌≡◌, ℕ, ◌+◌, ◌-◌, ◌<◌, ◌≤◌, Bool, true, false, cond, leb, ltb, List, [], ◌∷◌, ◌++◌, length, take, drop, get_or, All, Some, None, inl, inr, refl, sym, ap, ◌∙◌, subst, arith}
use Rattle.std.specs.Prelude.{find, option_map, slice_get}
use Rattle.std.proofs.lemmas.Option.{none-some, slice_get-get_or}
use Rattle.std.specs.List.Sorted.{IsPartitionPoint}
use Rattle.std.proofs.lemmas.Bool.{and_left, and_right, cond-false}
use Rattle.std.proofs.lemmas.Bool.Decides.{nat_tests}
use Rattle.std.proofs.lemmas.List.{drop_more, get_or-drop, get_or-take, length-drop, length-take, length-take-le, take-append-drop}
use Rattle.std.proofs.lemmas.List.Elements.{All-head, All-tail}
use Rattle.job_facts.specs.declared.facts.Lot.{Lot}
use Rattle.job_facts.specs.Sound.{AreApart}
use Rattle.job_facts.specs.States.{is_in, lot_of}
use Rattle.table_rows.specs.Tables.{StoredLot}
use Rattle.table_rows.proofs.Found.{find_none}
use Rattle.row_laws.proofs.Finding.{find-map}
use Rattle.audit_order.specs.Order.{AreLotsInOrder, lots_of}

module _ {X : Type 0} (p : X → Bool) where
  find_past : (xs ys : List X) → All (λ x. p x ≡ false) xs → find p (xs ++ ys) ≡ find p ys
  find_past [] ys none = refl
  find_past (x ∷ xs) ys none =
      cond-false (p x) (Some x) (find p (xs ++ ys)) (All-head (λ y. p y ≡ false) x xs none) ∙ find_past xs ys (All-tail (λ y. p y ≡ false) x xs none)

module _ (lots : List StoredLot) (are : AreLotsInOrder lots) (serial : ℕ) where
  abbrev here : StoredLot → Bool
  here l = is_in serial l.lot

  by_rows : lot_of (lots_of lots) serial ≡ option_map (λ (l : StoredLot). l.lot) (find here lots)
  by_rows = find-map (is_in serial) (λ (l : StoredLot). l.lot) lots

  not_before : (l m : Lot) → AreApart l m → l.first ≤ m.first → m.first ≤ serial → 1 ≤ m.count → is_in serial l ≡ false
  not_before l m (inl ends) rising begun some = and_right (leb l.first serial) (ltb serial (l.first + l.count)) (grind (arith, nat_tests))
  not_before l m (inr ends) rising begun some = absurd (omega arith)

  not_behind : (l : Lot) → serial < l.first → is_in serial l ≡ false
  not_behind l after = and_left (leb l.first serial) (ltb serial (l.first + l.count)) (grind (arith, nat_tests))

  abbrev IsPoint : ℕ → Type 0
  IsPoint count = IsPartitionPoint (λ (l : StoredLot). leb l.lot.first serial ≡ true) (λ (l : StoredLot). leb l.lot.first serial ≡ false) lots count

  module _ (count : ℕ) (within : count ≤ length lots) (point : IsPoint count) where
    behind : All (λ l. here l ≡ false) (drop count lots)
    behind = λ k d inside.
        let after = point.1 (count + k) d (omega arith) (omega (arith, length-drop count lots)) in
        rw (get_or-drop count lots k d) (not_behind (get_or lots (count + k) d).lot (grind (arith, nat_tests)))

    pub no_lot : count ≡ 0 → None ≡ lot_of (lots_of lots) serial
    no_lot none =
        let all : drop count lots ≡ lots = ap (λ n. drop n lots) none in
        sym (by_rows ∙ ap (option_map (λ (l : StoredLot). l.lot)) (find_none here lots (subst (All (λ l. here l ≡ false)) all behind)))

    pub last_is : (l : StoredLot) → true ≡ ltb 0 (length (take count lots)) → l ≡ get_or (take count lots) (length (take count lots) - 1) l → (k : ℕ) × (count ≡ k + 1) × (l ≡ get_or lots k l)
    last_is l some at =
        let long : length (take count lots) ≡ count = length-take-le count lots within in
        let more : 0 < count = let yes = some ∙ ap (ltb 0) long in grind (arith, nat_tests) in (
          count - 1,
          omega arith,
          at ∙ ap (λ n. get_or (take count lots) (n - 1) l) long ∙ get_or-take count lots (count - 1) l (omega arith),
        )

    begun_at : (k : ℕ) (l : StoredLot) → count ≡ k + 1 → l ≡ get_or lots k l → l.lot.first ≤ serial
    begun_at k l count_is at =
        let up = point.0 k l (omega arith) (omega arith) in
        let there : leb l.lot.first serial ≡ true = ap (λ (x : StoredLot). leb x.lot.first serial) at ∙ up in
        grind (arith, nat_tests)

    pub begun : (l : StoredLot) → true ≡ ltb 0 (length (take count lots)) → l ≡ get_or (take count lots) (length (take count lots) - 1) l → l.lot.first ≤ serial
    begun l some at = let last = last_is l some at in begun_at last.0 l last.1 last.2

    none_before : (k : ℕ) → count ≡ k + 1 → All (λ l. here l ≡ false) (take k lots)
    none_before k count_is = λ j d inside.
        let before : j < k = omega (arith, length-take k lots) in
        let up = point.0 k d (omega arith) (omega arith) in
        let low : (get_or lots k d).lot.first ≤ serial = grind (arith, nat_tests) in
        rw (get_or-take k lots j d before)
        (not_before (get_or lots j d).lot (get_or lots k d).lot (are.apart j k d before (omega arith)) (are.rising j k d (omega arith) (omega arith)) low (are.some k d (omega arith)))

    mapped : (l : StoredLot) (b : Bool) → option_map (λ (l : StoredLot). l.lot) (cond b (Some l) None) ≡ cond b (Some l.lot) None
    mapped l true = refl
    mapped l false = refl

    lot_at : (k : ℕ) (l : StoredLot) → count ≡ k + 1 → l ≡ get_or lots k l → lot_of (lots_of lots) serial ≡ cond (here l) (Some l.lot) None
    lot_at k l count_is at =
        let rest : drop k lots ≡ l ∷ drop count lots = drop_more lots k l (omega arith) ∙ ap (λ x. x ∷ drop (k + 1) lots) (sym at) ∙ ap (λ n. l ∷ drop n lots) (sym count_is) in
        by_rows
        ∙ ap (option_map (λ (l : StoredLot). l.lot))
        (ap (find here) (sym (take-append-drop k lots)) ∙ find_past here (take k lots) (drop k lots) (none_before k count_is) ∙ ap (find here) rest
        ∙ ap (cond (here l) (Some l)) (find_none here (drop count lots) behind))
        ∙ mapped l (here l)

    pub last_lot : (l : StoredLot) → true ≡ ltb 0 (length (take count lots)) → l ≡ get_or (take count lots) (length (take count lots) - 1) l
        → lot_of (lots_of lots) serial ≡ cond (is_in serial l.lot) (Some l.lot) None
    last_lot l some at = let last = last_is l some at in lot_at last.0 l last.1 last.2

    pub none_last : {X : Type 0} (ys : List X) → slice_get ys (length ys - 1) ≡ None → length ys ≡ 0
    none_last [] none = refl
    none_last (y ∷ ys) none = absurd (none-some _ (sym none ∙ slice_get-get_or (y ∷ ys) (length (y ∷ ys) - 1) y (omega arith)))

    pub no_last : slice_get (take count lots) (length (take count lots) - 1) ≡ None → None ≡ lot_of (lots_of lots) serial
    no_last none = no_lot (sym (length-take-le count lots within) ∙ none_last (take count lots) none)
