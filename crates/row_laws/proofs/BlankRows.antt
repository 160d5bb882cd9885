-- Look-ups of blanks by serial, and of lots by name and by range.
use Rattle.std.proofs.Common.{◌≡◌, ◌≢◌, ℕ, ◌==◌, Bool, true, false, ◌||◌, List, [], ◌∷◌, ◌++◌, get_or, map, Option, Some, None, inl, inr, refl, sym, ap, ◌∙◌, subst, arith}
use Rattle.std.specs.Prelude.{AllPairs, bytes_eq, find, is_some, option_map}
use Rattle.std.specs.List.{list_any}
use Rattle.std.proofs.lemmas.Bool.{cases_Bool}
use Rattle.std.proofs.lemmas.Bool.Decides.{nat_tests}
use Rattle.std.proofs.lemmas.List.{map-append, map-id}
use Rattle.std.proofs.lemmas.List.Folds.{list_any-append}
use Rattle.std.proofs.lemmas.Simd.{map-map}
use Rattle.store_data.proofs.FaultLemmas.{list_any-map}
use Rattle.store_data.proofs.GroupLemmas.{bytes_eq-same}
use Rattle.job_facts.specs.declared.facts.Lot.{Lot}
use Rattle.job_facts.specs.Facts.{Facts, Session}
use Rattle.job_facts.specs.Sound.{IsSound, charges}
use Rattle.job_facts.specs.States.{any_overlaps, is_charged, is_in, lot_named, lot_of}
use Rattle.job_facts.proofs.Lists.{mapped}
use Rattle.step_laws.specs.Sums.{discarded_in}
use Rattle.step_laws.proofs.BlankSums.{apart_once, named_once}
use Rattle.table_rows.specs.Keys.{is_blank, is_lot_across, is_lot_around, is_lot_named}
use Rattle.table_rows.specs.Tables.{PassesOnce, StoredBlank, StoredLot}
use Rattle.image_laws.specs.Image.{stored_blank, stored_blanks, stored_lot, stored_lots}
use Rattle.row_laws.proofs.Finding.{AllPairs-from_map, AllPairs-map, find-map, found_also}

is_some_found : {X : Type 0} (p : X → Bool) (xs : List X) → is_some (find p xs) ≡ list_any p xs
is_some_found p [] = refl
is_some_found p (x ∷ xs) = elim (cases_Bool (p x)) [ inl hit ↦ rw hit refl | inr miss ↦ rw miss (is_some_found p xs) ]

module _ (f : Facts) where
  -- ---- blanks

  pub charged_in_rows : (n : ℕ) → is_charged f n ≡ list_any (is_blank n) (stored_blanks f)
  unfolding stored_blanks
  charged_in_rows n =
      let opened : Session → StoredBlank = λ s. stored_blank f false s.blank in
      sym (list_any-append (is_blank n) (map opened f.sessions) (map (stored_blank f true) f.discarded)
      ∙ ap (λ b. b || list_any (is_blank n) (map (stored_blank f true) f.discarded)) (list_any-map (is_blank n) opened f.sessions)
      ∙ ap (λ b. list_any (λ (s : Session). s.blank == n) f.sessions || b) (list_any-map (is_blank n) (stored_blank f true) f.discarded))

  pub charged_found : (n : ℕ) → is_charged f n ≡ is_some (find (is_blank n) (stored_blanks f))
  charged_found n = charged_in_rows n ∙ sym (is_some_found (is_blank n) (stored_blanks f))

  pub serials_are : map (λ (b : StoredBlank). b.serial) (stored_blanks f) ≡ charges f
  unfolding stored_blanks
  serials_are =
      let serial : StoredBlank → ℕ = λ b. b.serial in
      let opened : Session → StoredBlank = λ s. stored_blank f false s.blank in
      map-append serial (map opened f.sessions) (map (stored_blank f true) f.discarded)
      ∙ ap (λ ns. ns ++ map serial (map (stored_blank f true) f.discarded)) (map-map serial opened f.sessions)
      ∙ ap (λ ns. map (λ (s : Session). s.blank) f.sessions ++ ns) (map-map serial (stored_blank f true) f.discarded ∙ map-id f.discarded)

  serial_alone : (n a b : ℕ) → a ≢ b → (a == n) ≡ true → (b == n) ≡ false
  serial_alone n a b apart hit = grind (arith, nat_tests)

  pub blank_once : IsSound f → (n : ℕ) → PassesOnce (is_blank n) (stored_blanks f)
  blank_once sound n =
      let apart = AllPairs-from_map (λ (a b : ℕ). a ≢ b) (λ (b : StoredBlank). b.serial) (stored_blanks f) (subst (AllPairs (λ (a b : ℕ). a ≢ b)) (sym serials_are) sound.sessions.charged_once) in
      λ i j d before within. serial_alone n _ _ (apart i j d before within)

  -- ---- lots

  pub lots_are : map (λ (l : StoredLot). l.lot) (stored_lots f) ≡ f.lots
  unfolding stored_lots
  lots_are = map-map (λ (l : StoredLot). l.lot) (stored_lot f) f.lots ∙ map-id f.lots

  pub lot_name_once : IsSound f → (n : List ℕ) → PassesOnce (is_lot_named n) (stored_lots f)
  unfolding stored_lots
  lot_name_once sound n =
      AllPairs-map (λ (x y : StoredLot). is_lot_named n x ≡ true → is_lot_named n y ≡ false) (stored_lot f) f.lots
      (named_once (λ (l : Lot). l.name) f.lots n sound.named.lots.once)

  pub lot_around_once : IsSound f → (serial : ℕ) → PassesOnce (is_lot_around serial) (stored_lots f)
  unfolding stored_lots
  lot_around_once sound serial =
      AllPairs-map (λ (x y : StoredLot). is_lot_around serial x ≡ true → is_lot_around serial y ≡ false) (stored_lot f) f.lots
      (λ i j d before within. apart_once serial (get_or f.lots i d) (get_or f.lots j d) (sound.named.lots.apart i j d before within))

  pub named_lot : (n : List ℕ) → find (is_lot_named n) (stored_lots f) ≡ option_map (stored_lot f) (lot_named f.lots n)
  unfolding stored_lots
  named_lot n = find-map (is_lot_named n) (stored_lot f) f.lots

  pub lot_around : (serial : ℕ) → find (is_lot_around serial) (stored_lots f) ≡ option_map (stored_lot f) (lot_of f.lots serial)
  unfolding stored_lots
  lot_around serial = find-map (is_lot_around serial) (stored_lot f) f.lots

  own_lot : (o : Option Lot) → option_map (λ (l : StoredLot). l.lot) (option_map (stored_lot f) o) ≡ o
  own_lot None = refl
  own_lot (Some l) = refl

  pub lot_named_in_rows : (n : List ℕ) → lot_named f.lots n ≡ option_map (λ (l : StoredLot). l.lot) (find (is_lot_named n) (stored_lots f))
  lot_named_in_rows n = sym (ap (option_map (λ (l : StoredLot). l.lot)) (named_lot n) ∙ own_lot (lot_named f.lots n))

  pub lot_of_in_rows : (serial : ℕ) → lot_of f.lots serial ≡ option_map (λ (l : StoredLot). l.lot) (find (is_lot_around serial) (stored_lots f))
  lot_of_in_rows serial = sym (ap (option_map (λ (l : StoredLot). l.lot)) (lot_around serial) ∙ own_lot (lot_of f.lots serial))

  pub overlaps_in_rows : (first count : ℕ) → any_overlaps f.lots first count ≡ list_any (is_lot_across first count) (stored_lots f)
  unfolding stored_lots
  overlaps_in_rows first count = sym (list_any-map (is_lot_across first count) (stored_lot f) f.lots)

  pub overlaps_found : (first count : ℕ) → any_overlaps f.lots first count ≡ is_some (find (is_lot_across first count) (stored_lots f))
  overlaps_found first count = overlaps_in_rows first count ∙ sym (is_some_found (is_lot_across first count) (stored_lots f))

  -- A look-up of the name of the lot that contains a blank finds this lot.
  pub own_name_found : IsSound f → (serial : ℕ) (l : Lot) → lot_of f.lots serial ≡ Some l → lot_named f.lots l.name ≡ Some l
  own_name_found sound serial l at =
      found_also (λ (m : Lot). bytes_eq m.name l.name) (is_in serial) f.lots l (named_once (λ (m : Lot). m.name) f.lots l.name sound.named.lots.once) at (bytes_eq-same l.name)

  pub discarded_in_rows : (n : List ℕ) (row : StoredLot) → find (is_lot_named n) (stored_lots f) ≡ Some row → (lot_named f.lots n ≡ Some row.lot) × (row.discarded ≡ discarded_in f row.lot)
  discarded_in_rows n row at =
      let it = mapped (stored_lot f) (lot_named f.lots n) row (sym (named_lot n) ∙ at) in
      (it.1 ∙ ap (λ (l : StoredLot). Some l.lot) it.2, subst (λ (l : StoredLot). l.discarded ≡ discarded_in f l.lot) it.2 refl)
