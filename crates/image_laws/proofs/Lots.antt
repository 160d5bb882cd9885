-- The rows after a lot is added, and after a blank is discarded.
use Rattle.std.proofs.Common.{◌≡◌, ℕ, ◌+◌, Bool, true, false, cond, List, [], ◌∷◌, ◌++◌, get_or, map, All, Some, inl, inr, refl, sym, ap, subst, ◌∙◌, arith, append_assoc, IsPermutation}
use Rattle.std.specs.Prelude.{AllPairs, IsSome, bytes_eq}
use Rattle.std.proofs.lemmas.Bool.{both_ways, cases_Bool, false_from_ne_true}
use Rattle.std.proofs.lemmas.List.{map-append}
use Rattle.std.proofs.lemmas.List.Elements.{All-weaker}
use Rattle.std.proofs.lemmas.List.Folds.{list_any_none}
use Rattle.std.proofs.lemmas.List.Sums.{sum_by_push}
use Rattle.std.proofs.lemmas.Simd.{map-map}
use Rattle.store_data.proofs.GroupLemmas.{bytes_eq-same}
use Rattle.job_facts.specs.declared.change.Change.TheVariants as change
use Rattle.job_facts.specs.declared.facts.Lot.{Lot}
use Rattle.job_facts.specs.Contents.{Contents}
use Rattle.job_facts.specs.Facts.{Facts, Session, with_discard, with_lot}
use Rattle.job_facts.specs.Sound.{AreApart, IsOfLot, IsSession, IsSound, IsSoundChange, changed}
use Rattle.job_facts.specs.States.{is_in, lot_named, lot_of}
use Rattle.job_facts.proofs.Lists.{All-right, count_by_none, find-All, find_kept, map_same}
use Rattle.step_laws.specs.Later.{KnowsMore}
use Rattle.step_laws.specs.Records.{StandsSame}
use Rattle.step_laws.specs.Sums.{discarded_in}
use Rattle.step_laws.proofs.BlankSums.{apart_once, named_once}
use Rattle.step_laws.proofs.ChangeStands.{others_same}
use Rattle.step_laws.proofs.Kept.{lot_knows, no_more, one_more}
use Rattle.step_laws.proofs.Permuted.{PassAlone}
use Rattle.table_rows.specs.After.{new_lot, rows_after}
use Rattle.table_rows.specs.Tables.{HaveSameRows, StoredBlank, StoredLot, lot_set}
use Rattle.table_rows.specs.declared.writing.Writing.TheVariants as writing
use Rattle.image_laws.specs.Image.{image, name_of, stored_blank, stored_blanks, stored_lot, stored_lots}
use Rattle.image_laws.specs.WritingOf.{AreDiscardedOf}
use Rattle.image_laws.proofs.Found.{found_alone, some_there, to_last}
use Rattle.image_laws.proofs.Lists.{knows_later, pushed, unmoved}
use Rattle.image_laws.proofs.Staying.{batches_stay, rows_stay, session_states_same}

-- A blank is in at most one lot.
lots_once : (f : Facts) → IsSound f → (blank : ℕ) → AllPairs (PassAlone (is_in blank)) f.lots
lots_once f sound blank i j d before within = apart_once blank (get_or f.lots i d) (get_or f.lots j d) (sound.named.lots.apart i j d before within)

-- ---- adding a lot

module _ (f : Facts) (l : Lot) (sound : IsSound f) (after : IsSound (with_lot f l)) where
  abbrev with_new : Facts
  with_new = with_lot f l

  abbrev HasLot : ℕ → Type 0
  HasLot blank = IsSome (lot_of f.lots blank)

  discarded_there : All HasLot f.discarded
  discarded_there = All-right HasLot (map (λ (s : Session). s.blank) f.sessions) f.discarded sound.sessions.charged_lots

  -- A blank in another lot isn't in the new lot.
  not_new : (blank : ℕ) → HasLot blank → is_in blank l ≡ false
  not_new blank has =
      let m = some_there (lot_of f.lots blank) has in
      let inside = found_alone (is_in blank) f.lots m.0 (lots_once f sound blank) m.1 in
      apart_once blank m.0 l (find-All (is_in blank) (λ n. AreApart n l) f.lots m.0 (to_last AreApart f.lots l after.named.lots.apart) m.1) inside.0

  none_discarded : discarded_in f l ≡ 0
  none_discarded =
      count_by_none (λ blank. is_in blank l) f.discarded
      (list_any_none (λ blank. is_in blank l) f.discarded (All-weaker HasLot (λ blank. is_in blank l ≡ false) not_new f.discarded discarded_there))

  lots_more : stored_lots with_new ≡ stored_lots f ++ new_lot l ∷ []
  unfolding stored_lots
  lots_more = map-append (stored_lot f) f.lots (l ∷ []) ∙ ap (λ n. map (stored_lot f) f.lots ++ record { lot = l; discarded = n } ∷ []) none_discarded

  -- The row of a charged blank names the same lot as before.
  blank_stays : (discarded : Bool) (blank : ℕ) (m : Lot) → lot_of f.lots blank ≡ Some m → stored_blank with_new discarded blank ≡ stored_blank f discarded blank
  blank_stays discarded blank m is =
      ap (λ o. record { serial = blank; lot = name_of o; discarded = discarded }) (find_kept (is_in blank) f.lots (l ∷ []) m is ∙ sym is)

  blanks_stay : stored_blanks with_new ≡ stored_blanks f
  unfolding stored_blanks
  blanks_stay =
      let opened : Facts → Session → StoredBlank = λ g s. stored_blank g false s.blank in
      let one : All (λ s. opened with_new s ≡ opened f s) f.sessions =
      All-weaker (IsSession f) (λ s. opened with_new s ≡ opened f s) (λ s is. blank_stays false s.blank is.lot is.lot_is) f.sessions sound.sessions.each in
      let other : All (λ blank. stored_blank with_new true blank ≡ stored_blank f true blank) f.discarded =
      All-weaker HasLot (λ blank. stored_blank with_new true blank ≡ stored_blank f true blank)
      (λ blank has. let m = some_there (lot_of f.lots blank) has in blank_stays true blank m.0 m.1) f.discarded discarded_there in
      ap (λ bs. bs ++ map (stored_blank with_new true) f.discarded) (map_same (opened with_new) (opened f) f.sessions one)
      ∙ ap (λ bs. map (opened f) f.sessions ++ bs) (map_same (stored_blank with_new true) (stored_blank f true) f.discarded other)

pub rows_after_lot : (c : Contents) (l : Lot) → IsSound c.facts → IsSoundChange c.facts (change.AddsLot l)
    → HaveSameRows (image (record c { facts = changed c.facts (change.AddsLot l) })) (rows_after (writing.AddsLot l) (image c))
rows_after_lot c l sound keeps =
    let f = c.facts in
    let g = with_lot f l in
    let stands : (b r : List ℕ) → StandsSame f g b r = λ b r. others_same f (change.AddsLot l) sound tt b r refl in
    let more = lot_knows f l in
    rows_stay f g sound more refl stands refl c.kept c.marks (unmoved _ _ refl)
    (subst (λ ls. IsPermutation ls (new_lot l ∷ stored_lots f)) (sym (lots_more f l sound keeps.sound)) (pushed (stored_lots f) (new_lot l)))
    (unmoved _ _ (batches_stay f g sound more refl stands (session_states_same f g sound more refl stands refl) refl))
    (unmoved _ _ (blanks_stay f l sound keeps.sound))

-- ---- discarding a blank

module _ (f : Facts) (blank : ℕ) (name : List ℕ) (sound : IsSound f) (of_lot : IsOfLot f blank name) (l : Lot) (named : lot_named f.lots name ≡ Some l) where
  abbrev with_out : Facts
  with_out = with_discard f blank

  -- Only the lot of the blank has the name `name`.
  lots_named : (bytes_eq l.name name ≡ true) × All (λ (m : Lot). bytes_eq m.name name ≡ true → m ≡ l) f.lots
  lots_named = found_alone (λ (m : Lot). bytes_eq m.name name) f.lots l (named_once (λ (m : Lot). m.name) f.lots name sound.named.lots.once) named

  lots_with : (is_in blank of_lot.0 ≡ true) × All (λ (m : Lot). is_in blank m ≡ true → m ≡ of_lot.0) f.lots
  lots_with = found_alone (is_in blank) f.lots of_lot.0 (lots_once f sound blank) of_lot.1

  of_lot_named : bytes_eq of_lot.0.name name ≡ true
  of_lot_named = ap (bytes_eq of_lot.0.name) (sym of_lot.2) ∙ bytes_eq-same of_lot.0.name

  same_lot : of_lot.0 ≡ l
  same_lot = find-All (is_in blank) (λ (m : Lot). bytes_eq m.name name ≡ true → m ≡ l) f.lots of_lot.0 lots_named.1 of_lot.1 of_lot_named

  one_more_in : (m : Lot) → discarded_in with_out m ≡ discarded_in f m + cond (is_in blank m) 1 0
  one_more_in m = sum_by_push (λ b. cond (is_in b m) 1 0) f.discarded blank

  abbrev set : StoredLot → StoredLot
  set = lot_set name (discarded_in f l + 1)

  -- the row of a lot after the discard
  lot_row : (m : Lot) → (bytes_eq m.name name ≡ true → m ≡ l) → (is_in blank m ≡ true → m ≡ of_lot.0) → stored_lot with_out m ≡ set (stored_lot f m)
  lot_row m by_name by_blank = elim (cases_Bool (bytes_eq m.name name)) [
    | inl hit ↦
        let here : m ≡ l = by_name hit in
        let inside : is_in blank m ≡ true = ap (is_in blank) (here ∙ sym same_lot) ∙ lots_with.0 in
        let one : cond {A = ℕ} (is_in blank m) 1 0 ≡ 1 = ap (λ b. cond {A = ℕ} b 1 0) inside in
        let count : discarded_in with_out m ≡ discarded_in f l + 1 = omega (arith, one_more_in m, one, ap (discarded_in f) here) in
        ap (λ n. record { lot = m; discarded = n }) count
        ∙ sym (ap (λ b. cond b (record { lot = m; discarded = discarded_in f l + 1 }) (stored_lot f m)) hit)
    | inr miss ↦
        let outside : is_in blank m ≡ false = false_from_ne_true (is_in blank m) (λ inside.
        both_ways (bytes_eq m.name name) miss (ap (λ (k : Lot). bytes_eq k.name name) (by_blank inside) ∙ of_lot_named)) in
        let none : cond {A = ℕ} (is_in blank m) 1 0 ≡ 0 = ap (λ b. cond {A = ℕ} b 1 0) outside in
        let count : discarded_in with_out m ≡ discarded_in f m = omega (arith, one_more_in m, none) in
        ap (λ n. record { lot = m; discarded = n }) count
        ∙ sym (ap (λ b. cond b (record { lot = m; discarded = discarded_in f l + 1 }) (stored_lot f m)) miss)
  ]

  lots_set : stored_lots with_out ≡ map set (stored_lots f)
  unfolding stored_lots
  lots_set =
      map_same (stored_lot with_out) (λ m. set (stored_lot f m)) f.lots (λ k d within. lot_row _ (lots_named.1 k d within) (lots_with.1 k d within))
      ∙ sym (map-map set (stored_lot f) f.lots)

  abbrev out : StoredBlank
  out = record { serial = blank; lot = name; discarded = true }

  blank_row : stored_blank f true blank ≡ out
  blank_row = ap (λ o. record { serial = blank; lot = name_of o; discarded = true }) of_lot.1 ∙ ap (λ n. record { serial = blank; lot = n; discarded = true }) of_lot.2

  blanks_more : stored_blanks with_out ≡ stored_blanks f ++ out ∷ []
  unfolding stored_blanks
  blanks_more =
      let opened : List StoredBlank = map (λ (s : Session). stored_blank f false s.blank) f.sessions in
      ap (λ bs. opened ++ bs) (map-append (stored_blank f true) f.discarded (blank ∷ []))
      ∙ ap (λ b. opened ++ (map (stored_blank f true) f.discarded ++ b ∷ [])) blank_row
      ∙ sym (append_assoc opened (map (stored_blank f true) f.discarded) (out ∷ []))

  knows_out : KnowsMore f with_out
  knows_out = knows_later f _ _ _ (one_more f.discarded blank) (no_more f.closed)

pub rows_after_discard : (c : Contents) (blank : ℕ) (name : List ℕ) (discarded : ℕ) → IsSound c.facts → IsSoundChange c.facts (change.Discards blank name) → AreDiscardedOf c.facts name discarded
    → HaveSameRows (image (record c { facts = changed c.facts (change.Discards blank name) })) (rows_after (writing.Discards blank name discarded) (image c))
rows_after_discard c blank name discarded sound keeps is =
    let f = c.facts in
    let g = with_discard f blank in
    let stands : (b r : List ℕ) → StandsSame f g b r = λ b r. others_same f (change.Discards blank name) sound keeps.before b r refl in
    let more = knows_out f blank name sound keeps.before is.0 is.1 in
    rows_stay f g sound more refl stands refl c.kept c.marks (unmoved _ _ refl)
    (unmoved _ _ (lots_set f blank name sound keeps.before is.0 is.1 ∙ ap (λ n. map (lot_set name (n + 1)) (stored_lots f)) (sym is.2)))
    (unmoved _ _ (batches_stay f g sound more refl stands (session_states_same f g sound more refl stands refl) refl))
    (subst (λ bs. IsPermutation bs (out f blank name sound keeps.before is.0 is.1 ∷ stored_blanks f)) (sym (blanks_more f blank name sound keeps.before is.0 is.1))
    (pushed (stored_blanks f) (record { serial = blank; lot = name; discarded = true })))
