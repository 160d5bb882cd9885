-- The rows of lots and blanks in the image of sound facts pass the audit.
use Rattle.std.proofs.Common.{◌≡◌, ◌≢◌, ℕ, true, false, not, List, ◌++◌, get_or, map, count_by, filter, All, refl, sym, ap, ◌∙◌, subst, append-nil, IsPermutation}
use Rattle.std.specs.Prelude.{AllPairs, Bool, IsSome}
use Rattle.std.proofs.lemmas.List.Elements.{All-append, All-map, filter-append}
use Rattle.std.proofs.lemmas.Simd.{map-map}
use Rattle.store_data.proofs.FaultLemmas.{All-from_map}
use Rattle.store_data.proofs.PieceLemmas.{sum_by-map}
use Rattle.job_facts.specs.declared.facts.Lot.{Lot}
use Rattle.job_facts.specs.Contents.{Contents}
use Rattle.job_facts.specs.Facts.{Facts, Session}
use Rattle.job_facts.specs.Sound.{AreLots, IsSound}
use Rattle.job_facts.specs.States.{is_in, lot_of}
use Rattle.step_laws.specs.Sums.{discarded_in}
use Rattle.table_rows.specs.Tables.{StoredBlank, StoredLot, StoredSession}
use Rattle.image_laws.specs.Image.{image, lot_name, name_of, sessions_by_id, stored_blank, stored_blanks, stored_lot, stored_lots, stored_session, stored_sessions}
use Rattle.image_laws.proofs.Found.{some_there}
use Rattle.image_laws.proofs.Lists.{unmoved}
use Rattle.image_laws.proofs.Lookups.{none_pass}
use Rattle.image_laws.specs.Decided.{discarded_rows}
use Rattle.row_laws.proofs.BlankRows.{lots_are, serials_are}
use Rattle.row_laws.proofs.Finding.{AllPairs-from_map, filter_all, unnumbered}
use Rattle.audit_laws.specs.Audited.{IsAuditedBlank, IsAuditedLot, opened_rows}

module _ (c : Contents) (sound : IsSound c.facts) where
  abbrev f : Facts
  f = c.facts

  abbrev serial : StoredBlank → ℕ
  serial b = b.serial

  abbrev opened : Session → StoredBlank
  opened s = stored_blank f false s.blank

  -- ---- blanks of sessions, and discarded blanks

  rows_out : discarded_rows (stored_blanks f) ≡ map (stored_blank f true) f.discarded
  unfolding stored_blanks
  rows_out =
      let is_out : StoredBlank → Bool = λ b. b.discarded in
      let out : List StoredBlank = map (stored_blank f true) f.discarded in
      filter-append is_out (map opened f.sessions) out
      ∙ ap (λ bs. bs ++ filter is_out out) (none_pass opened is_out f.sessions (λ s. refl))
      ∙ filter_all is_out out (All-map (λ b. is_out b ≡ true) (stored_blank f true) f.discarded (λ k d within. refl))

  rows_opened : opened_rows (stored_blanks f) ≡ map opened f.sessions
  unfolding stored_blanks
  rows_opened =
      let stays : StoredBlank → Bool = λ b. not b.discarded in
      let used : List StoredBlank = map opened f.sessions in
      filter-append stays used (map (stored_blank f true) f.discarded)
      ∙ ap (λ bs. filter stays used ++ bs) (none_pass (stored_blank f true) stays f.discarded (λ n. refl))
      ∙ append-nil (filter stays used)
      ∙ filter_all stays used (All-map (λ b. stays b ≡ true) opened f.sessions (λ k d within. refl))

  blanks_of_sessions : map (λ (s : StoredSession). s.serial) (stored_sessions f) ≡ map (λ (s : Session). s.blank) f.sessions
  unfolding stored_sessions
  blanks_of_sessions =
      map-map (λ (s : StoredSession). s.serial) (stored_session f) (sessions_by_id f)
      ∙ sym (map-map (λ (s : Session). s.blank) (λ (e : ℕ × Session). e.1) (sessions_by_id f))
      ∙ ap (map (λ (s : Session). s.blank)) (unnumbered 1 f.sessions)

  pub opened_audited
      : IsPermutation (map serial (opened_rows (stored_blanks f))) (map (λ (s : StoredSession). s.serial) (stored_sessions f))
  opened_audited = unmoved _ _ (ap (map serial) rows_opened ∙ map-map serial opened f.sessions ∙ sym blanks_of_sessions)

  -- ---- lots

  pub lots_back : AreLots f.products (map (λ (l : StoredLot). l.lot) (stored_lots f))
  lots_back = subst (AreLots f.products) (sym (lots_are f)) sound.named.lots

  discarded_agree : (l : Lot) → discarded_in f l ≡ count_by (λ (b : StoredBlank). is_in b.serial l) (discarded_rows (stored_blanks f))
  discarded_agree l =
      sym (ap (count_by (λ (b : StoredBlank). is_in b.serial l)) rows_out ∙ sum_by-map _ (stored_blank f true) f.discarded)

  pub lots_audited : All (IsAuditedLot (image c)) (stored_lots f)
  unfolding stored_lots
  lots_audited = All-map (IsAuditedLot (image c)) (stored_lot f) f.lots (λ k d within. discarded_agree (get_or f.lots k d))

  -- ---- blanks

  pub blanks_apart : AllPairs (λ (b d : StoredBlank). b.serial ≢ d.serial) (stored_blanks f)
  blanks_apart =
      let apart : ℕ → ℕ → Type 0 = λ a b. a ≢ b in
      AllPairs-from_map apart serial (stored_blanks f) (subst (AllPairs apart) (sym (serials_are f)) sound.sessions.charged_once)

  lots_named : All (λ (b : StoredBlank). b.lot ≡ lot_name f b.serial) (stored_blanks f)
  unfolding stored_blanks
  lots_named = All-append (λ (b : StoredBlank). b.lot ≡ lot_name f b.serial) (map opened f.sessions) (map (stored_blank f true) f.discarded)
      (All-map (λ (b : StoredBlank). b.lot ≡ lot_name f b.serial) opened f.sessions (λ k d within. refl))
      (All-map (λ (b : StoredBlank). b.lot ≡ lot_name f b.serial) (stored_blank f true) f.discarded (λ k d within. refl))

  in_lots : All (λ (b : StoredBlank). IsSome (lot_of f.lots b.serial)) (stored_blanks f)
  in_lots =
      let has_lot : ℕ → Type 0 = λ n. IsSome (lot_of f.lots n) in
      All-from_map serial has_lot (stored_blanks f) (subst (All has_lot) (sym (serials_are f)) sound.sessions.charged_lots)

  blank_audited : (b : StoredBlank) → b.lot ≡ lot_name f b.serial → IsSome (lot_of f.lots b.serial) → IsAuditedBlank (image c) b
  blank_audited b named some =
      let there = some_there (lot_of f.lots b.serial) some in
      record { lot = there.0; lot_is = ap (λ lots. lot_of lots b.serial) (lots_are f) ∙ there.1; named = sym (named ∙ ap name_of there.1) }

  pub blanks_audited : All (IsAuditedBlank (image c)) (stored_blanks f)
  blanks_audited k d within = blank_audited (get_or (stored_blanks f) k d) (lots_named k d within) (in_lots k d within)
