-- The lines of the records of a batch, from the rows of its records and good sessions.
use Rattle.std.proofs.Common.{◌≡◌, ℕ, ◌+◌, ◌<◌, ◌==◌, Bool, true, false, ◌&&◌, List, get_or, length, map, All, Option, Some, None, inl, inr, refl, sym, ap, ◌∙◌, subst, arith}
use Rattle.std.specs.Prelude.{AllPairs, bytes_eq, count_by, filter, find, option_map, slice_get}
use Rattle.std.specs.List.{enumerate_from, list_any, position_or_len}
use Rattle.std.proofs.Math.Bool.{and_comm}
use Rattle.std.proofs.lemmas.Bool.{both_ways, cases_Bool, ne_eqb}
use Rattle.std.proofs.lemmas.List.{length-map}
use Rattle.std.proofs.lemmas.List.Elements.{All-weaker}
use Rattle.std.proofs.lemmas.List.Folds.{find_at, list_any_at}
use Rattle.std.proofs.lemmas.List.FromFn.{get_or-enumerate_from, length-enumerate_from}
use Rattle.std.proofs.lemmas.List.Sums.{position_or_len_is}
use Rattle.std.proofs.lemmas.Option.{same_Some}
use Rattle.std.proofs.lemmas.Simd.{map-map}
use Rattle.store_data.proofs.GroupLemmas.{bytes_eq-same, same-bytes_eq}
use Rattle.job_facts.specs.declared.rows.RecordLine.{RecordLine}
use Rattle.job_facts.specs.Accounts.{record_line, record_lines, sessions_of}
use Rattle.job_facts.specs.Facts.{Batch, Facts, Session}
use Rattle.job_facts.specs.Sound.{IsSession, IsSound}
use Rattle.job_facts.specs.States.{batch_named, is_good, is_spoiled, is_withdrawn, record_state, records_named, records_under, remakes_of, session_state, states_of}
use Rattle.job_facts.proofs.Lists.{map_same}
use Rattle.job_facts.proofs.SoundFacts.{is_for}
use Rattle.step_laws.proofs.BlankSums.{bytes_eq_either}
use Rattle.table_rows.specs.Keys.{is_good_of, is_record_of}
use Rattle.table_rows.specs.Tables.{StoredRecord, StoredSession}
use Rattle.image_laws.specs.Image.{batch_id, place_in, sessions_by_id, stored_batch, stored_batches, stored_record, stored_records, stored_session, stored_sessions}
use Rattle.row_laws.specs.RowValues.{cards, line_of, lines_at, lines_in}
use Rattle.row_laws.proofs.BatchRecords.{rows_of_batch}
use Rattle.row_laws.proofs.BatchRows.{named_row, own_name}
use Rattle.row_laws.proofs.CardCounts.{cards_counted, spoiled_or_card}
use Rattle.row_laws.proofs.Finding.{find-filter, find-map, find_alike, found_numbered, unnumbered}
use Rattle.row_laws.proofs.GroupingRows.{place_alike}
use Rattle.row_laws.proofs.RecordRows.{equal_self, names_are, names_once}

-- ---- names and their places, in file order

places_own : (names : List (List ℕ)) → AllPairs (λ (m k : List ℕ). bytes_eq m k ≡ false) names
    → All (λ (e : ℕ × List ℕ). (list_any (bytes_eq e.1) names ≡ true) × (e.0 ≡ place_in names e.1)) (enumerate_from 0 names)
places_own names once k d within =
    let inside : k < length names = omega (arith, within, length-enumerate_from 0 names) in
    let n : List ℕ = get_or names k d.1 in
    let first : position_or_len (bytes_eq n) names ≡ k =
    position_or_len_is (bytes_eq n) names k d.1 (omega arith) (λ i before. bytes_eq_either n (get_or names i d.1) ∙ once i k d.1 before inside) (λ here. bytes_eq-same n) in
    let place : 0 + k ≡ place_in names n = omega (arith, first) in
    subst (λ (e : ℕ × List ℕ). (list_any (bytes_eq e.1) names ≡ true) × (e.0 ≡ place_in names e.1)) (sym (get_or-enumerate_from 0 names k d inside))
    (list_any_at (bytes_eq n) names k d.1 inside (bytes_eq-same n), place)

tests_turned : (g p : Bool) → (g && p) ≡ (p && g)
tests_turned g p = and_comm g p

module _ (f : Facts) where
  -- ---- batches by id

  pub id_alike : (b c : List ℕ) (x y : Batch) → batch_named f.batches b ≡ Some x → batch_named f.batches c ≡ Some y → (batch_id f.batches b == batch_id f.batches c) ≡ bytes_eq b c
  id_alike b c x y at_b at_c =
      let of_name : List ℕ → Batch → Bool = λ n batch. bytes_eq batch.name n in
      elim (cases_Bool (bytes_eq b c)) [
        | inl same ↦ ap (λ n. batch_id f.batches b == batch_id f.batches n) (sym (same-bytes_eq b c same)) ∙ equal_self (batch_id f.batches b) ∙ sym same
        | inr differ ↦
            ne_eqb (batch_id f.batches b) (batch_id f.batches c) (λ e.
            let places : position_or_len (of_name b) f.batches ≡ position_or_len (of_name c) f.batches = omega (arith, e) in
            let one : x ≡ y = same_Some x y (sym at_b ∙ find_at (of_name b) f.batches ∙ ap (slice_get f.batches) places ∙ sym (find_at (of_name c) f.batches) ∙ at_c) in
            let same : b ≡ c = sym (own_name f b x at_b) ∙ ap (λ (z : Batch). z.name) one ∙ own_name f c y at_c in
            both_ways (bytes_eq b c) differ (ap (bytes_eq b) (sym same) ∙ bytes_eq-same b)) ∙ sym differ
      ]

  -- ---- the number of sessions of a record

  states_many : (b r : List ℕ) → length (sessions_of f b r) ≡ length (states_of f b r)
  unfolding states_of
  states_many b r = sym (length-map (sessions_of f b r) (session_state f))

  pub sessions_many : IsSound f → (b r : List ℕ) → length (sessions_of f b r) ≡ count_by is_spoiled (states_of f b r) + cards (record_state f b r)
  unfolding record_state
  sessions_many sound b r =
      let counted = cards_counted (states_of f b r) (is_withdrawn f b r) (remakes_of f b r) (sound.states.records b r) in
      omega (arith, states_many b r, spoiled_or_card (states_of f b r), counted)

  -- ---- the blank of the good session of a record

  module _ (b r : List ℕ) (batch : Batch) (there : batch_named f.batches b ≡ Some batch) (among : list_any (bytes_eq r) (records_named f b) ≡ true) where
    abbrev id : ℕ
    id = batch_id f.batches b

    abbrev place : ℕ
    place = place_in (records_named f b) r

    -- The session is selected by ids and places; in `by_names`, by names.
    abbrev by_row : Session → Bool
    by_row s = ((batch_id f.batches s.batch == id) && is_good (session_state f s)) && (place_in (records_named f s.batch) s.rec == place)

    abbrev by_names : Session → Bool
    by_names s = is_for b r s && is_good (session_state f s)

    rows_alike : (s : Session) → IsSession f s → by_row s ≡ by_names s
    rows_alike s is =
        let good : Bool = is_good (session_state f s) in
        let at : Bool = place_in (records_named f s.batch) s.rec == place in
        let ids = id_alike s.batch b is.batch batch is.batch_is there in
        ap (λ t. (t && good) && at) ids
        ∙ elim (cases_Bool (bytes_eq s.batch b)) [
          | inl hit ↦
              let mine : s.batch ≡ b = same-bytes_eq s.batch b hit in
              let own : list_any (bytes_eq s.rec) (records_named f b) ≡ true = ap (λ n. list_any (bytes_eq s.rec) (records_named f n)) (sym mine) ∙ is.there in
              let places : at ≡ bytes_eq s.rec r = ap (λ n. place_in (records_named f n) s.rec == place) mine ∙ place_alike (records_named f b) s.rec r own among in
              ap (λ t. (t && good) && at) hit ∙ ap (λ t. good && t) places ∙ tests_turned good (bytes_eq s.rec r) ∙ sym (ap (λ t. (t && bytes_eq s.rec r) && good) hit)
          | inr miss ↦ ap (λ t. (t && good) && at) miss ∙ sym (ap (λ t. (t && bytes_eq s.rec r) && good) miss)
        ]

    blanks_same : (k : ℕ) (o : Option Session) → option_map (λ (s : StoredSession). s.serial) (option_map (stored_session f) (option_map (λ (s : Session). (k, s)) o)) ≡ option_map (λ (s : Session). s.blank) o
    blanks_same k None = refl
    blanks_same k (Some s) = refl

    pub good_blank : IsSound f → option_map (λ (s : StoredSession). s.serial) (find (λ (s : StoredSession). s.place == place) (filter (is_good_of id) (stored_sessions f)))
        ≡ option_map (λ (s : Session). s.blank) (find (λ s. is_good (session_state f s)) (sessions_of f b r))
    unfolding stored_sessions
    good_blank sound =
        let serial : StoredSession → ℕ = λ s. s.serial in
        let at : StoredSession → Bool = λ s. s.place == place in
        ap (option_map serial) (find-filter at (is_good_of id) (stored_sessions f) ∙ find-map (λ s. is_good_of id s && at s) (stored_session f) (sessions_by_id f)
        ∙ ap (option_map (stored_session f)) (found_numbered by_row 1 f.sessions))
        ∙ blanks_same (1 + position_or_len by_row f.sessions) (find by_row f.sessions)
        ∙ ap (option_map (λ (s : Session). s.blank))
        (find_alike by_row by_names f.sessions (All-weaker (IsSession f) (λ s. by_row s ≡ by_names s) rows_alike f.sessions sound.sessions.each)
        ∙ sym (find-filter (λ s. is_good (session_state f s)) (is_for b r) f.sessions))

    abbrev own_row : StoredRecord
    own_row = stored_record f (id, batch) (place, r)

    pub line_in_rows : IsSound f → line_of (filter (is_good_of id) (stored_sessions f)) own_row ≡ record_line f b r
    line_in_rows sound =
        let own = own_name f b batch there in
        let blank = good_blank sound in
        let stands : record_state f batch.name r ≡ record_state f b r = ap (λ m. record_state f m r) own in
        let many : count_by is_spoiled (states_of f batch.name r) + cards (record_state f batch.name r) ≡ length (sessions_of f b r) =
        ap (λ m. count_by is_spoiled (states_of f m r) + cards (record_state f m r)) own ∙ sym (sessions_many sound b r) in
        λ i. record { rec = r; stands = stands i; sessions = many i; blank = blank i }

  -- ---- all lines of a batch

  pub lines_there : IsSound f → (b : List ℕ) (batch : Batch) → batch_named f.batches b ≡ Some batch
      → map (line_of (filter (is_good_of (batch_id f.batches b)) (stored_sessions f))) (filter (is_record_of (batch_id f.batches b)) (stored_records f)) ≡ map (record_line f b) (records_named f b)
  lines_there sound b batch there =
      let e : ℕ × Batch = (batch_id f.batches b, batch) in
      let names : List (List ℕ) = records_named f b in
      let line : StoredRecord → RecordLine = line_of (filter (is_good_of e.0) (stored_sessions f)) in
      let once : AllPairs (λ (m k : List ℕ). bytes_eq m k ≡ false) names = subst (AllPairs (λ (m k : List ℕ). bytes_eq m k ≡ false)) (names_are f b batch there) (names_once f.products batch) in
      let each : All (λ (d : ℕ × List ℕ). line (stored_record f e d) ≡ record_line f b d.1) (enumerate_from 0 names) =
      All-weaker (λ (d : ℕ × List ℕ). (list_any (bytes_eq d.1) names ≡ true) × (d.0 ≡ place_in names d.1)) (λ (d : ℕ × List ℕ). line (stored_record f e d) ≡ record_line f b d.1)
      (λ d own. ap (λ k. line (stored_record f e (k, d.1))) own.1 ∙ line_in_rows b d.1 batch there own.0 sound) (enumerate_from 0 names) (places_own names once) in
      ap (map line) (rows_of_batch f b batch there)
      ∙ map-map line (stored_record f e) (enumerate_from 0 names)
      ∙ map_same (λ d. line (stored_record f e d)) (λ (d : ℕ × List ℕ). record_line f b d.1) (enumerate_from 0 names) each
      ∙ sym (map-map (record_line f b) (λ (d : ℕ × List ℕ). d.1) (enumerate_from 0 names))
      ∙ ap (map (record_line f b)) (unnumbered 0 names)

  pub lines_in_rows : IsSound f → (b : List ℕ) → record_lines f b ≡ lines_in (stored_batches f) (stored_records f) (stored_sessions f) b
  unfolding record_lines
  lines_in_rows sound b = by_batch (batch_named f.batches b) refl
    where
      by_batch : (o : Option Batch) → batch_named f.batches b ≡ o → map (record_line f b) (records_named f b) ≡ lines_in (stored_batches f) (stored_records f) (stored_sessions f) b
      by_batch None is =
          ap (λ o. map (record_line f b) (records_under f.products o)) is
          ∙ sym (ap (lines_at (stored_records f) (stored_sessions f)) (named_row f b ∙ ap (option_map (λ (c : Batch). stored_batch f (batch_id f.batches b, c))) is))
      by_batch (Some batch) is =
          sym (ap (lines_at (stored_records f) (stored_sessions f)) (named_row f b ∙ ap (option_map (λ (c : Batch). stored_batch f (batch_id f.batches b, c))) is)
          ∙ lines_there sound b batch is)
