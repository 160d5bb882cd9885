-- Look-ups of sessions by number and by machine, and the names of their records.
use Rattle.std.proofs.Common.{◌≡◌, ℕ, zero, suc, ◌+◌, Bool, true, false, ◌&&◌, List, [], ◌∷◌, Option, Some, None, refl, sym, ap, ◌∙◌, subst, arith}
use Rattle.std.specs.Prelude.{bytes_eq, find, option_and_then, option_map, slice_get}
use Rattle.std.specs.List.{enumerate_from}
use Rattle.std.proofs.lemmas.Option.{none-some, same_Some}
use Rattle.job_facts.specs.declared.rows.SessionRow.{SessionRow}
use Rattle.job_facts.specs.Facts.{Facts, Session}
use Rattle.job_facts.specs.Rows.{session_row, session_row_of}
use Rattle.job_facts.specs.Sound.{IsSession, IsSound, runs_on}
use Rattle.job_facts.specs.States.{is_running, numbered, records_named, running_session, session_numbered, session_state}
use Rattle.step_laws.proofs.Numbered.{session_sound}
use Rattle.table_rows.specs.Keys.{is_batch, is_record_at, is_running_on, is_session}
use Rattle.table_rows.specs.Tables.{PassesOnce, StoredBatch, StoredRecord, StoredSession}
use Rattle.image_laws.specs.WritingOf.{IsPlaceOf, IsPlaceOfSession}
use Rattle.image_laws.specs.Image.{batch_id, place_in, sessions_by_id, stored_batch, stored_batches, stored_record, stored_records, stored_session, stored_sessions}
use Rattle.row_laws.specs.RowValues.{place_of, session_in, session_of}
use Rattle.row_laws.proofs.BatchRows.{id_row as batch_row, own_name}
use Rattle.row_laws.proofs.Finding.{AllPairs-map, AllPairs-numbered, find-map, number_before, number_found, number_once, once_from_count, option_map-map}
use Rattle.row_laws.proofs.RecordRows.{place_is, place_row}

numbered_is : (n : ℕ) (xs : List Session) → numbered n xs ≡ enumerate_from n xs
numbered_is n [] = refl
numbered_is n (x ∷ xs) = ap (λ es. (n, x) ∷ es) (numbered_is (n + 1) xs)

module _ (f : Facts) where
  -- ---- by number

  pub session_once : (id : ℕ) → PassesOnce (is_session id) (stored_sessions f)
  unfolding stored_sessions
  session_once id = AllPairs-map (λ (x y : StoredSession). is_session id x ≡ true → is_session id y ≡ false) (stored_session f) (sessions_by_id f) (number_once id 1 f.sessions)

  pub session_at : (id : ℕ) → find (is_session id) (stored_sessions f) ≡ option_map (λ (x : Session). stored_session f (id, x)) (session_numbered f.sessions id)
  unfolding stored_sessions
  session_at zero = find-map (is_session zero) (stored_session f) (sessions_by_id f) ∙ ap (option_map (stored_session f)) (number_before 0 1 f.sessions (omega arith))
  session_at (suc i) =
      find-map (is_session (suc i)) (stored_session f) (sessions_by_id f)
      ∙ ap (option_map (stored_session f)) (number_found (suc i) i 1 f.sessions (omega arith))
      ∙ option_map-map (stored_session f) (λ (x : Session). (suc i, x)) (slice_get f.sessions i)

  -- ---- the rows of its batch and record

  module _ (id : ℕ) (x : Session) (is : IsSession f x) where
    abbrev own_batch : StoredBatch
    own_batch = stored_batch f (batch_id f.batches x.batch, is.batch)

    abbrev own_record : StoredRecord
    own_record = stored_record f (batch_id f.batches x.batch, is.batch) (place_in (records_named f x.batch) x.rec, x.rec)

    abbrev own : StoredSession
    own = stored_session f (id, x)

    batch_found : find (is_batch own.batch) (stored_batches f) ≡ Some own_batch
    batch_found = batch_row f x.batch is.batch is.batch_is

    record_found : find (is_record_at own.batch own.place) (stored_records f) ≡ Some own_record
    record_found = place_row f x.batch x.rec is.batch is.batch_is is.there

    row_is : session_of own own_batch own_record ≡ session_row f x
    row_is = ap (λ m. let r : SessionRow = record (session_row f x) { batch = m } in r) (own_name f x.batch is.batch is.batch_is)

    found_in_rows : option_and_then (λ (b : StoredBatch). option_map (session_of own b) (find (is_record_at own.batch own.place) (stored_records f))) (find (is_batch own.batch) (stored_batches f)) ≡ Some (session_row f x)
    found_in_rows =
        ap (option_and_then (λ (b : StoredBatch). option_map (session_of own b) (find (is_record_at own.batch own.place) (stored_records f)))) batch_found
        ∙ ap (option_map (session_of own own_batch)) record_found
        ∙ ap Some row_is

    place_found : (b : StoredBatch) (r : StoredRecord) → find (is_batch own.batch) (stored_batches f) ≡ Some b
        → find (is_record_at own.batch own.place) (stored_records f) ≡ Some r → IsPlaceOf f x.batch x.rec (place_of b r)
    place_found b r at_b at_r =
        let one : own_batch ≡ b = same_Some own_batch b (sym batch_found ∙ at_b) in
        let two : own_record ≡ r = same_Some own_record r (sym record_found ∙ at_r) in
        subst (λ y. IsPlaceOf f x.batch x.rec (place_of y r)) one (subst (λ y. IsPlaceOf f x.batch x.rec (place_of own_batch y)) two (place_is f x.batch x.rec is.batch is.batch_is))

  pub row_in_rows : IsSound f → (id : ℕ) → session_row_of f id ≡ session_in (stored_sessions f) (stored_batches f) (stored_records f) id
  row_in_rows sound id = by_session (session_numbered f.sessions id) refl
    where
      after : StoredSession → Option SessionRow
      after s = option_and_then (λ (b : StoredBatch). option_map (session_of s b) (find (is_record_at s.batch s.place) (stored_records f))) (find (is_batch s.batch) (stored_batches f))

      by_session : (o : Option Session) → session_numbered f.sessions id ≡ o → session_row_of f id ≡ session_in (stored_sessions f) (stored_batches f) (stored_records f) id
      by_session None is =
          ap (option_map (session_row f)) is ∙ sym (ap (option_and_then after) (session_at id ∙ ap (option_map (λ (x : Session). stored_session f (id, x))) is))
      by_session (Some x) is =
          ap (option_map (session_row f)) is
          ∙ sym (found_in_rows id x (session_sound f id x sound is))
          ∙ sym (ap (option_and_then after) (session_at id ∙ ap (option_map (λ (y : Session). stored_session f (id, y))) is))

  pub place_of_session : IsSound f → (id : ℕ) (s : StoredSession) (b : StoredBatch) (r : StoredRecord) → find (is_session id) (stored_sessions f) ≡ Some s
      → find (is_batch s.batch) (stored_batches f) ≡ Some b → find (is_record_at s.batch s.place) (stored_records f) ≡ Some r → IsPlaceOfSession f id (place_of b r)
  place_of_session sound id s b r at_s at_b at_r = by_session (session_numbered f.sessions id) refl
    where
      by_session : (o : Option Session) → session_numbered f.sessions id ≡ o → IsPlaceOfSession f id (place_of b r)
      by_session None is = absurd (none-some s (sym (session_at id ∙ ap (option_map (λ (x : Session). stored_session f (id, x))) is) ∙ at_s))
      by_session (Some x) is =
          let own_is : s ≡ stored_session f (id, x) = same_Some s (stored_session f (id, x)) (sym at_s ∙ session_at id ∙ ap (option_map (λ (y : Session). stored_session f (id, y))) is) in
          let at_batch = subst (λ (y : StoredSession). find (is_batch y.batch) (stored_batches f) ≡ Some b) own_is at_b in
          let at_record = subst (λ (y : StoredSession). find (is_record_at y.batch y.place) (stored_records f) ≡ Some r) own_is at_r in
          (x, is, place_found id x (session_sound f id x sound is) b r at_batch at_record)

  pub rows_there : IsSound f → (id : ℕ) (x : Session) → session_numbered f.sessions id ≡ Some x
      → (s : StoredSession) × (b : StoredBatch) × (r : StoredRecord)
      × (find (is_session id) (stored_sessions f) ≡ Some s) × (find (is_batch s.batch) (stored_batches f) ≡ Some b) × (find (is_record_at s.batch s.place) (stored_records f) ≡ Some r)
  rows_there sound id x there =
      let is = session_sound f id x sound there in
      (own id x is, own_batch id x is, own_record id x is, session_at id ∙ ap (option_map (λ (y : Session). stored_session f (id, y))) there, batch_found id x is, record_found id x is)

  -- ---- by machine

  pub running_once : IsSound f → (machine : List ℕ) → PassesOnce (is_running_on machine) (stored_sessions f)
  unfolding stored_sessions
  running_once sound machine =
      let once = once_from_count (runs_on f machine) f.sessions (sound.sessions.machines machine) in
      AllPairs-map (λ (x y : StoredSession). is_running_on machine x ≡ true → is_running_on machine y ≡ false) (stored_session f) (sessions_by_id f)
      (AllPairs-numbered (λ (x y : Session). runs_on f machine x ≡ true → runs_on f machine y ≡ false) 1 f.sessions once)

  pub running_in_rows : (machine : List ℕ) → running_session f machine ≡ option_map (λ (s : StoredSession). s.id) (find (is_running_on machine) (stored_sessions f))
  unfolding stored_sessions running_session
  running_in_rows machine =
      let runs : ℕ × Session → Bool = λ e. bytes_eq e.1.machine machine && is_running (session_state f e.1) in
      ap (λ es. option_map (λ (e : ℕ × Session). e.0) (find runs es)) (numbered_is 1 f.sessions)
      ∙ sym (ap (option_map (λ (s : StoredSession). s.id)) (find-map (is_running_on machine) (stored_session f) (sessions_by_id f))
      ∙ option_map-map (λ (s : StoredSession). s.id) (stored_session f) (find runs (sessions_by_id f)))
