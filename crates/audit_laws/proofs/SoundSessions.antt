-- The sessions of audited rows as facts: their status words, records, states and cursors.
use Rattle.std.proofs.Common.{◌≡◌, ℕ, ◌+◌, ◌==◌, Bool, true, false, List, map, get_or, All, Option, Some, None, refl, sym, ap, ◌∙◌, arith}
use Rattle.std.specs.Prelude.{filter, find, option_and_then, option_map, slice_get, unwrap_or}
use Rattle.std.specs.List.{enumerate_from}
use Rattle.std.proofs.lemmas.List.{length-map}
use Rattle.std.proofs.lemmas.List.Elements.{All-filter, All-map, All-weaker}
use Rattle.std.proofs.lemmas.Option.{same_Some, slice_get-map}
use Rattle.std.proofs.lemmas.Simd.{map-map}
use Rattle.store_data.proofs.SummaryLemmas.{filter-map}
use Rattle.store_data.specs.Cursor.{cursor_at, select_cursor}
use Rattle.store_data.specs.declared.row.Product.{Product}
use Rattle.store_data.specs.Sequence.{Plan, commands_of, plan_of}
use Rattle.job_facts.specs.Facts.{Batch, Facts, Session}
use Rattle.job_facts.specs.States.{batch_named, commands_for, commands_under, going, plan_for, product_named, records_named, records_under, rows_of, rows_of_record, session_cursor, session_state, state_with}
use Rattle.job_facts.proofs.Lists.{map_same}
use Rattle.table_rows.proofs.Found.{filter_alike}
use Rattle.table_rows.specs.Tables.{StoredSession, StoredWord, Tables}
use Rattle.image_laws.specs.Image.{batch_id, place_in, sessions_by_id}
use Rattle.image_laws.specs.Decided.{batch_name, batch_of_row, facts_of, found_from, record_name, session_of_row, session_with, word_with}
use Rattle.image_laws.proofs.Back.{found_from_is}
use Rattle.table_rows.specs.Keys.{is_batch, is_session}
use Rattle.row_laws.proofs.Finding.{filter_all, find-filter, find-map, kept_joined, number_found}
use Rattle.audit_laws.specs.Audited.{IsAudited, IsAuditedSession, file_records, file_rows, key_of, named_session, placed_words, words_of}
use Rattle.audit_laws.proofs.Agreeing.{SessionAgrees}
use Rattle.audit_laws.proofs.SoundLists.{equal, found_at, found_each, ids_once, numbered_by}
use Rattle.audit_laws.proofs.SoundNames.{IsPlaced, id_found, key_found, name_found, named_found, of_batch, of_record, own_ids, own_place, record_name_found, records_placed}

module _ (t : Tables) (audited : IsAudited t) where
  abbrev f : Facts
  f = facts_of t

  abbrev session_id_of : StoredSession → ℕ
  session_id_of s = s.id

  -- ---- words

  abbrev is_word_of : ℕ → StoredWord → Bool
  is_word_of id w = w.session == id

  abbrev placed_word : ℕ → ℕ × ℕ → StoredWord
  placed_word id w = record { session = id; place = w.0; sw = w.1 }

  words_kept : (s : StoredSession) → find (is_session s.id) t.sessions ≡ Some s → filter (is_word_of s.id) t.words ≡ placed_words t s
  words_kept s found =
      ap (filter (is_word_of s.id)) audited.words
      ∙ kept_joined (is_word_of s.id) (is_session s.id) (placed_words t)
      (λ x miss. All-map (λ w. is_word_of s.id w ≡ false) (placed_word x.id) (enumerate_from 0 (words_of t.words x.id))
      (λ k d within. miss))
      t.sessions s (ids_once session_id_of t.sessions 1 s.id audited.session_ids) found
      ∙ filter_all (is_word_of s.id) (placed_words t s)
      (All-map (λ w. is_word_of s.id w ≡ true) (placed_word s.id) (enumerate_from 0 (words_of t.words s.id))
      (λ k d within. equal s.id s.id refl))

  word_at : (s : StoredSession) → find (is_session s.id) t.sessions ≡ Some s → (j : ℕ)
      → word_with t s.id (0 + j) ≡ slice_get (words_of t.words s.id) j
  word_at s found j =
      let number : 0 + j ≡ j = omega arith in
      let words : List ℕ = words_of t.words s.id in
      let sw : Option StoredWord → Option ℕ = option_map (λ (w : StoredWord). w.sw) in
      ap (word_with t s.id) number
      ∙ ap sw (sym (find-filter (λ (w : StoredWord). w.place == j) (is_word_of s.id) t.words)
      ∙ ap (find (λ (w : StoredWord). w.place == j)) (words_kept s found)
      ∙ find-map (λ (w : StoredWord). w.place == j) (placed_word s.id) (enumerate_from 0 words)
      ∙ ap (option_map (placed_word s.id)) (number_found j j 0 words (omega arith)))
      ∙ back (slice_get words j)
    where
      back : (o : Option ℕ)
          → option_map (λ (w : StoredWord). w.sw) (option_map (placed_word s.id) (option_map (λ (x : ℕ). let e : ℕ × ℕ = (j, x) in e) o))
          ≡ o
      back None = refl
      back (Some x) = refl

  words_are : (s : StoredSession) → IsAuditedSession t s → find (is_session s.id) t.sessions ≡ Some s
      → found_from (word_with t s.id) 0 s.words ≡ words_of t.words s.id
  words_are s is found =
      ap (found_from (word_with t s.id) 0) is.count ∙ found_from_is (word_with t s.id) (words_of t.words s.id) 0 (word_at s found)

  -- ---- the sessions as facts

  session_is : (s : StoredSession) → IsAuditedSession t s → find (is_session s.id) t.sessions ≡ Some s
      → session_of_row t s ≡ named_session t s
  session_is s is found =
      let made : List ℕ → Session =
      λ words. record { machine = s.machine; batch = batch_name t s.batch; rec = record_name t s.batch s.place; blank = s.serial; words = words; ended = s.ended } in
      ap made (words_are s is found)

  pub sessions_are : f.sessions ≡ map (named_session t) t.sessions
  sessions_are =
      ap (found_from (session_with t) 1) (sym (length-map t.sessions (session_of_row t)))
      ∙ found_from_is (session_with t) (map (session_of_row t) t.sessions) 1
      (λ j. ap (option_map (session_of_row t)) (found_at session_id_of t.sessions 1 j audited.session_ids)
      ∙ sym (slice_get-map (session_of_row t) t.sessions j))
      ∙ map_same (session_of_row t) (named_session t) t.sessions
      (λ k d within. session_is (get_or t.sessions k d) (audited.each_session k d within)
      (found_each session_id_of t.sessions 1 audited.session_ids k d within))

  pub sessions_numbered : sessions_by_id f ≡ map (λ (s : StoredSession). let e : ℕ × Session = (s.id, named_session t s) in e) t.sessions
  sessions_numbered = ap (enumerate_from 1) sessions_are ∙ numbered_by session_id_of (named_session t) t.sessions 1 audited.session_ids

  -- ---- one session

  module _ (s : StoredSession) (is : IsAuditedSession t s) where
    pub batch_is : batch_name t s.batch ≡ is.batch.name
    batch_is = name_found t audited s.batch is.batch is.batch_is

    pub rec_is : record_name t s.batch s.place ≡ is.rec.name
    rec_is = record_name_found t audited s.batch s.place is.rec is.rec_is

    pub batch_there : batch_named f.batches is.batch.name ≡ Some (batch_of_row is.batch)
    batch_there =
        of_batch t audited (λ b. batch_named f.batches b.name ≡ Some (batch_of_row b)) s.batch is.batch (named_found t audited) is.batch_is

    -- The batch file contains the record of the session at its place.
    pub rec_placed : IsPlaced t (key_of is.rec)
    rec_placed = of_record t audited (λ r. IsPlaced t (key_of r)) s.batch s.place is.rec (records_placed t audited) is.rec_is

    pub records_are : records_named f (batch_name t s.batch) ≡ file_records t is.batch
    records_are = ap (records_named f) batch_is ∙ ap (records_under t.products) batch_there

    plan_named : plan_for f is.batch.name is.rec.name ≡ Some is.plan
    unfolding plan_for
    plan_named =
        let n : List ℕ = is.rec.name in
        ap (option_and_then (λ (b : Batch). option_map (λ (p : Product). plan_of p (rows_of_record (rows_of t.products b) n))
        (product_named t.products b.product))) batch_there
        ∙ ap (option_map (λ (p : Product). plan_of p (rows_of_record (file_rows t is.batch) n))) is.product_is
        ∙ ap Some (sym is.plan_is)

    pub plan_is : plan_for f (batch_name t s.batch) (record_name t s.batch s.place) ≡ Some is.plan
    plan_is = ap (λ n. plan_for f n (record_name t s.batch s.place)) batch_is ∙ ap (plan_for f is.batch.name) rec_is ∙ plan_named

    pub commands_are : commands_for f (batch_name t s.batch) (record_name t s.batch s.place) ≡ commands_of is.plan
    commands_are = ap commands_under plan_is

    state_is : session_state f (named_session t s) ≡ s.state
    unfolding session_state
    state_is = ap (λ commands. state_with commands (named_session t s)) commands_are ∙ sym is.state

    cursor_is : session_cursor f (named_session t s) ≡ s.cursor
    unfolding session_cursor
    cursor_is =
        let at : Plan → Option _ = λ plan. cursor_at plan (going (commands_of plan) (words_of t.words s.id)) in
        ap (λ o. unwrap_or (option_and_then at o) (select_cursor 0)) plan_is ∙ ap (λ o. unwrap_or o (select_cursor 0)) is.cursor

    pub rec_key : (is.rec.batch ≡ s.batch) × (is.rec.place ≡ s.place)
    rec_key = key_found t audited s.batch s.place is.rec is.rec_is

    same_batch : rec_placed.batch ≡ is.batch
    same_batch =
        let same = sym rec_placed.batch_is ∙ ap (λ id. find (is_batch id) t.batches) rec_key.0 ∙ is.batch_is in
        same_Some rec_placed.batch is.batch same

    place_is : place_in (records_named f (batch_name t s.batch)) (record_name t s.batch s.place) ≡ s.place
    place_is =
        ap (λ names. place_in names (record_name t s.batch s.place)) records_are ∙ ap (place_in (file_records t is.batch)) rec_is
        ∙ ap (λ b. place_in (file_records t b) is.rec.name) (sym same_batch) ∙ own_place t (key_of is.rec) rec_placed ∙ rec_key.1

    pub session_agrees : SessionAgrees t s
    session_agrees = record {
      batch = ap (batch_id f.batches) batch_is ∙ of_batch t audited (λ b. batch_id f.batches b.name ≡ b.id) s.batch is.batch
          (own_ids t audited) is.batch_is ∙ id_found t audited s.batch is.batch is.batch_is;
      place = place_is;
      state = state_is;
      cursor = cursor_is;
    }

  pub sessions_agree : All (SessionAgrees t) t.sessions
  sessions_agree k d within = session_agrees (get_or t.sessions k d) (audited.each_session k d within)

  -- The sessions that satisfy `p` have the states of their rows.
  pub kept_states : (p : Session → Bool) (q : StoredSession → Bool) → All (λ (s : StoredSession). p (named_session t s) ≡ q s) t.sessions
      → map (session_state f) (filter p f.sessions) ≡ map (λ (s : StoredSession). s.state) (filter q t.sessions)
  kept_states p q alike =
      let named : StoredSession → Session = named_session t in
      ap (λ ss. map (session_state f) (filter p ss)) sessions_are
      ∙ ap (map (session_state f)) (filter-map p named t.sessions)
      ∙ map-map (session_state f) named (filter (λ s. p (named s)) t.sessions)
      ∙ ap (map (λ (s : StoredSession). session_state f (named s))) (filter_alike (λ s. p (named s)) q t.sessions alike)
      ∙ map_same (λ s. session_state f (named s)) (λ s. s.state) (filter q t.sessions)
      (All-filter q (λ s. session_state f (named s) ≡ s.state) t.sessions
      (All-weaker (SessionAgrees t) (λ s. session_state f (named s) ≡ s.state) (λ s agrees. agrees.state) t.sessions sessions_agree))
