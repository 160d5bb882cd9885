-- The rows after a session is opened.
use Rattle.std.proofs.Common.{◌≡◌, ℕ, ◌+◌, Bool, true, false, List, [], ◌∷◌, ◌++◌, length, map, refl, sym, ap, subst, ◌∙◌, arith, append-nil, append_assoc, IsPermutation}
use Rattle.std.specs.Prelude.{bytes_eq, count_by, filter, option_and_then, unwrap_or}
use Rattle.std.specs.List.{enumerate_from, flat_map}
use Rattle.std.proofs.lemmas.Bool.{cond-false, cond-true}
use Rattle.std.proofs.lemmas.Grind.{flat_map-append}
use Rattle.std.proofs.lemmas.List.{map-append}
use Rattle.std.proofs.lemmas.List.Elements.{filter-append}
use Rattle.std.proofs.lemmas.List.Sorted.{IsPermutation-middle}
use Rattle.store_data.specs.Cursor.{cursor_at, select_cursor}
use Rattle.store_data.specs.Sequence.{Plan, commands_of}
use Rattle.store_data.proofs.CommandLemmas.{enumerate_from-append}
use Rattle.store_data.proofs.CursorLemmas.{first_there_of}
use Rattle.store_data.proofs.GroupLemmas.{bytes_eq-same}
use Rattle.job_facts.specs.declared.change.Change.TheVariants as change
use Rattle.job_facts.specs.declared.change.NewSession.{NewSession}
use Rattle.job_facts.specs.declared.facts.RecordState.TheVariants as rec
use Rattle.job_facts.specs.declared.facts.SessionState.{SessionState}
use Rattle.job_facts.specs.declared.facts.SessionState.TheVariants as session
use Rattle.job_facts.specs.Accounts.{batch_totals, record_states, session_states, totals_by}
use Rattle.job_facts.specs.Contents.{Contents}
use Rattle.job_facts.specs.Facts.{Facts, Session, new_session, with_session}
use Rattle.job_facts.specs.Sound.{IsRecord, IsSound, IsSoundChange, changed}
use Rattle.job_facts.specs.States.{going, is_record, is_spoiled, plan_for, record_state, session_cursor, session_state, states_of}
use Rattle.job_facts.proofs.Lists.{count_by-at}
use Rattle.job_facts.proofs.PlanLemmas.{plan_there}
use Rattle.job_facts.proofs.SoundFacts.{is_for, states_are}
use Rattle.step_laws.specs.Records.{StandsSame}
use Rattle.step_laws.proofs.ChangeStands.{others_same, state_of_named, touched_stands}
use Rattle.step_laws.proofs.GoodCards.{for_own}
use Rattle.step_laws.proofs.RecordStands.{named, states_around}
use Rattle.step_laws.proofs.ReplyFacts.{new_runs}
use Rattle.table_rows.specs.After.{less, more, one_opened, rows_after}
use Rattle.table_rows.specs.After as after
use Rattle.table_rows.specs.Tables.{HaveSameRows, StoredBlank}
use Rattle.table_rows.specs.declared.writing.Writing.{Writing}
use Rattle.table_rows.specs.declared.writing.Writing.TheVariants as writing
use Rattle.table_rows.specs.declared.writing.RecordPlace.{RecordPlace}
use Rattle.image_laws.specs.WritingOf.{IsPlaceOf}
use Rattle.image_laws.specs.Image.{image, name_of, stored_blank, stored_blanks, stored_session, stored_sessions, stored_words, words_in}
use Rattle.image_laws.proofs.Lists.{pushed, unmoved}
use Rattle.image_laws.proofs.OneRecord.{batches_set, records_set, totals_pass}
use Rattle.image_laws.proofs.Staying.{totals_are}
use Rattle.image_laws.proofs.Totals.{session_opened}
use Rattle.image_laws.proofs.Touching.{groupings_stay, is_place, lots_stay, place_of, remakes_stay}

module _ (f : Facts) (machine b r : List ℕ) (blank : ℕ) where
  abbrev new : Session
  new = new_session machine b r blank

  abbrev next : Facts
  next = with_session f new

  -- ---- the new rows

  module _ (sound : IsSound f) (there : IsRecord f b r) (waits : record_state f b r ≡ rec.Waiting) where
    new_cursor : session_cursor f new ≡ select_cursor 0
    unfolding session_cursor
    new_cursor =
        let plan = plan_there f b r sound there in
        ap (λ o. unwrap_or (option_and_then (λ (p : Plan). cursor_at p (going (commands_of p) [])) o) (select_cursor 0)) plan.1
        ∙ ap (λ o. unwrap_or o (select_cursor 0)) (first_there_of plan.0)

    new_row : stored_session f (1 + length f.sessions, new) ≡ after.new_session (length f.sessions + 1) (place_of f b r) machine blank
    new_row =
        let id : 1 + length f.sessions ≡ length f.sessions + 1 = omega arith in
        ap (λ n. stored_session f (n, new)) id
        ∙ ap (λ state. record (stored_session f (length f.sessions + 1, new)) { state = state }) (new_runs f machine b blank r sound there waits)
        ∙ ap (λ cursor. record (after.new_session (length f.sessions + 1) (place_of f b r) machine blank) { cursor = cursor }) new_cursor

  sessions_more : stored_sessions next ≡ stored_sessions f ++ stored_session f (1 + length f.sessions, new) ∷ []
  unfolding stored_sessions session_state session_cursor plan_for
  sessions_more =
      ap (map (stored_session f)) (enumerate_from-append 1 f.sessions (new ∷ []))
      ∙ map-append (stored_session f) (enumerate_from 1 f.sessions) (enumerate_from (1 + length f.sessions) (new ∷ []))

  words_stay : stored_words next ≡ stored_words f
  unfolding stored_words
  words_stay =
      ap (flat_map words_in) (enumerate_from-append 1 f.sessions (new ∷ []))
      ∙ flat_map-append words_in (enumerate_from 1 f.sessions) (enumerate_from (1 + length f.sessions) (new ∷ []))
      ∙ append-nil (flat_map words_in (enumerate_from 1 f.sessions))

  blank_more : IsPermutation (stored_blanks next) (stored_blank f false blank ∷ stored_blanks f)
  unfolding stored_blanks
  blank_more =
      let blank_of : Session → StoredBlank = λ s. stored_blank f false s.blank in
      let opened : List StoredBlank = map blank_of f.sessions in
      let discarded : List StoredBlank = map (stored_blank f true) f.discarded in
      let row : StoredBlank = stored_blank f false blank in
      let split : map blank_of (f.sessions ++ new ∷ []) ++ discarded ≡ opened ++ row ∷ discarded =
      ap (λ bs. bs ++ discarded) (map-append blank_of f.sessions (new ∷ [])) ∙ append_assoc opened (row ∷ []) discarded in
      subst (λ bs. IsPermutation bs (row ∷ (opened ++ discarded))) (sym split) (IsPermutation-middle opened row discarded)

  -- ---- the states of sessions

  sessions_elsewhere : (c : List ℕ) → bytes_eq b c ≡ false → session_states next c ≡ session_states f c
  unfolding session_states session_state plan_for
  sessions_elsewhere c other =
      let of_batch : Session → Bool = λ s. bytes_eq s.batch c in
      let then_states : List SessionState = map (session_state f) (filter of_batch f.sessions) in
      ap (map (session_state f)) (filter-append of_batch f.sessions (new ∷ [])) ∙ map-append (session_state f) (filter of_batch f.sessions) (filter of_batch (new ∷ []))
      ∙ ap (λ ss. then_states ++ map (session_state f) ss) (cond-false (of_batch new) (new ∷ []) [] other) ∙ append-nil then_states

  sessions_of_batch : session_state f new ≡ session.Running → session_states next b ≡ session_states f b ++ session.Running ∷ []
  unfolding session_states session_state plan_for
  sessions_of_batch runs =
      let of_batch : Session → Bool = λ s. bytes_eq s.batch b in
      let then_states : List SessionState = map (session_state f) (filter of_batch f.sessions) in
      ap (map (session_state f)) (filter-append of_batch f.sessions (new ∷ [])) ∙ map-append (session_state f) (filter of_batch f.sessions) (filter of_batch (new ∷ []))
      ∙ ap (λ ss. then_states ++ map (session_state f) ss) (cond-true (of_batch new) (new ∷ []) [] (bytes_eq-same b)) ∙ ap (λ t. then_states ++ t ∷ []) runs

  states_of_record : session_state f new ≡ session.Running → states_of next b r ≡ states_of f b r ++ session.Running ∷ []
  states_of_record runs =
      let then_states : List SessionState = map (session_state f) (filter (is_for b r) f.sessions) in
      states_around f f.sessions [] new b r
      ∙ ap (λ ts. then_states ++ ts) (cond-true (is_for b r new) (session_state f new ∷ []) [] (for_own new) ∙ ap (λ t. t ∷ []) runs)
      ∙ ap (λ ts. ts ++ session.Running ∷ []) (sym (states_are f b r))

  spoiled_stay : session_state f new ≡ session.Running → count_by is_spoiled (states_of next b r) ≡ count_by is_spoiled (states_of f b r)
  spoiled_stay runs =
      let states : List SessionState = states_of f b r in
      let at : count_by is_spoiled (states ++ session.Running ∷ []) ≡ count_by is_spoiled states + (0 + 0) = count_by-at is_spoiled states [] session.Running in
      ap (count_by is_spoiled) (states_of_record runs) ∙ omega (arith, at)

-- ---- the change

pub rows_after_opening : (c : Contents) (s : NewSession) (b r : List ℕ) (p : RecordPlace) → IsSound c.facts
    → IsSoundChange c.facts (change.Opens s b r) → IsPlaceOf c.facts b r p
    → HaveSameRows (image (record c { facts = changed c.facts (change.Opens s b r) })) (rows_after (writing.Opens s p) (image c))
rows_after_opening c s b r p sound keeps is =
    let f : Facts = c.facts in
    let machine = s.machine in
    let blank = s.blank in
    let opens = change.Opens s b r in
    let g : Facts = changed f opens in
    let new : Session = new_session machine b r blank in
    let sessions : List Session = f.sessions ++ new ∷ [] in
    let given : IsRecord f b r × (record_state f b r ≡ rec.Waiting) = state_of_named f b r rec.Waiting keeps.before.0 in
    let runs = new_runs f machine b blank r sound given.0 given.1 in
    let others : (d q : List ℕ) → is_record d q (named b r) ≡ false → StandsSame f g d q = others_same f opens sound keeps.before in
    let now : record_state g b r ≡ rec.Running = touched_stands f opens sound keeps.before keeps.after (named b r) rec.Running refl refl in
    let spoiled = spoiled_stay f machine b r blank runs in
    let totals : batch_totals g b ≡ one_opened (more rec.Running (less rec.Waiting (batch_totals f b))) =
    totals_are g b ∙ ap (totals_by (record_states g b)) (sessions_of_batch f machine b r blank runs) ∙ session_opened (record_states g b) (session_states f b) []
    ∙ ap (λ ss. one_opened (totals_by (record_states g b) ss)) (append-nil (session_states f b))
    ∙ ap one_opened (totals_pass f sessions f.remakes f.withdrawn b r sound others given.0 rec.Waiting rec.Running given.1 now (session_states f b))
    ∙ ap (λ n. one_opened (more rec.Running (less rec.Waiting n))) (sym (totals_are f b)) in
    let blank_row : stored_blank f false blank ≡ record { serial = blank; lot = s.lot; discarded = false } =
    ap (λ n. record { serial = blank; lot = n; discarded = false }) (ap name_of keeps.before.1.1 ∙ keeps.before.1.2) in
    let at : RecordPlace = place_of f b r in
    let wrote : ℕ → RecordPlace → Writing = λ number q. writing.Opens (record s { number = number }) q in
    subst (λ q. HaveSameRows (image (record c { facts = g })) (rows_after (wrote s.number q) (image c))) (sym (is_place f b r p is))
    (subst (λ n. HaveSameRows (image (record c { facts = g })) (rows_after (wrote n at) (image c))) (sym keeps.before.2)
    (record {
      products = unmoved _ _ refl;
      lots = unmoved _ _ (lots_stay f f.remakes f.withdrawn sessions);
      batches = unmoved _ _ (batches_set f sessions f.remakes f.withdrawn b r sound others (sessions_elsewhere f machine b r blank) _ totals);
      records = unmoved _ _ (records_set f sessions f.remakes f.withdrawn b r sound others rec.Running at.spoiled at.remakes now spoiled refl);
      groupings = unmoved _ _ (groupings_stay f f.remakes f.withdrawn sessions);
      sessions = subst (λ ss. IsPermutation ss (after.new_session (length f.sessions + 1) at machine blank ∷ stored_sessions f)) (sym (sessions_more f machine b r blank))
          (subst (λ row. IsPermutation (stored_sessions f ++ row ∷ []) (after.new_session (length f.sessions + 1) at machine blank ∷ stored_sessions f))
          (sym (new_row f machine b r blank sound given.0 given.1)) (pushed (stored_sessions f) (after.new_session (length f.sessions + 1) at machine blank)));
      words = unmoved _ _ (words_stay f machine b r blank);
      blanks = subst (λ row. IsPermutation (stored_blanks g) (row ∷ stored_blanks f)) blank_row (blank_more f machine b r blank);
      remakes = unmoved _ _ (remakes_stay f f.remakes f.withdrawn sessions refl);
      replies = unmoved _ _ refl;
      marks = unmoved _ _ refl;
    }))
