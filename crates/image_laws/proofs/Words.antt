-- The rows after a status word is added.
use Rattle.std.proofs.Common.{◌≡◌, ◌≢◌, ℕ, ◌+◌, false, List, ◌∷◌, map, refl, sym, ap, subst, ◌∙◌, IsPermutation}
use Rattle.std.specs.Prelude.{bytes_eq, count_by, option_map}
use Rattle.std.proofs.lemmas.Option.{same_Some}
use Rattle.job_facts.specs.declared.change.Change.{Change}
use Rattle.job_facts.specs.declared.change.Change.TheVariants as change
use Rattle.job_facts.specs.declared.change.NewWord.{NewWord}
use Rattle.job_facts.specs.declared.facts.RecordState.{RecordState}
use Rattle.job_facts.specs.declared.facts.RecordState.TheVariants as rec
use Rattle.job_facts.specs.declared.facts.SessionState.{SessionState}
use Rattle.job_facts.specs.declared.facts.SessionState.TheVariants as session
use Rattle.job_facts.specs.declared.rows.SessionRow.{SessionRow}
use Rattle.job_facts.specs.Accounts.{batch_totals, session_states}
use Rattle.job_facts.specs.Contents.{Contents, Entry, Mark}
use Rattle.job_facts.specs.Facts.{Facts, Session, with_word, worded}
use Rattle.job_facts.specs.Rows.{session_row}
use Rattle.job_facts.specs.Sound.{IsSound, IsSoundChange, changed}
use Rattle.job_facts.specs.States.{is_record, is_spoiled, plan_for, record_state, session_cursor, session_state, states_of}
use Rattle.job_facts.proofs.SessionLemmas.{session_changed}
use Rattle.step_laws.specs.Later.{KnowsMore}
use Rattle.step_laws.specs.Records.{StandsSame, record_by}
use Rattle.step_laws.proofs.ChangeStands.{record_of_there, touched_stands, touched_stood}
use Rattle.step_laws.proofs.Kept.{no_more, state_same}
use Rattle.step_laws.proofs.RecordStands.{named}
use Rattle.table_rows.specs.After.{record_after, rows_after, stopped, word_rows_after}
use Rattle.table_rows.specs.Tables.{HaveSameRows, Tables, session_set}
use Rattle.table_rows.specs.declared.writing.Writing.TheVariants as writing
use Rattle.table_rows.specs.declared.writing.RecordPlace.{RecordPlace}
use Rattle.image_laws.specs.WritingOf.{IsPlaceOf}
use Rattle.image_laws.specs.Image.{image, stored_blanks, stored_groupings, stored_lots, stored_remakes, stored_sessions, stored_words}
use Rattle.image_laws.proofs.Lists.{knows_later, unmoved}
use Rattle.image_laws.proofs.OneRecord.{batches_set, records_set}
use Rattle.image_laws.proofs.OneSession.{blanks_same, sessions_elsewhere, sessions_same, stand_same}
use Rattle.image_laws.proofs.SessionRows.{word_put, word_set}
use Rattle.image_laws.proofs.Staying.{batches_stay, records_stay}
use Rattle.image_laws.proofs.Stopping.{other_records, spoiled_good, spoiled_more, totals_good, totals_spoiled}
use Rattle.image_laws.proofs.Touching.{groupings_stay, is_place, lots_stay, place_of, remakes_stay}

module _ (f : Facts) (w : NewWord) (b r : List ℕ) (stands : SessionState) (keeps : IsSoundChange f (change.AddsWord w b r stands)) where
  abbrev s : ℕ
  s = w.session

  abbrev sw : ℕ
  sw = w.sw

  abbrev word_change : Change
  word_change = change.AddsWord w b r stands

  abbrev worded_facts : Facts
  worded_facts = with_word f s sw

  abbrev own : Session
  own = keeps.before.0

  row_then : keeps.after.0 ≡ session_row worded_facts (worded sw own)
  row_then =
      sym (same_Some (session_row worded_facts (worded sw own)) keeps.after.0
      (sym (ap (option_map (session_row worded_facts)) (session_changed f.sessions s own (worded sw) keeps.before.1)) ∙ keeps.after.1))

  stands_then : session_state f (worded sw own) ≡ stands
  stands_then =
      sym (state_same f worded_facts.sessions (worded sw own)) ∙ sym (ap (λ (r : SessionRow). r.stands) row_then) ∙ keeps.after.2

  cursor_alone : (sessions : List Session) (z : Session) → session_cursor (record f { sessions = sessions }) z ≡ session_cursor f z
  unfolding session_cursor plan_for
  cursor_alone sessions z = refl

  cursor_then : session_cursor f (worded sw own) ≡ w.cursor
  cursor_then = sym (cursor_alone worded_facts.sessions (worded sw own)) ∙ sym (ap (λ (r : SessionRow). r.cursor) row_then) ∙ keeps.after.3

  sessions_then : stored_sessions worded_facts ≡ map (session_set s stands (w.index + 1) w.cursor) (stored_sessions f)
  sessions_then = word_set f s own keeps.before.1 sw stands (w.index + 1) w.cursor stands_then (ap (λ n. n + 1) keeps.before.3) cursor_then

  words_then : IsPermutation (stored_words worded_facts) (record { session = s; place = w.index; sw = sw } ∷ stored_words f)
  words_then = subst (λ n. IsPermutation (stored_words worded_facts) (record { session = s; place = n; sw = sw } ∷ stored_words f)) keeps.before.3
      (word_put f s own (worded sw) keeps.before.1 sw refl)

  blanks_then : stored_blanks worded_facts ≡ stored_blanks f
  blanks_then = blanks_same f s own (worded sw) keeps.before.1 refl refl refl

  lots_then : stored_lots worded_facts ≡ stored_lots f
  lots_then = lots_stay f f.remakes f.withdrawn worded_facts.sessions

  groupings_then : stored_groupings worded_facts ≡ stored_groupings f
  groupings_then = groupings_stay f f.remakes f.withdrawn worded_facts.sessions

  remakes_then : stored_remakes worded_facts ≡ stored_remakes f
  remakes_then = remakes_stay f f.remakes f.withdrawn worded_facts.sessions refl

  -- ---- the record of the session

  pub own_placed : (p : RecordPlace) → IsPlaceOf f b r p → p ≡ place_of f own.batch own.rec
  own_placed p is =
      is_place f own.batch own.rec p
      (subst (λ d. IsPlaceOf f d own.rec p) (sym keeps.before.4) (subst (λ q. IsPlaceOf f b q p) (sym keeps.before.5) is))

  elsewhere : (d : List ℕ) → bytes_eq own.batch d ≡ false → session_states worded_facts d ≡ session_states f d
  elsewhere = sessions_elsewhere f s own (worded sw) keeps.before.1 refl refl

  knows : KnowsMore f worded_facts
  knows = knows_later f _ _ _ (no_more f.discarded) (no_more f.closed)

  module _ (sound : IsSound f) where
    others : (d q : List ℕ) → is_record d q (named own.batch own.rec) ≡ false → StandsSame f worded_facts d q
    others = other_records f s own keeps.before.1 word_change refl sound keeps.before

    ran : record_state f own.batch own.rec ≡ rec.Running
    ran = touched_stood f word_change sound keeps.before (named own.batch own.rec) rec.Running (record_of_there f s own keeps.before.1) refl

    abbrev at : RecordPlace
    at = place_of f own.batch own.rec

    -- the rows of the record and its batch, with the counts after the status word
    abbrev recounted : RecordState → Tables → Tables
    recounted state t = record_after at state (count_by is_spoiled (states_of worded_facts own.batch own.rec)) at.remakes (batch_totals worded_facts own.batch) t

    -- These counts are the ones that `stopped` writes if the session stops running.
    recounted_stop : (t : SessionState) → t ≢ session.Running → stands ≡ t → record_state worded_facts own.batch own.rec ≡ record_by t
        → (u : Tables) → recounted (record_by t) u ≡ stopped at t u
    recounted_stop session.Running over is now u = absurd (over refl)
    recounted_stop session.Good over is now u =
        ap (λ n. record_after at rec.Good n at.remakes (batch_totals worded_facts own.batch) u)
        (spoiled_good f s own (worded sw) keeps.before.1 refl refl keeps.before.2 (stands_then ∙ is))
        ∙ ap (λ totals. record_after at rec.Good at.spoiled at.remakes totals u)
        (totals_good f s own (worded sw) keeps.before.1 refl refl keeps.before.2 sound others ran (stands_then ∙ is) now)
    recounted_stop session.Spoiled over is now u =
        ap (λ n. record_after at rec.Failed n at.remakes (batch_totals worded_facts own.batch) u)
        (spoiled_more f s own (worded sw) keeps.before.1 refl refl keeps.before.2 (stands_then ∙ is))
        ∙ ap (λ totals. record_after at rec.Failed (at.spoiled + 1) at.remakes totals u)
        (totals_spoiled f s own (worded sw) keeps.before.1 refl refl keeps.before.2 sound others ran (stands_then ∙ is) now)

    rows_recounted : (kept : List Entry) (marks : List Mark) (state : RecordState) → record_state worded_facts own.batch own.rec ≡ state
        → HaveSameRows (image (record { facts = worded_facts; kept = kept; marks = marks }))
        (recounted state (word_rows_after w stands (image (record { facts = f; kept = kept; marks = marks }))))
    rows_recounted kept marks state now = record {
      products = unmoved _ _ refl;
      lots = unmoved _ _ lots_then;
      batches = unmoved _ _ (batches_set f worded_facts.sessions f.remakes f.withdrawn own.batch own.rec sound others elsewhere _ refl);
      records = unmoved _ _ (records_set f worded_facts.sessions f.remakes f.withdrawn own.batch own.rec sound others state _ at.remakes now refl refl);
      groupings = unmoved _ _ groupings_then;
      sessions = unmoved _ _ sessions_then;
      words = words_then;
      blanks = unmoved _ _ blanks_then;
      remakes = unmoved _ _ remakes_then;
      replies = unmoved _ _ refl;
      marks = unmoved _ _ refl;
    }

pub rows_after_word : (c : Contents) (w : NewWord) (b r : List ℕ) → IsSound c.facts → IsSoundChange c.facts (change.AddsWord w b r session.Running)
    → HaveSameRows (image (record c { facts = changed c.facts (change.AddsWord w b r session.Running) })) (rows_after (writing.AddsWord w) (image c))
rows_after_word c w b r sound keeps =
    let f : Facts = c.facts in
    let s = w.session in
    let sw = w.sw in
    let runs = session.Running in
    let x : Session = keeps.before.0 in
    let g : Facts = with_word f s sw in
    let stands : session_state f (worded sw x) ≡ session_state f x = stands_then f w b r runs keeps ∙ sym keeps.before.2 in
    let same : (d q : List ℕ) → StandsSame f g d q = stand_same f s x (worded sw) keeps.before.1 refl refl stands in
    let more_known = knows f w b r runs keeps in
    record {
      products = unmoved _ _ refl;
      lots = unmoved _ _ (lots_then f w b r runs keeps);
      batches = unmoved _ _ (batches_stay f g sound more_known refl same (sessions_same f s x (worded sw) keeps.before.1 refl refl stands) refl);
      records = unmoved _ _ (records_stay f g sound more_known refl same);
      groupings = unmoved _ _ (groupings_then f w b r runs keeps);
      sessions = unmoved _ _ (sessions_then f w b r runs keeps);
      words = words_then f w b r runs keeps;
      blanks = unmoved _ _ (blanks_then f w b r runs keeps);
      remakes = unmoved _ _ (remakes_then f w b r runs keeps);
      replies = unmoved _ _ refl;
      marks = unmoved _ _ refl;
    }

pub rows_after_last_word : (c : Contents) (w : NewWord) (b r : List ℕ) (stands : SessionState) (p : RecordPlace) → stands ≢ session.Running → IsSound c.facts
    → IsSoundChange c.facts (change.AddsWord w b r stands) → IsPlaceOf c.facts b r p
    → HaveSameRows (image (record c { facts = changed c.facts (change.AddsWord w b r stands) })) (rows_after (writing.AddsLastWord w stands p) (image c))
rows_after_last_word c w b r stands p over sound keeps is =
    let f : Facts = c.facts in
    let s = w.session in
    let sw = w.sw in
    let word = change.AddsWord w b r stands in
    let x : Session = keeps.before.0 in
    let now : record_state (with_word f s sw) x.batch x.rec ≡ record_by stands =
    touched_stands f word sound keeps.before keeps.after (named x.batch x.rec) (record_by stands) (record_of_there f s x keeps.before.1) refl in
    subst (λ q. HaveSameRows (image (record c { facts = with_word f s sw })) (rows_after (writing.AddsLastWord w stands q) (image c)))
    (sym (own_placed f w b r stands keeps p is))
    (subst (HaveSameRows (image (record c { facts = with_word f s sw }))) (recounted_stop f w b r stands keeps sound stands over refl now _)
    (rows_recounted f w b r stands keeps sound c.kept c.marks (record_by stands) now))
