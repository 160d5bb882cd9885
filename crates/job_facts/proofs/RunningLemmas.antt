-- A running session, from the plan of its record: its next command, and the effect of a status
-- word.
use Rattle.std.proofs.Common.{◌≡◌, ◌≤◌, ◌<◌, ◌^◌, ℕ, ◌+◌, ◌-◌, Bool, true, false, not, eqb, List, [], ◌∷◌, ◌++◌, length, Option, Some, None, refl, sym, ap, ◌∙◌, subst, inl, inr, arith, length-append, All}
use Rattle.std.specs.Prelude.{IfSome, if◌then◌else◌, option_and_then, option_map, slice_get, unwrap_or}
use Rattle.std.proofs.lemmas.Bool.{cases_lt, cond-true, cond-false, eqb-false, eq-eqb, ne_eqb}
use Rattle.std.proofs.lemmas.Option.{none-some, same_Some, slice_get-map, slice_get_within}
use Rattle.store_data.specs.declared.cursor.Cursor.{Cursor}
use Rattle.store_data.specs.Cursor.{cursor_at, cursors_of, is_tolerant_last_at, select_cursor}
use Rattle.store_data.specs.declared.status.Class.TheVariants as status
use Rattle.store_data.specs.Sequence.{Command, Plan, commands_of, goes_on, sequence}
use Rattle.store_data.proofs.CursorLemmas.{length-cursors_of, length-sequence}
use Rattle.job_facts.specs.declared.change.Change.TheVariants as change
use Rattle.job_facts.specs.declared.change.NewWord.{NewWord}
use Rattle.job_facts.specs.declared.facts.RecordState.TheVariants as rec
use Rattle.job_facts.specs.declared.facts.SessionState.{SessionState}
use Rattle.job_facts.specs.declared.facts.SessionState.TheVariants as session
use Rattle.job_facts.specs.declared.reply.Reply.TheVariants as reply
use Rattle.job_facts.specs.Facts.{Facts, Session, with_word, worded}
use Rattle.job_facts.specs.Handing.{Runs, Went}
use Rattle.job_facts.specs.Rows.{session_row, session_row_of}
use Rattle.job_facts.specs.Sound.{IsRecord, IsSession, IsSound, Makes}
use Rattle.job_facts.specs.States.{command_at, command_bytes, commands_for, commands_under, first_waiting, going, goes_at, is_tolerant, is_waiting, last_stops, last_stops_from, plan_for, record_state, record_state_of, records_named, session_cursor, session_numbered, session_state, state_with}
use Rattle.job_facts.specs.Steps.{take_word}
use Rattle.job_facts.proofs.PlanLemmas.{plan_there}
use Rattle.job_facts.proofs.Lists.{All-there, found_among, item_there}
use Rattle.job_facts.proofs.SessionLemmas.{session_split}
use Rattle.job_facts.proofs.SoundSessions.{running_parts, sound_word, waiting_is, word_after}

-- the bytes of a command of the sequence
bytes_of : (o : Option Command) (p : Option (List ℕ)) → p ≡ option_map (λ (c : Command). c.bytes) o → unwrap_or p [] ≡ command_bytes o
bytes_of None p e = ap (λ q. unwrap_or q []) e
bytes_of (Some c) p e = ap (λ q. unwrap_or q []) e

command_of_sequence : (plan : Plan) (n : ℕ) (p : Option (List ℕ)) → p ≡ slice_get (sequence plan) n
    → unwrap_or p [] ≡ command_bytes (slice_get (commands_of plan) n)
unfolding sequence
command_of_sequence plan n p e = bytes_of (slice_get (commands_of plan) n) p (e ∙ slice_get-map (λ (c : Command). c.bytes) (commands_of plan) n)

pub command_under : (f : Facts) (b r : List ℕ) (plan : Plan) (n : ℕ) (p : Option (List ℕ)) → plan_for f b r ≡ Some plan
    → p ≡ slice_get (sequence plan) n → command_at f b r n ≡ unwrap_or p []
command_under f b r plan n p there e = ap (λ o. command_bytes (slice_get (commands_under o) n)) there ∙ sym (command_of_sequence plan n p e)

-- the cursor of a session in which all status words let it continue
cursor_going : (f : Facts) (x : Session) (plan : Plan) (n : ℕ) (c : Cursor) → plan_for f x.batch x.rec ≡ Some plan
    → going (commands_of plan) x.words ≡ n → cursor_at plan n ≡ Some c → session_cursor f x ≡ c
unfolding session_cursor
cursor_going f x plan n c there many at =
    ap (λ o. unwrap_or (option_and_then (λ (p : Plan). cursor_at p (going (commands_of p) x.words)) o) (select_cursor 0)) there
    ∙ ap (λ k. unwrap_or (cursor_at plan k) (select_cursor 0)) many
    ∙ ap (λ o. unwrap_or o (select_cursor 0)) at

pub runs_there : (f : Facts) (s : ℕ) (x : Session) → IsSound f → session_numbered f.sessions s ≡ Some x
    → session_state f x ≡ session.Running → (plan : Plan) × Runs f s x plan
runs_there f s x sound there runs =
    let split = session_split f.sessions s x (worded 0) there in
    let is : IsSession f x = All-there (IsSession f) split.0 split.1 x (subst (All (IsSession f)) split.2 sound.sessions.each) in
    let plan = plan_there f x.batch x.rec sound is.there in
    let commands : commands_for f x.batch x.rec ≡ commands_of plan.0 = ap commands_under plan.1 in
    let parts = running_parts f x runs in
    let few : length x.words ≤ length (commands_for f x.batch x.rec) = is.words.few in
    let differ = eqb-false (length x.words) (length (commands_for f x.batch x.rec)) parts.1 in
    let before : length x.words < length (commands_of plan.0) = omega (arith, few, differ, ap length commands) in
    let goes : last_stops (commands_of plan.0) x.words ≡ false = ap (λ cs. last_stops cs x.words) (sym commands) ∙ parts.0 in
    let many : going (commands_of plan.0) x.words ≡ length x.words = cond-false (last_stops (commands_of plan.0) x.words) (length x.words - 1) (length x.words) goes in
    let at = item_there (cursors_of plan.0) (length x.words) (omega (arith, before, length-cursors_of plan.0 plan.2, length-sequence plan.0)) in (
      plan.0,
      record {
        there = there;
        runs = runs;
        plan_is = plan.1;
        is = plan.2;
        before = before;
        cursor = at.1 ∙ ap Some (sym (cursor_going f x plan.0 (length x.words) at.0 plan.1 many at.1));
      },
    )

-- ---- a new status word

abbrev pub word_at : ℕ → ℕ → ℕ → Cursor → NewWord
word_at s k sw c = record { session = s; index = k; sw = sw; cursor = c }

pub last_stops_push : (commands : List Command) (k : ℕ) (words : List ℕ) (sw : ℕ)
    → last_stops_from commands k (words ++ sw ∷ []) ≡ not (goes_at commands (k + length words) sw)
last_stops_push commands k [] sw = let e : k ≡ k + 0 = omega arith in ap (λ n. not (goes_at commands n sw)) e
last_stops_push commands k (w ∷ []) sw = refl
last_stops_push commands k (w ∷ v ∷ words) sw =
    let e : k + 1 + length (v ∷ words) ≡ k + length (w ∷ v ∷ words) = omega arith in
    last_stops_push commands (k + 1) (v ∷ words) sw ∙ ap (λ n. not (goes_at commands n sw)) e

module _ (f : Facts) (s sw : ℕ) (x : Session) (plan : Plan) (b r : List ℕ) (of_batch : x.batch ≡ b) (of_record : x.rec ≡ r) (sound : IsSound f) (is : Runs f s x plan)
    (small : sw < 2 ^ 16) where
  abbrev k : ℕ
  k = length x.words

  abbrev g : Facts
  g = with_word f s sw

  abbrev y : Session
  y = worded sw x

  commands_are : commands_for f x.batch x.rec ≡ commands_of plan
  commands_are = ap commands_under is.plan_is

  plan_kept : plan_for g y.batch y.rec ≡ Some plan
  unfolding plan_for
  plan_kept = is.plan_is

  stops_after : last_stops (commands_of plan) y.words ≡ not (goes_at (commands_of plan) k sw)
  stops_after = let e : 0 + k ≡ k = omega arith in last_stops_push (commands_of plan) 0 x.words sw ∙ ap (λ n. not (goes_at (commands_of plan) n sw)) e

  more_words : length y.words ≡ k + 1
  more_words = length-append x.words (sw ∷ [])

  state_after : session_state g y ≡ state_with (commands_of plan) y
  unfolding session_state
  state_after = ap (λ o. state_with (commands_under o) y) plan_kept

  not_ended : x.ended ≡ false
  not_ended = (running_parts f x is.runs).2

  row_after : session_row_of g s ≡ Some (session_row g y)
  row_after = ap (option_map (session_row g)) (word_after f s sw x is.there)

  makes : (sound_states : reply.the_data) (stands : SessionState) (c : Cursor) → (take_word f s k sw x).1 ≡ sound_states → session_state g y ≡ stands → session_cursor g y ≡ c
      → Makes f (take_word f s k sw x) sound_states (change.AddsWord (word_at s k sw c) b r stands)
  makes sound_states stands c same is_state is_cursor = record {
    step_is = ap (λ r. (g, r)) same;
    keeps = record { before = (x, is.there, is.runs, refl, of_batch, of_record); sound = sound_word f s sw x sound is.there is.runs small; after = (session_row g y, row_after, is_state, is_cursor) };
  }

  -- a status word that spoils the session
  pub spoiled_word : (c : Cursor) → goes_at (commands_of plan) k sw ≡ false → c ≡ session_cursor f x
      → Makes f (take_word f s k sw x) (reply.Spoiled s) (change.AddsWord (word_at s k sw c) b r session.Spoiled)
  spoiled_word c stops same =
      let stopped : last_stops (commands_of plan) y.words ≡ true = stops_after ∙ ap not stops in
      let back : going (commands_of plan) y.words ≡ k = cond-true (last_stops (commands_of plan) y.words) (length y.words - 1) (length y.words) stopped ∙ (omega (arith, more_words)) in
      makes (reply.Spoiled s) session.Spoiled c
      (rw (commands_are, stops) refl)
      (state_after ∙ (rw (not_ended, stopped) refl))
      (cursor_going g y plan k (session_cursor f x) plan_kept back is.cursor ∙ sym same)

  module _ (goes : goes_at (commands_of plan) k sw ≡ true) (next : Cursor) (at : cursor_at plan (k + 1) ≡ Some next) where
    went_on : last_stops (commands_of plan) y.words ≡ false
    went_on = stops_after ∙ ap not goes

    on : going (commands_of plan) y.words ≡ k + 1
    on = cond-false (last_stops (commands_of plan) y.words) (length y.words - 1) (length y.words) went_on ∙ more_words

    -- the last status word
    pub good_word : None ≡ slice_get (sequence plan) (k + 1) → Makes f (take_word f s k sw x) (reply.Good s) (change.AddsWord (word_at s k sw next) b r session.Good)
    good_word none =
        let all : k + 1 ≡ length (commands_of plan) = elim (cases_lt (k + 1) (length (commands_of plan))) [
          | inl more ↦ let item = item_there (sequence plan) (k + 1) (omega (arith, length-sequence plan)) in absurd (none-some item.0 (none ∙ item.1))
          | inr past ↦ omega (arith, is.before)
        ] in
        let full : eqb (k + 1) (length (commands_of plan)) ≡ true = eq-eqb (k + 1) (length (commands_of plan)) all in
        makes (reply.Good s) session.Good next
        (rw (commands_are, goes, full) refl)
        (state_after ∙ (rw (not_ended, went_on, more_words, full) refl))
        (cursor_going g y plan (k + 1) next plan_kept on at)

    -- a status word before the last
    pub next_word : (command : List ℕ) → Some command ≡ slice_get (sequence plan) (k + 1)
        → Makes f (take_word f s k sw x) (reply.Next command (k + 1) s) (change.AddsWord (word_at s k sw next) b r session.Running)
    next_word command more =
        let within : k + 1 < length (commands_of plan) = omega (arith, length-sequence plan, slice_get_within (sequence plan) (k + 1) command (sym more)) in
        let differ : eqb (k + 1) (length (commands_of plan)) ≡ false = ne_eqb (k + 1) (length (commands_of plan)) (λ e. omega (arith, within, e)) in
        let bytes : command_bytes (slice_get (commands_of plan) (k + 1)) ≡ command = sym (command_of_sequence plan (k + 1) (Some command) more) in
        makes (reply.Next command (k + 1) s) session.Running next
        (rw (commands_are, goes, differ) (ap (λ b. reply.Next b (k + 1) s) bytes))
        (state_after ∙ (rw (not_ended, went_on, more_words, differ) refl))
        (cursor_going g y plan (k + 1) next plan_kept on at)

-- ---- for the functions that send commands

-- The first waiting record belongs to its batch.
pub waiting_there : (f : Facts) (b r : List ℕ) → first_waiting f b ≡ Some r → IsRecord f b r
unfolding first_waiting
waiting_there f b r e = (found_among (λ q. is_waiting (record_state f b q)) (records_named f b) r e).1

-- The first waiting record is waiting.
pub waiting_state : (f : Facts) (b r : List ℕ) → first_waiting f b ≡ Some r → record_state_of f b r ≡ Some rec.Waiting
unfolding first_waiting record_state_of
waiting_state f b r e =
    let among = found_among (λ q. is_waiting (record_state f b q)) (records_named f b) r e in
    rw (among.1) (ap (λ state. Some state) (waiting_is (record_state f b r) among.0))

-- After a status word that lets the session continue, the cursor is at the next command.
pub went_next : (plan : Plan) (n sw : ℕ) (next : Option Cursor) → Went plan n sw next → IfSome next (λ (c : Cursor). cursor_at plan (n + 1) ≡ Some c)
went_next plan n sw None went = tt
went_next plan n sw (Some c) went = went.1

-- A status word of the class `Stop` doesn't let the session continue.
pub class_stops : (b : Bool) → (if b then status.Go else status.Stop) ≡ status.Stop → b ≡ false
class_stops true e = absurd (cc)
class_stops false e = refl

tolerant_of : (o : Option Command) (t : Bool) → option_map (λ (c : Command). c.is_tolerant_last) o ≡ Some t → is_tolerant o ≡ t
tolerant_of None t e = absurd (none-some t e)
tolerant_of (Some c) t e = same_Some c.is_tolerant_last t e

pub goes_by : (plan : Plan) (n sw : ℕ) (t : Bool) → is_tolerant_last_at plan n ≡ Some t → goes_at (commands_of plan) n sw ≡ goes_on sw t
goes_by plan n sw t e = ap (goes_on sw) (tolerant_of (slice_get (commands_of plan) n) t e)
