-- The rows of a record and its batch after a session of the record stops running, and the
-- preconditions of changes to a session.
use Rattle.std.proofs.Common.{◌≡◌, ℕ, ◌+◌, false, List, Some, sym, ap, subst, ◌∙◌, arith}
use Rattle.std.specs.Prelude.{count_by}
use Rattle.std.proofs.lemmas.Option.{same_Some}
use Rattle.job_facts.specs.declared.change.Change.{Change}
use Rattle.job_facts.specs.declared.facts.RecordState.TheVariants as rec
use Rattle.job_facts.specs.declared.facts.SessionState.{SessionState}
use Rattle.job_facts.specs.declared.facts.SessionState.TheVariants as session
use Rattle.job_facts.specs.Accounts.{batch_totals, record_states, session_states, totals_by}
use Rattle.job_facts.specs.Facts.{Facts, Session, at_session}
use Rattle.job_facts.specs.Sound.{HoldsBefore, IsRecord, IsSound, changed}
use Rattle.job_facts.specs.States.{is_record, is_spoiled, record_state, session_numbered, session_state, states_of}
use Rattle.job_facts.proofs.Lists.{count_by-at}
use Rattle.step_laws.specs.Records.{StandsSame, is_that_record, record_of_session, touches}
use Rattle.step_laws.proofs.ChangeStands.{others_same, record_of_there}
use Rattle.step_laws.proofs.Numbered.{session_sound}
use Rattle.step_laws.proofs.RecordStands.{named}
use Rattle.table_rows.specs.After.{less, more, one_spoiled}
use Rattle.table_rows.specs.declared.writing.RecordPlace.{RecordPlace}
use Rattle.image_laws.specs.WritingOf.{IsPlaceOf, IsPlaceOfSession}
use Rattle.image_laws.proofs.OneRecord.{totals_pass}
use Rattle.image_laws.proofs.OneSession.{AreAround, record_around, sessions_around}
use Rattle.image_laws.proofs.Staying.{totals_are}
use Rattle.image_laws.proofs.Totals.{session_good, session_spoiled}
use Rattle.image_laws.proofs.Touching.{is_place, place_of}

-- ---- the record and its batch after the change

-- `change` is applied to session `s`, which is running. It keeps its batch and its record.
module _ (f : Facts) (s : ℕ) (x : Session) (change : Session → Session) (there : session_numbered f.sessions s ≡ Some x)
    (batch : (change x).batch ≡ x.batch) (of_rec : (change x).rec ≡ x.rec) (runs : session_state f x ≡ session.Running) where
  abbrev then_facts : Facts
  then_facts = record f { sessions = at_session s change f.sessions }

  states_then : (t : SessionState) → session_state f (change x) ≡ t → AreAround (session_states f x.batch) (session_states then_facts x.batch) session.Running t
  states_then t is = subst (λ u. AreAround (session_states f x.batch) (session_states then_facts x.batch) u t) runs
      (subst (λ u. AreAround (session_states f x.batch) (session_states then_facts x.batch) (session_state f x) u) is (sessions_around f s x change there batch of_rec))

  own_then : (t : SessionState) → session_state f (change x) ≡ t → AreAround (states_of f x.batch x.rec) (states_of then_facts x.batch x.rec) session.Running t
  own_then t is = subst (λ u. AreAround (states_of f x.batch x.rec) (states_of then_facts x.batch x.rec) u t) runs
      (subst (λ u. AreAround (states_of f x.batch x.rec) (states_of then_facts x.batch x.rec) (session_state f x) u) is (record_around f s x change there batch of_rec))

  pub spoiled_good : session_state f (change x) ≡ session.Good → count_by is_spoiled (states_of then_facts x.batch x.rec) ≡ count_by is_spoiled (states_of f x.batch x.rec)
  spoiled_good is =
      let at = own_then session.Good is in
      let then_many : count_by is_spoiled (states_of f x.batch x.rec) ≡ count_by is_spoiled at.before + (0 + count_by is_spoiled at.after) =
      ap (count_by is_spoiled) at.was_is ∙ count_by-at is_spoiled at.before at.after session.Running in
      let now_many : count_by is_spoiled (states_of then_facts x.batch x.rec) ≡ count_by is_spoiled at.before + (0 + count_by is_spoiled at.after) =
      ap (count_by is_spoiled) at.now_is ∙ count_by-at is_spoiled at.before at.after session.Good in
      now_many ∙ sym then_many

  pub spoiled_more : session_state f (change x) ≡ session.Spoiled
      → count_by is_spoiled (states_of then_facts x.batch x.rec) ≡ count_by is_spoiled (states_of f x.batch x.rec) + 1
  spoiled_more is =
      let at = own_then session.Spoiled is in
      let then_many : count_by is_spoiled (states_of f x.batch x.rec) ≡ count_by is_spoiled at.before + (0 + count_by is_spoiled at.after) =
      ap (count_by is_spoiled) at.was_is ∙ count_by-at is_spoiled at.before at.after session.Running in
      let now_many : count_by is_spoiled (states_of then_facts x.batch x.rec) ≡ count_by is_spoiled at.before + (1 + count_by is_spoiled at.after) =
      ap (count_by is_spoiled) at.now_is ∙ count_by-at is_spoiled at.before at.after session.Spoiled in
      omega (arith, then_many, now_many)

  module _ (sound : IsSound f) (others : (c q : List ℕ) → is_record c q (named x.batch x.rec) ≡ false → StandsSame f then_facts c q)
      (was : record_state f x.batch x.rec ≡ rec.Running) where
    recorded : IsRecord f x.batch x.rec
    recorded = (session_sound f s x sound there).there

    pub totals_good : session_state f (change x) ≡ session.Good → record_state then_facts x.batch x.rec ≡ rec.Good
        → batch_totals then_facts x.batch ≡ more rec.Good (less rec.Running (batch_totals f x.batch))
    totals_good is now =
        let at = states_then session.Good is in
        let records = record_states then_facts x.batch in
        totals_are then_facts x.batch ∙ ap (totals_by records) at.now_is ∙ session_good records at.before at.after ∙ ap (totals_by records) (sym at.was_is)
        ∙ totals_pass f then_facts.sessions f.remakes f.withdrawn x.batch x.rec sound others recorded rec.Running rec.Good was now (session_states f x.batch)
        ∙ ap (λ n. more rec.Good (less rec.Running n)) (sym (totals_are f x.batch))

    pub totals_spoiled : session_state f (change x) ≡ session.Spoiled → record_state then_facts x.batch x.rec ≡ rec.Failed
        → batch_totals then_facts x.batch ≡ one_spoiled (more rec.Failed (less rec.Running (batch_totals f x.batch)))
    totals_spoiled is now =
        let at = states_then session.Spoiled is in
        let records = record_states then_facts x.batch in
        totals_are then_facts x.batch ∙ ap (totals_by records) at.now_is ∙ session_spoiled records at.before at.after
        ∙ ap (λ ss. one_spoiled (totals_by records ss)) (sym at.was_is)
        ∙ ap one_spoiled (totals_pass f then_facts.sessions f.remakes f.withdrawn x.batch x.rec sound others recorded rec.Running rec.Failed was now (session_states f x.batch))
        ∙ ap (λ n. one_spoiled (more rec.Failed (less rec.Running n))) (sym (totals_are f x.batch))

-- ---- the record that a change to a session affects

-- It is the record of this session.
module _ (f : Facts) (s : ℕ) (x : Session) (there : session_numbered f.sessions s ≡ Some x) where
  pub other_records : (change : Change) → touches f change ≡ record_of_session f s → IsSound f → HoldsBefore f change
      → (c q : List ℕ) → is_record c q (named x.batch x.rec) ≡ false → StandsSame f (changed f change) c q
  other_records change own sound holds_before c q other = others_same f change sound holds_before c q (ap (is_that_record c q) (own ∙ record_of_there f s x there) ∙ other)

  pub own_place : (p : RecordPlace) → IsPlaceOfSession f s p → p ≡ place_of f x.batch x.rec
  own_place p given =
      let same : given.0 ≡ x = same_Some given.0 x (sym given.1 ∙ there) in
      is_place f x.batch x.rec p (subst (λ (z : Session). IsPlaceOf f z.batch z.rec p) same given.2)
