-- The states of records after a change: the affected record has the state that the change
-- describes, and the others are unchanged.
use Rattle.std.proofs.Common.{◌≡◌, ℕ, true, false, List, Some, ◌⊎◌, inl, inr, refl, sym, ap, ◌∙◌, subst}
use Rattle.std.specs.Prelude.{bytes_eq, option_map}
use Rattle.std.specs.List.{list_any}
use Rattle.std.proofs.lemmas.Option.{cond_some, none-some, same_Some}
use Rattle.job_facts.specs.declared.change.Change.{Change}
use Rattle.job_facts.specs.declared.change.Change.TheVariants as change
use Rattle.job_facts.specs.declared.facts.RecordState.{RecordState}
use Rattle.job_facts.specs.declared.facts.RecordState.TheVariants as rec
use Rattle.job_facts.specs.declared.facts.SessionState.{SessionState}
use Rattle.job_facts.specs.declared.facts.SessionState.TheVariants as session
use Rattle.job_facts.specs.declared.rows.SessionRow.{SessionRow}
use Rattle.job_facts.specs.Facts.{Facts, RecordName, Session, ended, new_session, with_remake, with_withdrawal, with_word, worded}
use Rattle.job_facts.specs.Rows.{session_row, session_row_of}
use Rattle.job_facts.specs.Sound.{HoldsAfter, HoldsBefore, IsRecord, IsSound, changed}
use Rattle.job_facts.specs.States.{is_withdrawn, record_state, record_state_of, records_named, remakes_of, session_numbered, session_state, states_of}
use Rattle.job_facts.proofs.SessionLemmas.{session_changed, session_split}
use Rattle.job_facts.proofs.SoundFacts.{is_for}
use Rattle.step_laws.specs.Records.{OthersStandSame, StandsSame, TouchedStands, is_that_record, record_by, record_of_session, stands_after, stood_before}
use Rattle.step_laws.proofs.Kept.{batch_knows, lot_knows, product_knows, state_same}
use Rattle.step_laws.proofs.RecordStands.{changed_states, named, opened_states, record_same, remakes_elsewhere, same_states, states_known, withdrawn_elsewhere}
use Rattle.step_laws.proofs.ReplyFacts.{changed_record, end_is, new_record, remade_says, withdrawn_says, word_is}
use Rattle.step_laws.proofs.StepCases.{IsOwn}

-- ---- the other records

as_much : (f g : Facts) (b r : List ℕ) → states_of g b r ≡ states_of f b r → is_withdrawn g b r ≡ is_withdrawn f b r → remakes_of g b r ≡ remakes_of f b r → StandsSame f g b r
as_much f g b r states withdrawn remakes = record { states = states; withdrawn = withdrawn; remakes = remakes; stands = record_same f g b r states withdrawn remakes }

pub record_of_there : (f : Facts) (s : ℕ) (x : Session) → session_numbered f.sessions s ≡ Some x → record_of_session f s ≡ Some (named x.batch x.rec)
record_of_there f s x there = ap (option_map (λ (y : Session). record { batch = y.batch; rec = y.rec })) there

-- The record isn't the record of the session.
not_for : (f : Facts) (s : ℕ) (x : Session) (b r : List ℕ) → session_numbered f.sessions s ≡ Some x → is_that_record b r (record_of_session f s) ≡ false → is_for b r x ≡ false
not_for f s x b r there other = sym (ap (is_that_record b r) (record_of_there f s x there)) ∙ other

pub others_same : (f : Facts) (change : Change) → IsSound f → HoldsBefore f change → OthersStandSame f change
others_same f change.Nothing sound holds_before b r other = as_much f f b r refl refl refl
others_same f (change.AddsProduct p) sound holds_before b r other = as_much f _ b r (states_known f _ b r sound (product_knows f p) refl) refl refl
others_same f (change.AddsLot l) sound holds_before b r other = as_much f _ b r (states_known f _ b r sound (lot_knows f l) refl) refl refl
others_same f (change.AddsBatch n) sound holds_before b r other = as_much f _ b r (states_known f _ b r sound (batch_knows f _) refl) refl refl
others_same f (change.Opens s c q) sound holds_before b r other = as_much f _ b r (opened_states f (new_session s.machine c q s.blank) b r other) refl refl
others_same f (change.AddsWord w d q stands) sound holds_before b r other =
    as_much f _ b r (changed_states f w.session holds_before.0 (worded w.sw) holds_before.1 refl refl b r (not_for f w.session holds_before.0 b r holds_before.1 other)) refl refl
others_same f (change.Ends s) sound holds_before b r other =
    let x = holds_before.1 in
    as_much f _ b r (changed_states f s x.0 ended x.1 refl refl b r (not_for f s x.0 b r x.1 other)) refl refl
others_same f (change.Discards blank lot) sound holds_before b r other = as_much f _ b r (same_states f _ f.remakes f.withdrawn f.closed b r) refl refl
others_same f (change.Remakes c q) sound holds_before b r other =
    as_much f _ b r (same_states f f.discarded _ f.withdrawn f.closed b r) refl (remakes_elsewhere f c q b r other)
others_same f (change.Withdraws c q was) sound holds_before b r other =
    as_much f _ b r (same_states f f.discarded f.remakes _ f.closed b r) (withdrawn_elsewhere f c q b r other) refl
others_same f (change.Closes c) sound holds_before b r other = as_much f _ b r (same_states f f.discarded f.remakes f.withdrawn _ b r) refl refl

-- ---- the affected record

at_name : (g : Facts) (m n : RecordName) (s t : RecordState) → record_state g m.batch m.rec ≡ s → Some m ≡ Some n → Some s ≡ Some t → record_state g n.batch n.rec ≡ t
at_name g m n s t is name state = subst (λ (k : RecordName). record_state g k.batch k.rec ≡ t) (same_Some m n name) (is ∙ same_Some s t state)

-- the state of a record that its batch contains
pub state_of_named : (f : Facts) (b r : List ℕ) (state : RecordState) → record_state_of f b r ≡ Some state → IsRecord f b r × (record_state f b r ≡ state)
unfolding record_state_of
state_of_named f b r state given = cond_some (list_any (bytes_eq r) (records_named f b)) (record_state f b r) state given

-- The record of a running session is running.
session_stood : (f : Facts) (s : ℕ) (x : Session) → IsSound f → session_numbered f.sessions s ≡ Some x → session_state f x ≡ session.Running
    → record_state f x.batch x.rec ≡ rec.Running
session_stood f s x sound there runs =
    let split = session_split f.sessions s x (λ y. y) there in
    ap (λ xs. record_state (record f { sessions = xs }) x.batch x.rec) split.2
    ∙ changed_record f split.0 split.1 x x.words x.ended session.Running sound split.2 runs runs

own_of : (f : Facts) (s : ℕ) (x : Session) → session_numbered f.sessions s ≡ Some x → session_state f x ≡ session.Running → IsOwn f x.machine s x
own_of f s x there runs = record { there = there; own = refl; runs = runs }

-- the session after its status word
word_left : (f : Facts) (s sw : ℕ) (x : Session) (stands : SessionState) (row : SessionRow) → session_numbered f.sessions s ≡ Some x
    → session_row_of (with_word f s sw) s ≡ Some row → row.stands ≡ stands → session_state f (worded sw x) ≡ stands
word_left f s sw x stands row there is state =
    let g : Facts = with_word f s sw in
    let now : session_row_of g s ≡ Some (session_row g (worded sw x)) = ap (option_map (session_row g)) (session_changed f.sessions s x (worded sw) there) in
    sym (state_same f g.sessions (worded sw x)) ∙ ap (λ (r : SessionRow). r.stands) (same_Some (session_row g (worded sw x)) row (sym now ∙ is)) ∙ state

pub touched_stood : (f : Facts) (change : Change) → IsSound f → HoldsBefore f change → TouchedStands f f change (stood_before change)
touched_stood f (change.Opens s b r) sound holds_before n t name is = at_name f (named b r) n rec.Waiting t (state_of_named f b r rec.Waiting holds_before.0).1 name is
touched_stood f (change.AddsWord w d q stands) sound holds_before n t name is =
    let x = holds_before.0 in
    at_name f (named x.batch x.rec) n rec.Running t (session_stood f w.session x sound holds_before.1 holds_before.2) (sym (record_of_there f w.session x holds_before.1) ∙ name) is
touched_stood f (change.Ends s) sound holds_before n t name is =
    let x = holds_before.1.0 in
    at_name f (named x.batch x.rec) n rec.Running t (session_stood f s x sound holds_before.1.1 holds_before.1.2) (sym (record_of_there f s x holds_before.1.1) ∙ name) is
touched_stood f (change.Remakes b r) sound holds_before n t name is = at_name f (named b r) n rec.Failed t (state_of_named f b r rec.Failed holds_before).1 name is
touched_stood f (change.Withdraws b r was) sound holds_before n t name is = at_name f (named b r) n was t (state_of_named f b r was holds_before.0).1 name is
touched_stood f _ sound holds_before n t name is = absurd (none-some t is)

-- A withdrawn record was waiting or failed before.
withdrawn_now : (f : Facts) (b r : List ℕ) (was : RecordState) → record_state_of f b r ≡ Some was → (was ≡ rec.Waiting) ⊎ (was ≡ rec.Failed)
    → record_state_of (with_withdrawal f b r) b r ≡ Some rec.Withdrawn
withdrawn_now f b r was stood either = elim either [
  | inl waited ↦ withdrawn_says f b r false (stood ∙ ap Some waited)
  | inr failed ↦ withdrawn_says f b r true (stood ∙ ap Some failed)
]

pub touched_stands : (f : Facts) (change : Change) → IsSound f → HoldsBefore f change → HoldsAfter (changed f change) change
    → TouchedStands f (changed f change) change (stands_after change)
touched_stands f (change.Opens s b r) sound holds_before after n t name is =
    let was = state_of_named f b r rec.Waiting holds_before.0 in
    at_name _ (named b r) n rec.Running t (new_record f s.machine b s.blank r sound was.0 was.1) name is
touched_stands f (change.AddsWord w d q stands) sound holds_before after n t name is =
    let s = w.session in
    let x = holds_before.0 in
    let now = word_is f x.machine s x sound (own_of f s x holds_before.1 holds_before.2) w.sw stands (word_left f s w.sw x stands after.0 holds_before.1 after.1 after.2) in
    at_name _ (named x.batch x.rec) n (record_by stands) t now.rec (sym (record_of_there f s x holds_before.1) ∙ name) is
touched_stands f (change.Ends s) sound holds_before after n t name is =
    let x = holds_before.1.0 in
    let now = end_is f x.machine s x sound (own_of f s x holds_before.1.1 holds_before.1.2) in
    at_name _ (named x.batch x.rec) n rec.Failed t now.rec (sym (record_of_there f s x holds_before.1.1) ∙ name) is
touched_stands f (change.Remakes b r) sound holds_before after n t name is =
    at_name _ (named b r) n rec.Waiting t (state_of_named (with_remake f b r) b r rec.Waiting (remade_says f b r sound holds_before)).1 name is
touched_stands f (change.Withdraws b r was) sound holds_before after n t name is =
    at_name _ (named b r) n rec.Withdrawn t (state_of_named (with_withdrawal f b r) b r rec.Withdrawn (withdrawn_now f b r was holds_before.0 holds_before.1)).1 name is
touched_stands f _ sound holds_before after n t name is = absurd (none-some t is)
