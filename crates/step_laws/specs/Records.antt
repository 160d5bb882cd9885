-- The effect of sessions on the state of their record, and the record that a reply names or a
-- change affects.
use Rattle.std.specs.Prelude.{◌≡◌, ℕ, Bool, false, List, slice_get, IsTrue, Option, Some, None, option_map}
use Rattle.job_facts.specs.declared.change.Change.{Change}
use Rattle.job_facts.specs.declared.change.Change.TheVariants as change
use Rattle.job_facts.specs.declared.facts.RecordState.{RecordState}
use Rattle.job_facts.specs.declared.facts.RecordState.TheVariants as rec
use Rattle.job_facts.specs.declared.facts.SessionState.{SessionState}
use Rattle.job_facts.specs.declared.facts.SessionState.TheVariants as session
use Rattle.job_facts.specs.declared.reply.Reply.{Reply}
use Rattle.job_facts.specs.declared.reply.Reply.TheVariants as reply
use Rattle.job_facts.specs.Facts.{Facts, RecordName, Session}
use Rattle.job_facts.specs.Sound.{changed}
use Rattle.job_facts.specs.States.{commands_for, goes_at, is_record, is_withdrawn, record_state, remakes_of, session_numbered, states_of}

-- Every status word of the session `x` lets the session continue.
abbrev pub WordsGo : Facts → Session → Type 0
WordsGo f x = (k sw : ℕ) → slice_get x.words k ≡ Some sw → IsTrue (goes_at (commands_for f x.batch x.rec) k sw)

-- the state of a record, from the state of the session that changed last
abbrev pub record_by : SessionState → RecordState
record_by session.Running = rec.Running
record_by session.Good = rec.Good
record_by session.Spoiled = rec.Failed

-- ---- the record of a reply

-- the record of session `s`
abbrev pub record_of_session : Facts → ℕ → Option RecordName
record_of_session f s = option_map (λ (x : Session). record { batch = x.batch; rec = x.rec }) (session_numbered f.sessions s)

-- the record that a reply names; `g` are the facts after the reply
abbrev pub record_of_reply : Facts → Reply → Option RecordName
record_of_reply g (reply.Opened b blank command r s) = Some (record { batch = b; rec = r })
record_of_reply g (reply.Next command k s) = record_of_session g s
record_of_reply g (reply.Good s) = record_of_session g s
record_of_reply g (reply.Spoiled s) = record_of_session g s
record_of_reply g (reply.Reset s) = record_of_session g s
record_of_reply g (reply.Waiting b r) = Some (record { batch = b; rec = r })
record_of_reply g (reply.Withdrawn b r) = Some (record { batch = b; rec = r })
record_of_reply g _ = None

-- The optional record is record `r` of batch `b`.
abbrev pub is_that_record : List ℕ → List ℕ → Option RecordName → Bool
is_that_record b r None = false
is_that_record b r (Some n) = is_record b r n

-- All records except the one that `reply` names have the same state in `f` and `g`.
abbrev pub OtherRecordsStand : Facts → Facts → Reply → Type 0
OtherRecordsStand f g reply = (b r : List ℕ) → is_that_record b r (record_of_reply g reply) ≡ false → record_state g b r ≡ record_state f b r

-- ---- the record of a change

-- the record that a change affects; `f` are the facts before the change
abbrev pub touches : Facts → Change → Option RecordName
touches f (change.Opens s b r) = Some (record { batch = b; rec = r })
touches f (change.AddsWord w b r stands) = record_of_session f w.session
touches f (change.Ends s) = record_of_session f s
touches f (change.Remakes b r) = Some (record { batch = b; rec = r })
touches f (change.Withdraws b r was) = Some (record { batch = b; rec = r })
touches f _ = None

-- the state of this record before the change
abbrev pub stood_before : Change → Option RecordState
stood_before (change.Opens s b r) = Some rec.Waiting
stood_before (change.AddsWord w b r stands) = Some rec.Running
stood_before (change.Ends s) = Some rec.Running
stood_before (change.Remakes b r) = Some rec.Failed
stood_before (change.Withdraws b r was) = Some was
stood_before _ = None

-- the state of this record after the change
abbrev pub stands_after : Change → Option RecordState
stands_after (change.Opens s b r) = Some rec.Running
stands_after (change.AddsWord w b r stands) = Some (record_by stands)
stands_after (change.Ends s) = Some rec.Failed
stands_after (change.Remakes b r) = Some rec.Waiting
stands_after (change.Withdraws b r was) = Some rec.Withdrawn
stands_after _ = None

-- Everything known about record `r` of batch `b` is the same in `f` and `g`.
pub record StandsSame (f g : Facts) (b r : List ℕ) : Type 0 where
  pub states : states_of g b r ≡ states_of f b r
  pub withdrawn : is_withdrawn g b r ≡ is_withdrawn f b r
  pub remakes : remakes_of g b r ≡ remakes_of f b r
  pub stands : record_state g b r ≡ record_state f b r

-- Everything known about the records that `change` doesn't affect is the same before and after it.
abbrev pub OthersStandSame : Facts → Change → Type 0
OthersStandSame f change = (b r : List ℕ) → is_that_record b r (touches f change) ≡ false → StandsSame f (changed f change) b r

-- If `change` affects a record of `f` and `stands` is a state, this record has the state in `g`.
abbrev pub TouchedStands : Facts → Facts → Change → Option RecordState → Type 0
TouchedStands f g change stands = (n : RecordName) (state : RecordState) → touches f change ≡ Some n → stands ≡ Some state → record_state g n.batch n.rec ≡ state
