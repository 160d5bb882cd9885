-- The statements of the shop-floor theorem.
use Rattle.std.specs.Prelude.{◌≡◌, ◌≢◌, ◌≤◌, ◌<◌, ◌^◌, ◌⊎◌, ◌==◌, ℕ, true, false, List, [], ◌∷◌, ◌++◌, map, filter, take, All, slice_get, Some, None, ⊤}
use Rattle.store_data.specs.Sequence.{Command}
use Rattle.job_facts.specs.declared.facts.SessionState.TheVariants as session
use Rattle.job_facts.specs.declared.request.Call.{Call}
use Rattle.job_facts.specs.declared.request.Call.TheVariants.{Job, Release}
use Rattle.job_facts.specs.Facts.{Facts, Session}
use Rattle.job_facts.specs.Requests.{IsCall}
use Rattle.job_facts.specs.Sound.{IsName}
use Rattle.job_facts.specs.States.{commands_for, session_numbered, session_state}
use Rattle.job_facts.specs.Contents.{Contents, Entry, entry_of, mark_of, no_contents}
use Rattle.step_laws.specs.Ranges.{IsRanged}
use Rattle.arrivals.specs.Meaning.{Arrived, contents_after, http_reply_on, is_released}
use Rattle.feeder.specs.declared.world.Event.{Event}
use Rattle.feeder.specs.declared.world.Event.TheVariants as event
use Rattle.feeder.specs.declared.world.Stop.{Stop}
use Rattle.feeder.specs.Table.{number_at, release_of}
use Rattle.feeder.specs.World.{Answered, Machine, Packet, World, arrival_of, arrives}

-- ---- the facts of cards

-- `x` is a session of the card with serial number `serial`
pub record IsSessionOf (f : Facts) (serial : ℕ) (x : Session) : Type 0 where
  pub number : ℕ
  pub there : session_numbered f.sessions number ≡ Some x
  pub blank : x.blank ≡ serial

-- the card with serial number `serial` is counted good: it has a good session
abbrev pub IsCountedGood : Facts → ℕ → Type 0
IsCountedGood f serial = (x : Session) × IsSessionOf f serial x × (session_state f x ≡ session.Good)

-- the command sequence of the record of session `x`
abbrev pub sequence_of : Facts → Session → List (List ℕ)
sequence_of f x = map (λ (c : Command). c.bytes) (commands_for f x.batch x.rec)

abbrev pub IsBeginning : List (List ℕ) → List (List ℕ) → Type 0
IsBeginning xs ys = (rest : List (List ℕ)) × (xs ++ rest ≡ ys)

-- the card with serial number `serial` is charged to session `x` and to no other
abbrev pub IsChargedTo : Facts → ℕ → Session → Type 0
IsChargedTo f serial x = filter (λ (y : Session). y.blank == serial) f.sessions ≡ x ∷ []

-- ---- the shop floor

-- a card that is counted good received exactly the commands of its record, each once, in order
abbrev pub GoodCardsAreWhole : World → Type 0
GoodCardsAreWhole w = (serial : ℕ) (x : Session) → IsSessionOf w.contents.facts serial x → session_state w.contents.facts x ≡ session.Good
    → (w.cards serial).received ≡ sequence_of w.contents.facts x

-- a card that received any command is charged to exactly one session, and it received a prefix of
-- the commands of that session's record
abbrev pub CardsAreCharged : World → Type 0
CardsAreCharged w = (serial : ℕ) → (w.cards serial).received ≢ []
    → (x : Session) × IsChargedTo w.contents.facts serial x × IsBeginning (w.cards serial).received (sequence_of w.contents.facts x)

-- no record has two cards that are counted good
abbrev pub RecordsHaveOneCard : World → Type 0
RecordsHaveOneCard w = (one two : ℕ) (x y : Session) → IsSessionOf w.contents.facts one x → IsSessionOf w.contents.facts two y
    → session_state w.contents.facts x ≡ session.Good → session_state w.contents.facts y ≡ session.Good
    → x.batch ≡ y.batch → x.rec ≡ y.rec → one ≡ two

-- a card that was ejected as good is counted good
abbrev pub PutOutIsCounted : World → Type 0
PutOutIsCounted w = (serial : ℕ) → (w.cards serial).is_good ≡ true → IsCountedGood w.contents.facts serial

-- ---- releases

abbrev pub arrivals_of : List Answered → List Arrived
arrivals_of answered = map (λ (g : Answered). g.arrival) answered

-- the release that `machine` sent in `boot` was accepted: it was decided with status 200
pub record IsAccepted (w : World) (machine : List ℕ) (boot : ℕ) : Type 0 where
  pub at : ℕ
  pub release : Answered
  pub there : slice_get w.decided at ≡ Some release
  pub client : release.arrival.client ≡ machine
  pub number : release.arrival.number ≡ number_at boot 1
  pub request : release.arrival.request ≡ release_of boot
  pub accepted : release.http_reply.status ≡ 200

-- the arrival of packet `p`, with or without a crash, doesn't change the contents
abbrev pub ChangesNothing : World → Packet → Type 0
ChangesNothing w p = (stop : Stop) → (arrives w (arrival_of p) stop).contents ≡ w.contents

-- after an accepted release, no packet of an earlier boot of that machine changes the contents
abbrev pub OldBootsAreOver : World → Type 0
OldBootsAreOver w = (machine : List ℕ) (boot : ℕ) → IsAccepted w machine boot
    → All (λ (p : Packet). p.machine ≡ machine → p.boot < boot → ChangesNothing w p) w.packets

-- ---- decided arrivals

-- the contents are those after the decided arrivals
abbrev pub DecidedIsMeant : World → Type 0
DecidedIsMeant w = w.contents ≡ contents_after no_contents (arrivals_of w.decided)

-- each decided arrival got the reply that it has after the arrivals before it
abbrev pub DecidedIsAnswered : World → Type 0
DecidedIsAnswered w = (i : ℕ) (g : Answered) → slice_get w.decided i ≡ Some g
    → g.http_reply ≡ http_reply_on (contents_after no_contents (arrivals_of (take i w.decided))) g.arrival

-- every acknowledged arrival was decided
abbrev pub AcknowledgedIsDecided : World → Type 0
AcknowledgedIsDecided w = All (λ (g : Answered). (i : ℕ) × (slice_get w.decided i ≡ Some g)) w.replies

-- the repeat of a decided arrival gets the same reply again, unless its number is released
abbrev pub RepeatsGetTheirReply : World → Type 0
RepeatsGetTheirReply w = All (λ (g : Answered). is_released w.contents.marks g.arrival ≡ false → http_reply_on w.contents g.arrival ≡ g.http_reply) w.decided

-- no reply is kept under the number of arrival `a`, and the number isn't released
pub record IsFirstArrival (c : Contents) (a : Arrived) : Type 0 where
  pub live : is_released c.marks a ≡ false
  pub none : entry_of c.kept a.client a.number ≡ None

-- arrival `a` gets the reply that is kept under its number, which is a reply to the same request
-- bytes
pub record GetsKept (c : Contents) (a : Arrived) : Type 0 where
  pub entry : Entry
  pub kept : entry_of c.kept a.client a.number ≡ Some entry
  pub ask : entry.ask ≡ a.ask
  pub http_reply : http_reply_on c a ≡ record { status = entry.status; body = entry.body }

-- every packet has a released number, or is a first arrival, or gets the kept reply
abbrev pub InFlight : World → Type 0
InFlight w = All (λ (p : Packet).
    let a = arrival_of p in (is_released w.contents.marks a ≡ true) ⊎ IsFirstArrival w.contents a ⊎ GetsKept w.contents a) w.packets

-- an acknowledged release of a machine is in force: the release mark of the machine has reached it
abbrev pub ReleasesAreKept : World → Type 0
ReleasesAreKept w = All (λ (g : Answered). (x : Machine) (upto : ℕ) → w.machines g.arrival.client ≡ Some x
    → g.arrival.request ≡ Release upto → g.http_reply.status ≡ 200 → upto ≤ mark_of w.contents.marks g.arrival.client) w.replies

-- all decided arrivals with the client, the number and the request bytes of `a` are the same
-- request
abbrev pub IsOneRequest : List Answered → Arrived → Type 0
IsOneRequest decided a = All (λ (h : Answered). h.arrival.client ≡ a.client → h.arrival.number ≡ a.number → h.arrival.ask ≡ a.ask → h.arrival.request ≡ a.request) decided

-- the release mark of every client, including an office, has reached each of its accepted releases
-- whose request bytes belong to one request
abbrev pub MarksReachReleases : World → Type 0
MarksReachReleases w = All (λ (g : Answered). (upto : ℕ) → g.arrival.request ≡ Release upto → g.http_reply.status ≡ 200
    → IsOneRequest w.decided g.arrival → upto ≤ mark_of w.contents.marks g.arrival.client) w.decided

-- ---- the precondition

-- the names of a request are names, and its numbers are in their ranges
abbrev pub IsRangedCall : Call → Type 0
IsRangedCall (Job r) = IsRanged r
IsRangedCall (Release upto) = IsCall (Release upto)

abbrev pub IsEvent : Event → Type 0
IsEvent (event.Insert machine batch blank) = IsName machine × IsName batch × (blank < 10 ^ 18)
IsEvent (event.Send machine) = IsName machine
IsEvent (event.Arrive packet stop) = ⊤
IsEvent (event.Deliver reply) = ⊤
IsEvent (event.Card machine sw) = IsName machine × (sw < 2 ^ 16)
IsEvent (event.Power machine boot) = IsName machine × (1 ≤ boot) × (boot ≤ 9999999999)
IsEvent (event.Office arrival stop) =
    IsName arrival.client × (1 ≤ arrival.number) × (arrival.number < 10 ^ 18) × IsRangedCall arrival.request
