-- The invariant of the shop floor, `Fine`.
use Rattle.std.proofs.Common.{◌≡◌, ◌≤◌, ◌<◌, ◌^◌, ◌⊎◌, ◌+◌, ◌==◌, ℕ, true, List, [], length, take, All, Option, Some}
use Rattle.std.specs.Prelude.{slice_get, ⊤}
use Rattle.std.specs.List.{list_any}
use Rattle.job_facts.specs.declared.reply.Reply.{Reply}
use Rattle.job_facts.specs.declared.reply.Reply.TheVariants as reply
use Rattle.job_facts.specs.declared.request.Call.{Call}
use Rattle.job_facts.specs.declared.request.Call.TheVariants.{Job, Release}
use Rattle.job_facts.specs.declared.request.Request.TheVariants as request
use Rattle.job_facts.specs.Facts.{Facts, Session}
use Rattle.job_facts.specs.Sound.{IsSound}
use Rattle.job_facts.specs.States.{session_numbered}
use Rattle.job_facts.specs.Contents.{Entry, Mark, mark_of}
use Rattle.step_laws.specs.Later.{AnswersWithin, WordsWithin}
use Rattle.arrivals.specs.HttpReplies.{HttpReply, http_reply_of, status_of}
use Rattle.arrivals.specs.Laws.{AreAbove}
use Rattle.wire.specs.ReplyText.{IsReply}
use Rattle.wire.specs.Sending.{ask_of}
use Rattle.feeder.specs.declared.feeder.Stand.{Stand}
use Rattle.feeder.specs.declared.feeder.Stand.TheVariants.{Asks, HasCommand}
use Rattle.feeder.specs.Table.{FeederState, IsAsked, IsFeeder, number_at}
use Rattle.feeder.specs.World.{Answered, Card, Machine, Packet, World, is_name_of}
use Rattle.feeder.proofs.Replies.{AnswerFits, OpenFits}
use Rattle.feeder.specs.ShopFloor.{IsBeginning, IsCountedGood, IsSessionOf, sequence_of}

abbrev pub Cards : Type 0
Cards = ℕ → Card

abbrev pub Machines : Type 0
Machines = List ℕ → Option Machine

-- the number of commands that the card with serial number `serial` received
abbrev pub got : Cards → ℕ → ℕ
got cards serial = length (cards serial).received

-- ---- packets

-- packet `p` was sent by the machine with the boot numbers `boots` and the feeder `feeder`; if it
-- has the number of the pending request, it contains that request
pub record IsSent (boots : List ℕ) (feeder : FeederState) (p : Packet) : Type 0 where
  pub boot : list_any (λ b. b == p.boot) boots ≡ true
  pub boot_least : 1 ≤ p.boot
  pub boot_most : p.boot ≤ 9999999999
  pub least : 1 ≤ p.place
  pub most : p.place ≤ 9999999
  pub asked : IsAsked p.boot p.place p.call
  pub late : p.boot ≡ feeder.boot → p.place ≤ feeder.place
  pub mine : p.boot ≡ feeder.boot → p.place ≡ feeder.place → (call : Call) → feeder.stand ≡ Asks call → p.call ≡ call

-- the card of the session received the command to which the status word of an `answer` request
-- belongs
abbrev pub HasDone : Facts → Cards → Call → Type 0
HasDone f cards (Job r) = AnswersWithin (got cards) f r
HasDone f cards (Release upto) = ⊤

pub record IsFinePacket (f : Facts) (cards : Cards) (machines : Machines) (boots : List ℕ → List ℕ) (p : Packet) : Type 0 where
  pub sender : Machine
  pub there : machines p.machine ≡ Some sender
  pub sent : IsSent (boots p.machine) sender.feeder p
  pub done : HasDone f cards p.call

-- packets of one machine with the same request number contain the same request
abbrev pub Agree : List Packet → Type 0
Agree packets = (i j : ℕ) (p q : Packet) → slice_get packets i ≡ Some p → slice_get packets j ≡ Some q → p.machine ≡ q.machine → p.boot ≡ q.boot → p.place ≡ q.place → p.call ≡ q.call

-- ---- replies

-- `f` and `marks` are as reply `r` to a request of `machine` states; this stays true for later
-- facts and marks
abbrev pub Fits : Facts → List Mark → List ℕ → Call → Reply → Type 0
Fits f marks machine (Job (request.Open b blank)) r = OpenFits f machine blank r
Fits f marks machine (Job (request.Answer s k sw)) r = AnswerFits f machine s k r
Fits f marks machine (Job _) r = ⊤
Fits f marks machine (Release upto) r = status_of r ≡ 200 → upto ≤ mark_of marks machine

-- packet `p` contains the pending request of its machine
pub record IsPending (machines : Machines) (p : Packet) : Type 0 where
  pub sender : Machine
  pub there : machines p.machine ≡ Some sender
  pub boot : sender.feeder.boot ≡ p.boot
  pub place : sender.feeder.place ≡ p.place
  pub stand : sender.feeder.stand ≡ Asks p.call

-- if the reply opens a session, the card with serial number `blank` has received no command yet
abbrev pub OpensFresh : Cards → ℕ → Reply → Type 0
OpensFresh cards blank (reply.Opened batch http_reply command rec s) = (cards blank).received ≡ []
OpensFresh cards blank _ = ⊤

abbrev pub Fresh : Cards → Call → Reply → Type 0
Fresh cards (Job (request.Open b blank)) r = OpensFresh cards blank r
Fresh cards _ r = ⊤

-- `http_reply` is the text of a reply to a packet of `client` with the request number `number`
pub record IsAnswered (f : Facts) (marks : List Mark) (cards : Cards) (machines : Machines) (packets : List Packet) (client : List ℕ) (number : ℕ) (http_reply : HttpReply) : Type 0 where
  pub packet : Packet
  pub at : ℕ
  pub there : slice_get packets at ≡ Some packet
  pub client_is : packet.machine ≡ client
  pub number_is : number_at packet.boot packet.place ≡ number
  pub reply : Reply
  pub is : IsReply reply
  pub text : http_reply_of reply ≡ http_reply
  pub fits : Fits f marks packet.machine packet.call reply
  pub fresh : IsPending machines packet → Fresh cards packet.call reply

pub record IsFineEntry (f : Facts) (marks : List Mark) (cards : Cards) (machines : Machines) (packets : List Packet) (e : Entry) : Type 0 where
  pub http_reply : IsAnswered f marks cards machines packets e.client e.number (record { status = e.status; body = e.body })
  pub ask : e.ask ≡ ask_of http_reply.packet.call

pub record IsFineAnswer (f : Facts) (marks : List Mark) (cards : Cards) (machines : Machines) (packets : List Packet) (g : Answered) : Type 0 where
  pub http_reply : IsAnswered f marks cards machines packets g.arrival.client g.arrival.number g.http_reply
  pub call : http_reply.packet.call ≡ g.arrival.request

-- the kept replies and the decided arrivals of machines satisfy `IsFineEntry` and `IsFineAnswer`;
-- nothing is required of offices
abbrev pub IsKeptFine : List (List ℕ) → Facts → List Mark → Cards → Machines → List Packet → Entry → Type 0
IsKeptFine names f marks cards machines packets e = is_name_of names e.client ≡ true → IsFineEntry f marks cards machines packets e

abbrev pub IsDecidedFine : List (List ℕ) → Facts → List Mark → Cards → Machines → List Packet → Answered → Type 0
IsDecidedFine names f marks cards machines packets g = is_name_of names g.arrival.client ≡ true → IsFineAnswer f marks cards machines packets g

-- ---- machines and cards

-- the inserted card belongs to session `s` of machine `name`, and it received the commands of the
-- session's record up to command `k`
pub record HasCard (f : Facts) (cards : Cards) (name : List ℕ) (card : Option ℕ) (s k : ℕ) : Type 0 where
  pub session : Session
  pub there : session_numbered f.sessions s ≡ Some session
  pub machine : session.machine ≡ name
  pub card_is : card ≡ Some session.blank
  pub received : (cards session.blank).received ≡ take (k + 1) (sequence_of f session)
  pub within : k < length (sequence_of f session)

abbrev pub Holds : Facts → Cards → List ℕ → Option ℕ → Stand → Type 0
Holds f cards name card (Asks (Job (request.Open b blank))) = card ≡ Some blank
Holds f cards name card (Asks (Job (request.Answer s k sw))) = HasCard f cards name card s k
Holds f cards name card (HasCommand s k) = HasCard f cards name card s k
Holds f cards name card _ = ⊤

pub record IsFineMachine (names : List (List ℕ)) (f : Facts) (cards : Cards) (boots : List ℕ) (name : List ℕ) (x : Machine) : Type 0 where
  pub feeder : IsFeeder x.feeder
  pub name_is : x.feeder.machine ≡ name
  pub listed : is_name_of names name ≡ true
  pub boot : list_any (λ b. b == x.feeder.boot) boots ≡ true
  pub holds : Holds f cards name x.card x.feeder.stand

abbrev pub IsFineCard : Facts → ℕ → List (List ℕ) → Type 0
IsFineCard f serial received = (received ≡ []) ⊎ ((x : Session) × IsSessionOf f serial x × IsBeginning received (sequence_of f x))

-- ---- the world

pub record Fine (names : List (List ℕ)) (w : World) : Type 0 where
  pub sound : IsSound w.contents.facts
  pub above : AreAbove w.contents
  pub marks : (m : List ℕ) → mark_of w.contents.marks m < 10 ^ 18
  pub words : WordsWithin (got w.cards) w.contents.facts
  pub cards : (serial : ℕ) → IsFineCard w.contents.facts serial (w.cards serial).received
  pub put_out : (serial : ℕ) → (w.cards serial).is_good ≡ true → IsCountedGood w.contents.facts serial
  pub machines : (name : List ℕ) (x : Machine) → w.machines name ≡ Some x → IsFineMachine names w.contents.facts w.cards (w.boots name) name x
  pub packets : All (IsFinePacket w.contents.facts w.cards w.machines w.boots) w.packets
  pub agree : Agree w.packets
  pub kept : All (IsKeptFine names w.contents.facts w.contents.marks w.cards w.machines w.packets) w.contents.kept
  pub decided : All (IsDecidedFine names w.contents.facts w.contents.marks w.cards w.machines w.packets) w.decided
  pub given : All (λ (g : Answered). (i : ℕ) × (slice_get w.decided i ≡ Some g)) w.replies
