-- The course and the end of a feed, by the replies that it gets.
use Rattle.std.specs.Prelude.{◌≡◌, ◌<◌, ℕ, List, [], ◌∷◌, ◌++◌, map, Option, Some, None, option_map, Result, Ok, Err, Vec, codes, ⊤}
use Rattle.std.specs.Global.{Global}
use Rattle.std.specs.Io.KnownBytes.{Appends, Keeps}
use Rattle.job_facts.specs.declared.reply.Reply.{Reply}
use Rattle.job_facts.specs.declared.request.Call.{Call}
use Rattle.text_io.specs.Inputs.{Agrees}
use Rattle.text_io.specs.Written.{AppendsBeginning}
use Rattle.text_io.specs.declared.stop.RunStop.{RunStop}
use Rattle.text_io.specs.declared.stop.RunStop.TheVariants.{Own, Stream}
use Rattle.text_io.specs.declared.stop.StreamFault.TheVariants as stream
use Rattle.wire.specs.Sending.{sending_of}
use Rattle.feeder.specs.declared.feeder.Stand.{Stand}
use Rattle.feeder.specs.declared.feeder.Stand.TheVariants.{Asks, HasCommand, Idle, Stale}
use Rattle.feeder.specs.Reading.{IsRead}
use Rattle.feeder.specs.Table.{asked}
use Rattle.feeding.specs.declared.engine.FeedFault.{FeedFault}
use Rattle.feeding.specs.declared.engine.FeedFault.TheVariants as fault
use Rattle.feeding.specs.Cards.{card_of}
use Rattle.feeding.specs.Feeds.{Feed, hears}

-- ---- tries

-- the message that was sent, and the bytes that came back, if any
pub record Try : Type 0 where
  pub sent : List ℕ
  pub came : Option (List ℕ)

abbrev pub try_of : List ℕ → Option (Vec ℕ Global) → Try
try_of message came = record { sent = message; came = option_map (λ v. v.items) came }

-- a try with the reply that came back, if it is one
pub record Heard : Type 0 where
  pub one : Try
  pub reply : Option Reply

-- `sent` is the message of the pending request
abbrev pub IsSent : List ℕ → Option (ℕ × Call) → List ℕ → Type 0
IsSent machine None sent = ⊥
IsSent machine (Some ask) sent = sent ≡ sending_of machine ask.0 ask.1

-- the received bytes are the complete text of `reply`, or of no reply
abbrev pub IsHeard : Option (List ℕ) → Option Reply → Type 0
IsHeard None reply = reply ≡ None
IsHeard (Some bytes) reply = IsRead bytes reply

pub record IsTry (f : Feed) (h : Heard) : Type 0 where
  pub sent : IsSent f.feeder.machine (asked f.feeder) h.one.sent
  pub read : IsHeard h.one.came h.reply
  -- at most ten consecutive tries change nothing
  pub few : f.tries < 10

-- ---- a complete feed

abbrev pub AreTries : Feed → List Heard → Type 0
AreTries f [] = ⊤
AreTries f (h ∷ hs) = IsTry f h × AreTries (hears f h.reply) hs

abbrev pub feed_after : Feed → List Heard → Feed
feed_after f [] = f
feed_after f (h ∷ hs) = feed_after (hears f h.reply) hs

-- the output of all tries
abbrev pub printed : Feed → List Heard → List ℕ
printed f [] = []
printed f (h ∷ hs) = (hears f h.reply).text ++ printed (hears f h.reply) hs

-- exactly the messages of the tries `hs` were exchanged, in this order
abbrev pub Logs : Option (List Try) → Option (List Try) → List Heard → Type 0
Logs before after hs = after ≡ option_map (λ l. l ++ map (λ (h : Heard). h.one) hs) before

-- the next line is malformed
abbrev pub IsBadLine : List (List ℕ) → Type 0
IsBadLine [] = ⊥
IsBadLine (l ∷ ls) = card_of l ≡ None

-- the state of the feed when it ends: all cards were processed; or the next line is malformed; or a
-- later boot released the numbers; or ten tries changed nothing; or a write or an allocation failed
abbrev pub EndsBy : Feed → Result (Unit {0}) (RunStop FeedFault) → Type 0
EndsBy f (Ok u) = (f.feeder.stand ≡ Idle) × (f.left ≡ [])
EndsBy f (Err (Own fault.BadLine)) = (f.feeder.stand ≡ Idle) × IsBadLine f.left
EndsBy f (Err (Own fault.Stale)) = f.feeder.stand ≡ Stale
EndsBy f (Err (Own fault.NoReply)) = f.tries ≡ 10
EndsBy f (Err (Stream stream.WriteFailed)) = ⊤
EndsBy f (Err (Stream stream.ReadFailed)) = ⊥
EndsBy f (Err (Stream stream.Memory)) = f.tries < 10

-- `text` was written, or only a prefix of it if the writer failed
abbrev pub Written : Option (List ℕ) → Option (List ℕ) → List ℕ → Result (Unit {0}) (RunStop FeedFault) → Type 0
Written before after text (Err (Stream stream.WriteFailed)) = AppendsBeginning before after text
Written before after text _ = Appends before after text

-- the tries were exchanged; an allocation may fail during a try
abbrev pub Exchanged : Option (List Try) → Option (List Try) → List Heard → Result (Unit {0}) (RunStop FeedFault) → Type 0
Exchanged before after hs (Err (Stream stream.Memory)) = ⊤
Exchanged before after hs _ = Logs before after hs

-- feed `f` continues with the tries `hs` and ends with `result`
pub record Goes (f : Feed) (hs : List Heard) (log_before log_after : Option (List Try)) (before after : Option (List ℕ)) (result : Result (Unit {0}) (RunStop FeedFault)) : Type 0 where
  pub tries : AreTries f hs
  pub exchanged : Exchanged log_before log_after hs result
  pub ends : EndsBy (feed_after f hs) result
  pub written : Written before after (printed f hs) result

-- a feed ends; if the reader failed, nothing was printed or sent
abbrev pub FeedEnds : (List ℕ → Feed) → Option (List ℕ) → Option (List Try) → Option (List Try) → Option (List ℕ) → Option (List ℕ) → Result (Unit {0}) (RunStop FeedFault) → Type 0
FeedEnds first known log_before log_after before after (Err (Stream stream.ReadFailed)) = (log_after ≡ log_before) × Keeps before after
FeedEnds first known log_before log_after before after result =
    (raw : List ℕ) × Agrees known raw × (hs : List Heard) × Goes (first raw) hs log_before log_after before after result

-- the text of a fault
abbrev pub fault_text : FeedFault → List ℕ
fault_text fault.BadLine = codes "a line is malformed"
fault_text fault.Stale = codes "the boot is released"
fault_text fault.NoReply = codes "no reply came"

-- ---- intermediate results

-- the next line, if there is one, is malformed
abbrev pub IsDrawn : List (List ℕ) → Type 0
IsDrawn [] = ⊤
IsDrawn (l ∷ ls) = card_of l ≡ None

-- no command is waiting for its card, and if no card is inserted, none can be
abbrev pub IsSettledAt : List (List ℕ) → Stand → Type 0
IsSettledAt ls Idle = IsDrawn ls
IsSettledAt ls (Asks call) = ⊤
IsSettledAt ls (HasCommand session index) = ⊥
IsSettledAt ls Stale = ⊤

abbrev pub IsSettled : Feed → Type 0
IsSettled f = IsSettledAt f.left f.feeder.stand

-- the end of a feed without a pending request
abbrev pub IsEnd : Feed → Result (Unit {0}) (RunStop FeedFault) → Type 0
IsEnd f (Ok u) = EndsBy f (Ok u)
IsEnd f (Err (Own fault.BadLine)) = EndsBy f (Err (Own fault.BadLine))
IsEnd f (Err (Own fault.Stale)) = EndsBy f (Err (Own fault.Stale))
IsEnd f (Err _) = ⊥

-- the output of a try was written, or only a prefix of it if the writer failed
abbrev pub IsPrinted : Feed → Feed → Option (List ℕ) → Option (List ℕ) → Result (Unit {0}) (RunStop FeedFault) → Type 0
IsPrinted heard after old new (Ok u) = (after ≡ heard) × Appends old new heard.text
IsPrinted heard after old new (Err (Stream stream.WriteFailed)) = AppendsBeginning old new heard.text
IsPrinted heard after old new (Err (Stream stream.Memory)) = new ≡ old
IsPrinted heard after old new (Err _) = ⊥
