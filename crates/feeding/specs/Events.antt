-- The event lines of a feed (this project's profile).
use Rattle.std.specs.Prelude.{◌≡◌, ℕ, ◌+◌, ◌==◌, ◌||◌, if◌then◌else◌, List, [], ◌∷◌, ◌++◌, map, take, length, codes, nat_eq, Option, Some, None, Result, Ok, Err}
use Rattle.std.specs.List.{before_first, starts_with}
use Rattle.std.specs.Io.KnownBytes.{Keeps}
use Rattle.event_lines.specs.declared.log.EventLog.{EventLog}
use Rattle.event_lines.specs.Lines.{number_pair, pair, quoted_pair}
use Rattle.event_lines.specs.Notes.{NotesAll}
use Rattle.job_facts.specs.declared.refusal.Refusal.TheVariants.{NumberReused}
use Rattle.job_facts.specs.declared.reply.Reply.{Reply}
use Rattle.job_facts.specs.declared.request.Call.{Call}
use Rattle.job_facts.specs.Refusals.{code_of}
use Rattle.arrivals.specs.Values.{value_of}
use Rattle.http_requests.specs.Members.{number_at, text_at}
use Rattle.http_requests.specs.Requests.{with_two}
use Rattle.text_io.specs.Inputs.{Agrees}
use Rattle.text_io.specs.declared.stop.RunStop.{RunStop}
use Rattle.text_io.specs.declared.stop.RunStop.TheVariants.{Own, Stream}
use Rattle.text_io.specs.declared.stop.StreamFault.TheVariants as stream
use Rattle.feeder.specs.declared.feeder.InsertFault.{InsertFault}
use Rattle.feeder.specs.declared.feeder.InsertFault.TheVariants.{Exhausted as NoNumbers, NotIdle}
use Rattle.feeder.specs.Table.{Act, Apply, Done, Eject, Send, Wait, after_card, after_insert, after_reply, asked}
use Rattle.feeding.specs.declared.engine.FeedFault.{FeedFault}
use Rattle.feeding.specs.declared.engine.FeedFault.TheVariants as fault
use Rattle.feeding.specs.declared.feed.Rejection.{Rejection}
use Rattle.feeding.specs.declared.feed.Rejection.TheVariants.{ByReply, Exhausted}
use Rattle.feeding.specs.declared.flaw.Flaw.{Flaw}
use Rattle.feeding.specs.Cards.{Card, card_of, next_word}
use Rattle.feeding.specs.Feeds.{Feed, by_reply, hears}
use Rattle.feeding.specs.Flaws.{flaw_name, flaw_of}
use Rattle.feeding.specs.Tries.{Goes, Heard, Try, feed_after}

-- ---- a rejected card

abbrev pub rejected : ℕ → List ℕ
rejected serial = codes "rejected" ++ number_pair (codes "serial") serial

-- the server refused request `number`
abbrev pub refused_line : ℕ → ℕ → ℕ → List ℕ → List ℕ
refused_line serial number code name = rejected serial ++ number_pair (codes "number") number ++ number_pair (codes "code") code ++ pair (codes "name") name

-- the session of the card was spoiled
abbrev pub spoiled_line : ℕ → ℕ → List ℕ
spoiled_line serial number = rejected serial ++ number_pair (codes "number") number ++ pair (codes "cause") (codes "spoiled")

-- the boot has too few numbers left for the card
abbrev pub exhausted_line : ℕ → List ℕ
exhausted_line serial = rejected serial ++ pair (codes "cause") (codes "exhausted")

-- the number was used for another request: an earlier start of the machine had the same boot number
abbrev pub used_line : ℕ → List ℕ
used_line number = codes "boot-used" ++ number_pair (codes "number") number

abbrev pub used_lines : ℕ → ℕ → List (List ℕ)
used_lines number code = if code == code_of NumberReused then used_line number ∷ [] else []

-- the code and the name in the body of a refusal
unfoldable pub refusal_in : Reply → Option (ℕ × List ℕ)
refusal_in reply = with_two (λ (code : ℕ) (name : List ℕ). (code, name)) (number_at (codes "code") (value_of reply)) (text_at (codes "refused") (value_of reply))

-- the event lines of a card that is rejected because of a reply, which is `spoiled` if it isn't a
-- refusal
abbrev pub refusal_lines : ℕ → ℕ → Option (ℕ × List ℕ) → List (List ℕ)
refusal_lines serial number None = spoiled_line serial number ∷ []
refusal_lines serial number (Some (code, name)) = refused_line serial number code name ∷ used_lines number code

-- ---- the reason why the inserted card is rejected, if it is

abbrev pub bad_by : Rejection → Act → Option Rejection
bad_by why (Eject good) = if good then None else Some why
bad_by why (Apply command) = None
bad_by why Send = None
bad_by why Wait = None

-- the reply rejects it, or its command was applied and no number is left to report the status word
abbrev pub rejection_by : Feed → Done → Option Rejection
rejection_by f (g, Apply command) = bad_by Exhausted (after_card g (next_word f.card)).1
rejection_by f (g, Eject good) = bad_by ByReply (Eject good)
rejection_by f (g, Send) = None
rejection_by f (g, Wait) = None

abbrev pub rejection : Feed → ℕ → Option Reply → Option Rejection
rejection f number None = None
rejection f number (Some reply) = rejection_by f (after_reply f.feeder number reply)

abbrev pub rejection_lines : ℕ → ℕ → Option Reply → Option Rejection → List (List ℕ)
rejection_lines serial number reply None = []
rejection_lines serial number reply (Some Exhausted) = exhausted_line serial ∷ []
rejection_lines serial number None (Some ByReply) = []
rejection_lines serial number (Some reply) (Some ByReply) = refusal_lines serial number (refusal_in reply)

-- ---- the cards that can't be inserted

abbrev pub card_before : Option Card → List Card → List Card
card_before None cs = []
card_before (Some c) cs = c ∷ cs

-- the cards of these lines, up to a malformed line
abbrev pub cards_in : List (List ℕ) → List Card
cards_in [] = []
cards_in (l ∷ ls) = card_before (card_of l) (cards_in ls)

abbrev pub left_out : Result (Unit {0}) InsertFault → List Card → List Card
left_out (Err NoNumbers) cs = cs
left_out (Err NotIdle) cs = []
left_out (Ok u) cs = []

-- all remaining cards, if the boot has too few numbers left for any card
abbrev pub without_numbers : Feed → List Card
without_numbers f = left_out (after_insert f.feeder f.batch 0).1 (cards_in f.left)

-- ---- a try that changed nothing

-- the maximum number of bytes of a response's first line that are written
abbrev pub most_of_line : ℕ
most_of_line = 100

abbrev pub first_line : List ℕ → List ℕ
first_line bytes = take most_of_line (before_first (λ b. (b == 13) || (b == 10)) bytes)

-- the first line of `bytes` if they begin as a response does (RFC 9112, section 4), and otherwise
-- their number
abbrev pub came_pair : List ℕ → List ℕ
came_pair bytes = if starts_with nat_eq bytes (codes "HTTP/") then quoted_pair (codes "reply") (first_line bytes) else number_pair (codes "bytes") (length bytes)

-- the key and value for the received bytes, if any
abbrev pub reply_pair : Option (List ℕ) → List ℕ
reply_pair None = []
reply_pair (Some []) = []
reply_pair (Some (b ∷ bytes)) = came_pair (b ∷ bytes)

abbrev pub again_line : ℕ → ℕ → Option (List ℕ) → List ℕ
again_line number tries came = codes "again" ++ number_pair (codes "number") number ++ number_pair (codes "tries") tries ++ reply_pair came

-- the event line of a try that changed nothing, the last of `tries` such tries in a row
abbrev pub again_lines : ℕ → ℕ → Option (List ℕ) → List (List ℕ)
again_lines number tries came = if tries == 0 then [] else again_line number tries came ∷ []

-- ---- tries

-- the event lines of the inserted card, of the cards that can't be inserted, and of the try itself
abbrev pub lines_with : ℕ → ℕ → Option (List ℕ) → Option Reply → Option Rejection → List Card → ℕ → List (List ℕ)
lines_with serial number came reply how cards tries =
    rejection_lines serial number reply how ++ map (λ (c : Card). exhausted_line c.serial) cards ++ again_lines number tries came

abbrev pub lines_under : Feed → ℕ → Option (List ℕ) → Option Reply → List (List ℕ)
lines_under f number came reply =
    lines_with f.card.serial number came reply (rejection f number reply) (without_numbers (by_reply f number reply)) (hears f reply).tries

-- the event lines of a try to send the pending request
abbrev pub lines_of_try : Feed → Option (ℕ × Call) → Heard → List (List ℕ)
lines_of_try f None h = []
lines_of_try f (Some ask) h = lines_under f ask.0 h.one.came h.reply

abbrev pub event_texts : Feed → List Heard → List (List ℕ)
event_texts f [] = []
event_texts f (h ∷ hs) = lines_of_try f (asked f.feeder) h ++ event_texts (hears f h.reply) hs

-- ---- the end

-- the event line about line `number` of the list, which counts from 1
abbrev pub flaw_line : ℕ → Flaw → List ℕ
flaw_line number flaw = codes "bad-line" ++ number_pair (codes "line") number ++ pair (codes "cause") (flaw_name flaw)

abbrev pub flaw_lines : ℕ → Option Flaw → List (List ℕ)
flaw_lines number None = []
flaw_lines number (Some flaw) = flaw_line number flaw ∷ []

abbrev pub bad_lines : ℕ → List (List ℕ) → List (List ℕ)
bad_lines taken [] = []
bad_lines taken (l ∷ ls) = flaw_lines (taken + 1) (flaw_of l)

abbrev pub end_texts : Feed → Result (Unit {0}) (RunStop FeedFault) → List (List ℕ)
end_texts f (Err (Own fault.BadLine)) = bad_lines f.taken f.left
end_texts f _ = []

-- ---- the bytes that are written

-- unless the level is `Off`, the lines of `texts` are written in this order, each whole or a prefix
-- of it
abbrev pub IsNoted : {E : Type 0} → (E → Option (List ℕ)) → EventLog E → EventLog E → List (List ℕ) → Type 0
IsNoted contents old new texts = (new.level ≡ old.level) × NotesAll old.level (contents old.writer) (contents new.writer) texts

-- feed `f` continues with the tries `hs`, and their event lines are written
abbrev pub GoesWithEvents : {E : Type 0} → (E → Option (List ℕ)) → Feed → List Heard → Option (List Try) → Option (List Try) → Option (List ℕ) → Option (List ℕ) → EventLog E → EventLog E
    → Result (Unit {0}) (RunStop FeedFault) → Type 0
GoesWithEvents contents f hs log_before log_after before after old new result =
    Goes f hs log_before log_after before after result × IsNoted contents old new (event_texts f hs ++ end_texts (feed_after f hs) result)

-- `FeedEnds` holds, and the event lines of the same tries are written
abbrev pub FeedEndsWithEvents : {E : Type 0} → (E → Option (List ℕ)) → (List ℕ → Feed) → Option (List ℕ) → Option (List Try) → Option (List Try) → Option (List ℕ) → Option (List ℕ) → EventLog E → EventLog E
    → Result (Unit {0}) (RunStop FeedFault) → Type 0
FeedEndsWithEvents contents first known log_before log_after before after old new (Err (Stream stream.ReadFailed)) = (log_after ≡ log_before) × Keeps before after × IsNoted contents old new []
FeedEndsWithEvents contents first known log_before log_after before after old new result =
    (raw : List ℕ) × Agrees known raw × (hs : List Heard) × GoesWithEvents contents (first raw) hs log_before log_after before after old new result

-- ---- an intermediate result

-- nothing is written if an allocation fails
abbrev pub IsNotedOf : {E : Type 0} → (E → Option (List ℕ)) → EventLog E → EventLog E → List (List ℕ) → Result (Unit {0}) (RunStop FeedFault) → Type 0
IsNotedOf contents old new texts (Err (Stream stream.Memory)) = IsNoted contents old new []
IsNotedOf contents old new texts _ = IsNoted contents old new texts
