-- Defines the meaning of arrivals: the first arrival with a number has an effect, a later one gets
-- the kept reply, and an arrival with a released number is refused.
use Rattle.std.specs.Prelude.{ℕ, ◌==◌, ◌&&◌, ◌||◌, nat_le, max, Bool, if◌then◌else◌, List, [], ◌∷◌, ◌++◌, map, bytes_eq}
use Rattle.std.specs.List.{list_any}
use Rattle.job_facts.specs.declared.request.Call.{Call}
use Rattle.job_facts.specs.declared.request.Call.TheVariants.{Job, Release}
use Rattle.job_facts.specs.declared.refusal.Refusal.TheVariants.{ReleaseTooFar}
use Rattle.job_facts.specs.declared.reply.Reply.{Reply}
use Rattle.job_facts.specs.declared.reply.Reply.TheVariants.{Refused, Released, NumberReleased}
use Rattle.job_facts.specs.declared.rows.KeptReply.{KeptReply}
use Rattle.job_facts.specs.Facts.{Facts}
use Rattle.job_facts.specs.Steps.{by_option, step}
use Rattle.job_facts.specs.Contents.{Contents, Entry, Mark, above, entry_of, mark_of, reply_of_entry, with_mark}
use Rattle.arrivals.specs.HttpReplies.{HttpReply, status_of, body_of, reused, http_reply_of}

-- a call with its client, request number and request bytes
pub record Arrived : Type 0 where
  pub client : List ℕ
  pub number : ℕ
  pub ask : List ℕ
  pub request : Call

-- a client and its request number
abbrev pub Number : Type 0
Number = List ℕ × ℕ

abbrev pub number_of : Entry → Number
number_of e = (e.client, e.number)

-- the number of the arrival is one of `numbers`
abbrev pub is_among : List Number → Arrived → Bool
is_among numbers a = list_any (λ (n : Number). bytes_eq n.0 a.client && (n.1 == a.number)) numbers

-- the number of the arrival is released: it is not above its client's release mark
abbrev pub is_released : List Mark → Arrived → Bool
is_released marks a = nat_le a.number (mark_of marks a.client)

-- ---- the effect of a new number

-- the facts after a call: a request is a step of the reference model, which doesn't know request
-- numbers; a release doesn't change the facts
abbrev pub facts_by : Facts → List ℕ → Call → Facts
facts_by f client (Job r) = (step f client r).0
facts_by f client (Release upto) = f

-- the release mark after a release, which never lowers it
abbrev pub mark_by : List Mark → List ℕ → ℕ → ℕ
mark_by marks client upto = max (mark_of marks client) upto

-- the release marks after a call; a release that includes its own number doesn't change them
abbrev pub marks_by : List Mark → List ℕ → ℕ → Call → List Mark
marks_by marks client number (Job r) = marks
marks_by marks client number (Release upto) = if nat_le number upto then marks else with_mark marks client (mark_by marks client upto)

abbrev pub reply_by : Facts → List Mark → List ℕ → ℕ → Call → Reply
reply_by f marks client number (Job r) = (step f client r).1
reply_by f marks client number (Release upto) = if nat_le number upto then Refused ReleaseTooFar else Released (mark_by marks client upto)

abbrev pub facts_with : Facts → Arrived → Facts
facts_with f a = facts_by f a.client a.request

abbrev pub marks_with : List Mark → Arrived → List Mark
marks_with marks a = marks_by marks a.client a.number a.request

abbrev pub reply_to : Facts → List Mark → Arrived → Reply
reply_to f marks a = reply_by f marks a.client a.number a.request

-- ---- the meaning of a list of arrivals

-- the arrivals whose number isn't released, isn't one of `numbers`, and isn't the number of an
-- earlier arrival
abbrev pub firsts : List Number → List Mark → List Arrived → List Arrived
firsts numbers marks [] = []
firsts numbers marks (a ∷ rest) =
    if is_released marks a || is_among numbers a then firsts numbers marks rest
    else a ∷ firsts (numbers ++ (a.client, a.number) ∷ []) (marks_with marks a) rest

abbrev pub facts_after : Facts → List Arrived → Facts
facts_after f [] = f
facts_after f (a ∷ rest) = facts_after (facts_with f a) rest

abbrev pub marks_after : List Mark → List Arrived → List Mark
marks_after marks [] = marks
marks_after marks (a ∷ rest) = marks_after (marks_with marks a) rest

abbrev pub entry_with : Arrived → Reply → Entry
entry_with a reply = record { client = a.client; number = a.number; ask = a.ask; status = status_of reply; body = body_of reply }

abbrev pub entries_of : Facts → List Mark → List Arrived → List Entry
entries_of f marks [] = []
entries_of f marks (a ∷ rest) = entry_with a (reply_to f marks a) ∷ entries_of (facts_with f a) (marks_with marks a) rest

-- the lines that a request log gets for a list of arrivals: the replies to those with a new number,
-- in order, even if a release has discarded them
abbrev pub told : Contents → List Arrived → List Entry
told c arrivals = entries_of c.facts c.marks (firsts (map number_of c.kept) c.marks arrivals)

-- the contents after a list of arrivals: the first arrival with each number has its effect, and the
-- kept replies up to the final release marks are discarded
abbrev pub contents_after : Contents → List Arrived → Contents
contents_after c arrivals =
    let new = firsts (map number_of c.kept) c.marks arrivals in
    let marks = marks_after c.marks new in
    record { facts = facts_after c.facts new; kept = above marks (c.kept ++ entries_of c.facts c.marks new); marks = marks }

-- the contents after an arrival with a new number
abbrev pub contents_with : Contents → Arrived → Contents
contents_with c a =
    let marks = marks_with c.marks a in
    record { facts = facts_with c.facts a; kept = above marks (c.kept ++ entry_with a (reply_to c.facts c.marks a) ∷ []); marks = marks }

-- ---- the reply to an arrival

-- the response to a request with the bytes `ask` if `kept` is the kept reply of its number
abbrev pub http_reply_again : List ℕ → KeptReply → HttpReply
http_reply_again ask kept = if bytes_eq kept.ask ask then record { status = kept.status; body = kept.body } else reused

-- the response to a request with the bytes `ask` if `e` is the entry of its number
abbrev pub http_reply_by : List ℕ → Entry → HttpReply
http_reply_by ask e = http_reply_again ask (reply_of_entry e)

-- the response to an arrival for the contents `c`: a refusal if its number is released, the
-- response from its entry if the number is used, otherwise its own reply
abbrev pub http_reply_on : Contents → Arrived → HttpReply
http_reply_on c a =
    if is_released c.marks a then http_reply_of (NumberReleased (mark_of c.marks a.client))
    else by_option (entry_of c.kept a.client a.number) (http_reply_of (reply_to c.facts c.marks a)) (http_reply_by a.ask)
