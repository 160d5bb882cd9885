-- Defines the texts of replies that can be parsed (this project's profile).
use Rattle.std.specs.Prelude.{◌≡◌, ◌<◌, ◌^◌, ℕ, List, ⊤}
use Rattle.hex.specs.Hex.{IsBytes}
use Rattle.job_facts.specs.Sound.{IsName}
use Rattle.job_facts.specs.declared.reply.Reply.{Reply}
use Rattle.job_facts.specs.declared.reply.Reply.TheVariants.{Product, Lot, Import, Opened, Next, Good, Spoiled, Reset, Discarded, Waiting, Withdrawn, Closed, Refused, Busy, Released, NumberReleased, Faulty}
use Rattle.arrivals.specs.HttpReplies.{body_of, http_reply_of, status_of}
use Rattle.http_messages.specs.declared.reply.Content.TheVariants.{Json}
use Rattle.http_messages.specs.Texts.{reply_text}

-- the whole text of a reply, from the status line to the end of its body
abbrev pub reply_bytes : Reply → List ℕ
reply_bytes r = reply_text (status_of r) Json (body_of r)

-- the names of the reply are valid, its bytes are bytes, and its numbers fit their types
abbrev pub IsReply : Reply → Type 0
IsReply (Product p made) = IsName p
IsReply (Lot l made) = IsName l
IsReply (Import b records made rows) = IsName b × (records < 2 ^ 32) × (rows < 2 ^ 32)
IsReply (Opened b blank command r s) = IsName b × (blank < 2 ^ 64) × IsBytes command × IsName r × (s < 2 ^ 64)
IsReply (Next command k s) = IsBytes command × (k < 2 ^ 64) × (s < 2 ^ 64)
IsReply (Good s) = s < 2 ^ 64
IsReply (Spoiled s) = s < 2 ^ 64
IsReply (Reset s) = s < 2 ^ 64
IsReply (Discarded blank) = blank < 2 ^ 64
IsReply (Waiting b r) = IsName b × IsName r
IsReply (Withdrawn b r) = IsName b × IsName r
IsReply (Closed b) = IsName b
IsReply (Refused why) = ⊤
IsReply (Busy s) = s < 2 ^ 64
IsReply (Released mark) = mark < 2 ^ 64
IsReply (NumberReleased mark) = mark < 2 ^ 64
IsReply (Faulty fault) = fault.row < 2 ^ 32

-- two different replies never have the same text
abbrev pub AreDistinctReplies : Type 0
AreDistinctReplies = (q r : Reply) → IsReply q → IsReply r → http_reply_of q ≡ http_reply_of r → q ≡ r
