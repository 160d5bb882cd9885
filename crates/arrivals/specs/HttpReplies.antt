-- Defines the response for a reply (this project's profile): its status, and its body, which is
-- compact JSON (RFC 8259) with the members sorted by name.
use Rattle.std.specs.Prelude.{ℕ, List}
use Rattle.job_facts.specs.declared.refusal.Refusal.TheVariants.{NumberReused}
use Rattle.job_facts.specs.declared.reply.Reply.{Reply}
use Rattle.job_facts.specs.declared.reply.Reply.TheVariants.{Product, Lot, Import, Opened, Next, Good, Spoiled, Reset, Discarded, Waiting, Withdrawn, Closed, Refused, Busy, Released, NumberReleased, Faulty}
use Rattle.arrivals.specs.declared.kept.Kept.{Kept}
use Rattle.serde_json.specs.Written.{compact_text}
use Rattle.arrivals.specs.Values.{value_of}

pub record HttpReply : Type 0 where
  pub status : ℕ
  pub body : List ℕ

-- 200 if the request was accepted, 409 if it was refused
abbrev pub status_of : Reply → ℕ
status_of (Product p made) = 200
status_of (Lot l made) = 200
status_of (Import b records made rows) = 200
status_of (Opened b blank command r s) = 200
status_of (Next command k s) = 200
status_of (Good s) = 200
status_of (Spoiled s) = 200
status_of (Reset s) = 200
status_of (Discarded blank) = 200
status_of (Waiting b r) = 200
status_of (Withdrawn b r) = 200
status_of (Closed b) = 200
status_of (Refused why) = 409
status_of (Busy s) = 409
status_of (Released mark) = 200
status_of (NumberReleased mark) = 409
status_of (Faulty fault) = 409

-- compact JSON (RFC 8259)
unfoldable pub body_of : Reply → List ℕ
body_of r = compact_text (value_of r)

abbrev pub http_reply_of : Reply → HttpReply
http_reply_of reply = record { status = status_of reply; body = body_of reply }

-- the response if the number was used with different request bytes
abbrev pub reused : HttpReply
reused = http_reply_of (Refused NumberReused)

abbrev pub http_reply : Kept → HttpReply
http_reply k = record { status = k.status; body = k.body }
