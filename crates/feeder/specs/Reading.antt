-- The reading of replies from their texts.
use Rattle.std.specs.Prelude.{◌≡◌, ◌≢◌, ℕ, List, Option, Some, None}
use Rattle.job_facts.specs.declared.reply.Reply.{Reply}
use Rattle.arrivals.specs.HttpReplies.{HttpReply, http_reply_of}
use Rattle.wire.specs.ReplyText.{IsReply, reply_bytes}

-- `reads` finds each reply by its status and its body
abbrev pub ReadsBack : (HttpReply → Option Reply) → Type 0
ReadsBack reads = (r : Reply) → IsReply r → reads (http_reply_of r) ≡ Some r

-- such a reading exists
abbrev pub IsReadable : Type 0
IsReadable = (reads : HttpReply → Option Reply) × ReadsBack reads

-- the result is the reply whose complete text is `bytes`, or `None` if no reply has this text
abbrev pub IsRead : List ℕ → Option Reply → Type 0
IsRead bytes None = (r : Reply) → IsReply r → bytes ≢ reply_bytes r
IsRead bytes (Some r) = IsReply r × (bytes ≡ reply_bytes r)
