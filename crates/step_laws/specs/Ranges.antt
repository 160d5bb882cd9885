-- The ranges of requests and replies, for lemmas about arbitrary values: what the types guarantee
-- in code is a premise here (this project's profile).
use Rattle.std.specs.Prelude.{◌≤◌, ◌<◌, ◌^◌, ℕ, List, slice_index, ⊤}
use Rattle.store_data.specs.Sequence.{IsProduct}
use Rattle.job_facts.specs.declared.reply.Reply.{Reply}
use Rattle.job_facts.specs.declared.reply.Reply.TheVariants as reply
use Rattle.job_facts.specs.declared.request.Request.{Request}
use Rattle.job_facts.specs.declared.request.Request.TheVariants as request
use Rattle.job_facts.specs.Requests.{IsLotRange}
use Rattle.job_facts.specs.Sound.{IsName}

-- The names in the request are names, and its numbers are in their ranges.
abbrev pub IsRanged : Request → Type 0
IsRanged (request.Product p) = IsName p.code × IsProduct p
IsRanged (request.Lot l) = IsName l.name × IsName l.product × IsLotRange l
IsRanged (request.Import b p raw) = IsName b × IsName p
IsRanged (request.Open b blank) = IsName b × (blank < 10 ^ 18)
IsRanged (request.Answer s k sw) = (1 ≤ s) × (s < 10 ^ 18) × (k < 2 ^ 32) × (sw < 2 ^ 16)
IsRanged (request.Abort s) = (1 ≤ s) × (s < 10 ^ 18)
IsRanged request.Reset = ⊤
IsRanged (request.Discard blank) = blank < 10 ^ 18
IsRanged (request.Remake b r) = IsName b × IsName r
IsRanged (request.Withdraw b r) = IsName b × IsName r
IsRanged (request.Close b) = IsName b

abbrev pub AreBytes : List ℕ → Type 0
AreBytes xs = (i : ℕ) → slice_index xs i < 256

-- The names in the reply are names, its command consists of bytes, and its numbers don't exceed the
-- maximum that sound facts allow.
abbrev pub IsRangedReply : Reply → Type 0
IsRangedReply (reply.Product p made) = IsName p
IsRangedReply (reply.Lot l made) = IsName l
IsRangedReply (reply.Import b records made rows) = IsName b × (records ≤ 4096) × (rows ≤ 4096)
IsRangedReply (reply.Opened b blank command r s) = IsName b × (blank < 10 ^ 18) × AreBytes command × IsName r × (s < 2 ^ 32)
IsRangedReply (reply.Next command k s) = AreBytes command × (k ≤ 2 ^ 32) × (s < 2 ^ 32)
IsRangedReply (reply.Good s) = s < 2 ^ 32
IsRangedReply (reply.Spoiled s) = s < 2 ^ 32
IsRangedReply (reply.Reset s) = s < 2 ^ 32
IsRangedReply (reply.Discarded blank) = blank < 10 ^ 18
IsRangedReply (reply.Waiting b r) = IsName b × IsName r
IsRangedReply (reply.Withdrawn b r) = IsName b × IsName r
IsRangedReply (reply.Closed b) = IsName b
IsRangedReply (reply.Busy s) = s < 2 ^ 32
IsRangedReply (reply.Faulty fault) = fault.row ≤ 4098
IsRangedReply _ = ⊤
