-- The progress of a message, determined from the bytes received so far (RFC 9112, restricted by
-- this project's profile).
use Rattle.std.specs.Prelude.{◌≡◌, ◌<◌, ℕ, ◌+◌, ◌++◌, List, length, take, Some, None, Ok}
use Rattle.http_messages.specs.declared.settled.Progress.{Progress}
use Rattle.http_messages.specs.declared.settled.Progress.TheVariants as progress
use Rattle.http_messages.specs.declared.fixed.FixedReply.{FixedReply}
use Rattle.http_messages.specs.Heads.{HeadParts, IsJudged}
use Rattle.http_messages.specs.Messages.{Brings, Broken, IsHeardAs, MessageParts, Refused, end_of_head}

-- `bytes` starts with a complete head that passes its tests, and the message has `total` bytes
abbrev pub HasLength : List ℕ → ℕ → Type 0
HasLength bytes total = (end : ℕ) × (p : HeadParts) × (end_of_head bytes ≡ Some end) × IsJudged (take end bytes) (Ok p) × (total ≡ end + p.size)

-- The progress is right for `bytes`. With `Head` or `Body` the message is broken if no more bytes
-- follow. With `Message` or `Refused` further bytes change neither the message nor the refusal.
abbrev pub IsProgress : List ℕ → Progress → Type 0
IsProgress bytes progress.Head = IsHeardAs bytes Broken × (end_of_head bytes ≡ None) × (length bytes < 8192)
IsProgress bytes (progress.Body total) = IsHeardAs bytes Broken × HasLength bytes total
IsProgress bytes progress.Message = (m : MessageParts) × ((more : List ℕ) → IsHeardAs (bytes ++ more) (Brings m))
IsProgress bytes progress.Refused = (why : FixedReply) × ((more : List ℕ) → IsHeardAs (bytes ++ more) (Refused why))
