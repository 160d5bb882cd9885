-- The result of reading a head.
use Rattle.std.specs.Prelude.{◌≡◌, ◌<◌, ◌≤◌, ℕ, List, length, take, Option, Some, None, IfSome}
use Rattle.std.specs.Io.KnownBytes.{Consumes}
use Rattle.http_messages.specs.declared.reading.Reach.{Reach}
use Rattle.http_messages.specs.declared.reading.Reach.TheVariants.{Head, Broken, HeadTooLarge}
use Rattle.http_messages.specs.Heads.{head_end}

-- The result is right for the bytes read into `buf`. The remaining bytes are `before` before the
-- reading, and `after` after it.
--     `Head`: the first `filled` bytes of `buf` were read, and the head ends at `end` within them
--     `Broken`: the bytes, if they are known, are fewer than 8,192, and no head ends in them
--     `HeadTooLarge`: all of `buf` was read, and no head ends in it
abbrev pub Reaches : Option (List ℕ) → Option (List ℕ) → List ℕ → Reach → Type 0
Reaches before after buf (Head end filled) = (end ≤ filled) × (filled ≤ 8192) × Consumes before after (take filled buf) × (head_end (take filled buf) ≡ Some end)
Reaches before after buf Broken = IfSome before (λ all. (length all < 8192) × (head_end all ≡ None))
Reaches before after buf HeadTooLarge = Consumes before after buf × (head_end buf ≡ None)
