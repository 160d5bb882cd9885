use Rattle.std.proofs.Common.{◌≡◌, None}
use Rattle.http_messages.specs.Heads.{ends_head, least}
use Rattle.http_messages.proofs.reading.find_end.Given as goal

abbrev pub invariant-loop-at : goal.invariant-loop-at
invariant-loop-at l = least (ends_head l.bytes) l.at ≡ None
