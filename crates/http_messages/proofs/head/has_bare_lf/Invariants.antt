use Rattle.std.proofs.Common.{◌≡◌, false, drop}
use Rattle.http_messages.specs.Heads.{bare_lf_after}
use Rattle.http_messages.proofs.head.has_bare_lf.Given as goal

abbrev pub invariant-loop-byte : goal.invariant-loop-byte
invariant-loop-byte l = bare_lf_after false l.head ≡ bare_lf_after l.cr (drop l.byte-index l.head)
