use Rattle.std.proofs.Common.{◌≡◌, length}
use Rattle.dgi.proofs.Pairs.{IsDecoded}
use Rattle.dgi.proofs.digits.decode.Given as goal

abbrev pub invariant-loop-i : goal.invariant-loop-i
invariant-loop-i l = (length l.bytes ≡ length l.fn.bytes) × IsDecoded l.text l.bytes l.i l.all
