use Rattle.hex.proofs.HexLemmas.{decode_of-ok}
use Rattle.wire.proofs.parse.bytes_at.Goals as goal

pub returns-in-Ok-clause-ranged : goal.returns-in-Ok-clause-ranged
returns-in-Ok-clause-ranged c = rw c.from_vec.ensures (decode_of-ok c.as_bytes.result.now c.in-Ok.bytes.items c.in-Ok.ensures.ok).3
