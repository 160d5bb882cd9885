use Rattle.std.proofs.Common.{arith}
use Rattle.loopback.proofs.ArrivedLemmas.{read_more}
use Rattle.loopback.proofs.pending.Pending.read_there.Goals as goal
use Rattle.loopback.proofs.pending.Pending.read_there.Goals.{in-Bytes, in-Again}

pub returns-in-Nothing-clause-bytes : goal.returns-in-Nothing-clause-bytes
returns-in-Nothing-clause-bytes g c = read_more _ _ _ _ _ _ c.loop.invariant.came c.read_once.ensures.bytes

pub returns-in-NoRoom-clause-bytes : goal.returns-in-NoRoom-clause-bytes
returns-in-NoRoom-clause-bytes g c = read_more _ _ _ _ _ _ c.loop.invariant.came c.read_once.ensures.bytes

pub loop-preserved : goal.loop-preserved
loop-preserved g c = elim c.match-read_once.branch [
  | in-Bytes w ↦ rw w.self-is (record { came = read_more _ _ _ _ _ _ c.loop.invariant.came c.read_once.ensures.bytes; limit = omega (arith, c.read_once.ensures.limit, c.loop.invariant.limit); begun = c.loop.invariant.begun })
  | in-Again w ↦ rw w.self-is (record { came = read_more _ _ _ _ _ _ c.loop.invariant.came c.read_once.ensures.bytes; limit = omega (arith, c.read_once.ensures.limit, c.loop.invariant.limit); begun = c.loop.invariant.begun })
]
