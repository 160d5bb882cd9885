use Rattle.std.proofs.Common.{◌≡◌, ◌<◌, ◌++◌, ◌∷◌, [], length, Some, Ok, ap, arith}
use Rattle.std.specs.Prelude.{get_or}
use Rattle.server.specs.declared.memory.Replied.{Replied}
use Rattle.server.proofs.Taken.{queue_moves}
use Rattle.server.proofs.memory.MemoryConnectionsConnections.back.Goals as goal

pub returns : goal.returns
returns c =
    let s = c.args.self.now in
    let n = length s.replies.items in
    let reply : Replied = record { input = c.replace-input.result; written = c.args.writer; served = c.args.served } in
    let place : c.len-place.result ≡ n = omega arith in
    let within : n < length s.inputs.items = omega arith in
    let brought : reply.input ≡ get_or s.inputs.items n reply.input = cc in
    let worked : c.push.result ≡ Ok c.unwrap.result = c.unwrap.ensures in
    let pushed : c.push.new.self.items ≡ s.replies.items ++ reply ∷ [] = rw worked at c.push.ensures.items in
    rw (place, pushed) (ap Some (queue_moves s.inputs.items s.replies.items reply c.replace-input.new.dest within brought))
