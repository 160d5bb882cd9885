use Rattle.loopback.proofs.ArrivedLemmas.{in_tail}
use Rattle.loopback.proofs.peer.PeerReader.piece.Goals as goal

pub returns-else-self-front : goal.returns-else-self-front
returns-else-self-front c =
    in_tail c.args.self.now.arrived.front.bytes.items c.args.self.now.arrived.rest.items c.as_slice-front.result.now c.deref.result.now c.args.self.now.at c.as_slice-front.ensures.value c.deref.ensures.value c.if-self-front.false
