use Rattle.std.proofs.Common.{◌≤◌, ◌+◌, arith, length, drop}
use Rattle.loopback.specs.Arriving.{bytes_of}
use Rattle.loopback.proofs.ArrivedLemmas.{brought, fits_at, front_taken}
use Rattle.loopback.proofs.peer.PeerReaderByteSource.bring.Goals as goal

pub overflow_add-self : goal.overflow_add-self
overflow_add-self c =
    let piece = c.piece-piece.ensures in
    let within : c.args.self.now.at + c.min-count.result ≤ length (bytes_of c.args.self.now.arrived) = fits_at (bytes_of c.args.self.now.arrived) c.piece-piece.result.now piece.0 c.args.self.now.at c.min-count.result c.args.self.now.within piece.1 (omega (arith, c.min-count.ensures)) in
    omega (arith, within, c.len-len.ensures, c.len-len.type_inv)

pub invariant_of-self : goal.invariant_of-self
invariant_of-self c =
    let piece = c.piece-piece.ensures in
    record { within = fits_at (bytes_of c.args.self.now.arrived) c.piece-piece.result.now piece.0 c.args.self.now.at c.min-count.result c.args.self.now.within piece.1 (omega (arith, c.min-count.ensures)) }

pub returns-clause-bytes : goal.returns-clause-bytes
returns-clause-bytes c =
    let piece = c.piece-piece.ensures in
    let fits : c.min-count.result ≤ length c.piece-piece.result.now = omega (arith, c.min-count.ensures) in
    brought (bytes_of c.args.self.now.arrived) c.piece-piece.result.now piece.0 _ c.args.self.now.at c.min-count.result piece.1 fits
    (front_taken c.piece-piece.result.now c.copy_from_slice.new.self (drop c.min-count.result c.args.buf.now) c.min-count.result fits c.copy_from_slice.ensures.after)
