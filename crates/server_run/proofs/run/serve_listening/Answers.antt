use Rattle.std.proofs.Common.{ℕ, [], refl, subst}
use Rattle.std.specs.Io.KnownBytes.{Appends}
use Rattle.server_run.specs.ServerLines.{listening_text}
use Rattle.server_run.proofs.RunLemmas.{observes-none}
use Rattle.server_run.proofs.ServerLinesLemmas.{first-served}
use Rattle.server_run.proofs.run.serve_listening.Goals as goal

pub returns-in-Ok-clause-writes : goal.returns-in-Ok-clause-writes
returns-in-Ok-clause-writes g c =
    let run = c.serve_connections.ensures in
    first-served (g.C.Connections.refuses c.serve_connections.new.connections) c.args.port c.args.turns _ _ _ c.serve_connections.result.outcome
    (subst (λ (n : ℕ). Appends (g.W.Write.contents c.args.writer.now) (g.W.Write.contents c.write_listening.new.writer) (listening_text n)) c.from.ensures c.in-Ok.ensures)
    run.all run.fewer run.cause

pub returns-in-Err-clause-served : goal.returns-in-Err-clause-served
returns-in-Err-clause-served g c = ([], [], observes-none g.S.JobStore.state _ _ _ _, refl)
