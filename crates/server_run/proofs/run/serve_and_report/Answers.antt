use Rattle.std.proofs.Common.{ℕ, sym, subst}
use Rattle.server_run.specs.ServerLines.{WritesLines}
use Rattle.server_run.proofs.RunLemmas.{notes-run, serves-begun}
use Rattle.server_run.proofs.ServerLinesLemmas.{both-lines, store-stops}
use Rattle.server_run.proofs.run.serve_and_report.Goals as goal

pub returns : goal.returns
returns g c =
    let state = g.S.JobStore.state in
    let queue = g.C.Connections.queue in
    let events = g.E.Write.contents in
    let opening = c.note_opening.ensures in
    let run = c.serve_listening-run in
    let end = c.finish in
    let s = run.new.store in
    let es = run.ensures.served.0 in
    let all = run.ensures.served.2 in
    let count = run.result.count in
    let closed = g.S.ServerStore.closed s in
    let before = g.W.Write.contents c.args.writer.now in
    let mid = g.W.Write.contents run.new.writer in
    let after = g.W.Write.contents end.new.writer in
    let refuses = g.C.Connections.refuses run.new.connections in
    let lines = both-lines closed refuses c.args.port c.args.turns count before mid after run.result.outcome end.result run.ensures.writes end.ensures.writes in
    let closing = end.ensures.noted.0 in
    let stop = store-stops closed refuses c.args.port c.args.turns count before mid after run.result.outcome closing end.result run.ensures.writes end.ensures.writes end.ensures.noted.1 in (
      s,
      es,
      all.moves,
      all.serves c.args.store (serves-begun state c.left_in_turn.ensures c.args.store c.note_opening.new.store opening.stays),
      subst (λ (n : ℕ). WritesLines closed refuses c.args.port c.args.turns n before after end.result) (sym run.ensures.served.3) lines,
      notes-run state c.left_in_turn.ensures c.args.store c.note_opening.new.store s closed (g.S.ServerStore.unclosed s) (queue c.args.connections.now) (queue run.new.connections) c.args.opened.now es
          run.ensures.served.1 count closing end.result c.args.events.now.level c.note_opening.new.events.level run.new.events.level (events c.args.events.now.writer)
          (events c.note_opening.new.events.writer) (events run.new.events.writer) (events end.new.events.writer) opening.noted.0 opening.stays opening.noted.1 opening.noted.2 opening.level all
          run.ensures.level run.ensures.served.3 end.ensures.noted.2 stop,
    )
