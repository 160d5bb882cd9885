use Rattle.std.proofs.Common.{ℕ, ◌+◌, [], ◌∷◌, ◌++◌, Option, refl, sym, ap, ◌∙◌, subst, arith}
use Rattle.std.proofs.lemmas.List.{length_push}
use Rattle.server.specs.Exchanges.{Moves, Queue}
use Rattle.server.proofs.Serving.{serves_none, serves_more, moves_none, moves_more}
use Rattle.server.proofs.many.serve_all.Goals as goal

pub loop-turn-init : goal.loop-turn-init
loop-turn-init g c = (omega arith, [], moves_none _, serves_none g.S.JobStore.state c.left_in_turn.ensures _, refl)

pub loop-turn-preserved : goal.loop-turn-preserved
loop-turn-preserved g c =
    let state = g.S.JobStore.state in
    let queue = g.C.Connections.queue in
    let so_far = c.loop-turn.invariant in
    let es = so_far.1 in
    let one = c.serve_by-meaning.ensures in
    let e = one.0 in
    let moves : Moves (queue c.args.connections.now) (queue c.next.new.self) es = subst (λ (q : Option Queue). Moves (queue c.args.connections.now) q es) (sym c.next.ensures.same) so_far.2 in (
      omega arith,
      es ++ e ∷ [],
      subst (λ (q : Option Queue). Moves (queue c.args.connections.now) q (es ++ e ∷ [])) (sym c.back.ensures)
          (moves_more (queue c.args.connections.now) (queue c.next.new.self) es e _ _ _ c.serve_by-meaning.result.0 moves c.in_ok-incoming.ensures.opens one.1 one.2 one.3),
      serves_more state c.left_in_turn.ensures c.args.store.now c.loop-turn.store c.serve_by-meaning.new.store es e so_far.3 one.4,
      length_push es e ∙ ap (λ (n : ℕ). n + 1) so_far.4,
    )
