use Rattle.std.proofs.Common.{◌≡◌, ℕ, ◌+◌, Bool, false, [], ◌∷◌, ◌++◌, refl, ap, ◌∙◌, subst, arith}
use Rattle.std.proofs.lemmas.List.{length_push}
use Rattle.event_lines.specs.Notes.{NotesAll}
use Rattle.event_lines.specs.declared.level.Level.{Level}
use Rattle.server_run.specs.ConnectionLines.{fails_after, lines_at}
use Rattle.server_run.specs.declared.observation.Observation.{Observation}
use Rattle.server_run.proofs.ObservationLemmas.{observes-alike, product-alike}
use Rattle.server_run.proofs.RunLemmas.{fails-next, fails_through, observes-none, observes-push}
use Rattle.server_run.proofs.sequence.serve_connections.Goals as goal

pub loop-count-init : goal.loop-count-init
loop-count-init g c = (omega arith, refl, [], [], observes-none g.S.JobStore.state _ _ _ _, refl, refl)

pub loop-count-preserved : goal.loop-count-preserved
loop-count-preserved g c =
    let queue = g.C.Connections.queue in
    let contents = g.E.Write.contents in
    let level = c.args.events.now.level in
    let so_far = c.loop-count.invariant in
    let es = so_far.2 in
    let os = so_far.3 in
    let run = c.serve_observed-incoming.ensures in
    let one = run.served in
    let e = one.0 in
    let read = c.with_product-observation in
    let o = read.result in
    let was = c.loop-count in
    let ended = c.new-ended in
    let now = c.note_connection-is_failing in
    let mid = contents was.events.writer in
    let after = contents now.new.events.writer in
    let own : NotesAll level mid after (lines_at level (fails_through false os) o) =
    subst (λ (l : Level). NotesAll l mid after (lines_at l (fails_through false os) o)) so_far.1
    (subst (λ (b : Bool). NotesAll was.events.level mid after (lines_at was.events.level b o)) so_far.6
    (subst (λ (p : Observation). NotesAll was.events.level mid after (lines_at was.events.level was.is_failing p)) ended.ensures.kept now.ensures.noted)) in (
      omega arith,
      now.ensures.level ∙ so_far.1,
      es ++ e ∷ [],
      os ++ o ∷ [],
      observes-push g.S.JobStore.state c.left_in_turn.ensures c.args.store.now was.store c.serve_observed-incoming.new.store read.new.store (queue c.args.connections.now) (queue was.connections) (queue c.next.new.self) (queue ended.new.connections)
          level (contents c.args.events.now.writer) mid after _ _ _ es os e o so_far.4 c.next.ensures.same c.in-Ok.ensures.opens one.1 one.2 one.3 read.ensures.stays
          (product-alike (g.S.JobStore.state c.serve_observed-incoming.new.store) (g.S.JobStore.state read.new.store) c.serve_observed-incoming.result.2 o read.ensures.alike read.ensures.product)
          (observes-alike _ _ e c.serve_observed-incoming.result.2 o read.ensures.alike one.4) (ap (λ (p : Observation). p.before) read.ensures.alike ∙ run.before) read.ensures.after ended.ensures.queue own,
      length_push es e ∙ ap (λ (n : ℕ). n + 1) so_far.5,
      fails-next was.is_failing now.result os o so_far.6 (subst (λ (p : Observation). now.result ≡ fails_after was.is_failing p) ended.ensures.kept now.ensures.fails),
    )
