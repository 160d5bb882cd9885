use Rattle.std.proofs.Common.{◌∙◌, Bor, Err, List, ℕ, ap, option_map, sym, subst}
use Rattle.std.proofs.lemmas.Result.{err_from_is_err_and}
use Rattle.text_io.specs.Written.{AppendsBeginning}
use Rattle.job_facts.specs.declared.reply.Reply.{Reply}
use Rattle.feeding.specs.Events.{IsNoted, IsNotedOf, lines_under}
use Rattle.feeding.specs.Feeds.{Feed, hears}
use Rattle.feeding.specs.Tries.{IsPrinted}
use Rattle.feeding.specs.Views.{IsRejected, came_in, feed_view}
use Rattle.feeding.proofs.Noting.{noted_hear}
use Rattle.feeding.proofs.engine.go_on.Given.{Over}
use Rattle.feeding.proofs.engine.go_on.Goals as goal
use Rattle.feeding.proofs.engine.go_on.Goals.{After-note}

-- The event lines of the try were written.
noted : (g : Over) (c : goal.After-note g) → IsNoted g.E.Write.contents c.args.events.now c.note.new.events (lines_under (feed_view c.args.feed.now) c.args.number (came_in c.args.response) c.args.response.reply)
noted g c =
    let f = feed_view c.args.feed.now in
    noted_hear g.E.Write.contents c.args.events.now c.note.new.events f (feed_view c.hear.new.self) c.args.number c.args.response c.is_on.result c.kept-came.result
    (option_map (λ (b : Bor (List ℕ)). b.now) c.as_deref.result) (option_map (λ (q : Bor Reply). q.now) c.as_ref-2.result) c.in_ok-rejected.rejected
    c.is_on.ensures c.kept-came.ensures c.as_deref.ensures.value c.as_ref-2.ensures.value
    (subst (λ o. IsRejected f c.args.number o c.in_ok-rejected.rejected) c.as_ref.ensures.value c.in_ok-rejected.ensures.rejected) (c.in_ok-rejected.ensures.feed ∙ ap (hears f) c.as_ref.ensures.value) c.note.ensures

pub returns-in_err-write_text-clause-printed : goal.returns-in_err-write_text-clause-printed
returns-in_err-write_text-clause-printed g c =
    let p = err_from_is_err_and c.from_residual-in_err-write_text.result c.from_residual-in_err-write_text.ensures.1 in
    let old = g.W.Write.contents c.args.writer.now in
    let new = g.W.Write.contents c.write_text.new.writer in
    let h = hears (feed_view c.args.feed.now) c.args.response.reply in
    subst (IsPrinted h (feed_view c.hear.new.self) old new) (sym (p.1 ∙ ap Err p.2))
    (subst (AppendsBeginning old new) (c.as_slice.ensures.value ∙ ap (λ (x : Feed). x.text) (c.in_ok-rejected.ensures.feed ∙ ap (hears (feed_view c.args.feed.now)) c.as_ref.ensures.value)) c.in_err-write_text.ensures)

pub returns-in_err-write_text-clause-noted : goal.returns-in_err-write_text-clause-noted
returns-in_err-write_text-clause-noted g c =
    let p = err_from_is_err_and c.from_residual-in_err-write_text.result c.from_residual-in_err-write_text.ensures.1 in
    let r = c.args.response in
    subst (IsNotedOf g.E.Write.contents c.args.events.now c.note.new.events (lines_under (feed_view c.args.feed.now) c.args.number (came_in r) r.reply)) (sym (p.1 ∙ ap Err p.2))
    (noted g (goal.at.returns-in_err-write_text-clause-noted g c).After-note)

pub returns-clause-noted : goal.returns-clause-noted
returns-clause-noted g c = noted g (goal.at.returns-clause-noted g c).After-note
