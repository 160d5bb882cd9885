use Rattle.std.proofs.Common.{◌^◌, Err, sym, ap, ◌∙◌, arith}
use Rattle.std.proofs.lemmas.Result.{err_from_is_err_and}
use Rattle.feeding.specs.Views.{feed_view}
use Rattle.feeding.proofs.Turns.{IsTried, goes_end, goes_ended, goes_more, still_few, still_less, still_settled}
use Rattle.feeding.proofs.engine.feed_all.Given.{Over}
use Rattle.feeding.proofs.engine.feed_all.Goals as goal
use Rattle.feeding.proofs.engine.feed_all.Goals.{After-go_on}

-- The pending request was sent, and its response was read.
tried : (g : Over) (c : goal.After-go_on g)
    → IsTried (feed_view c.loop-number.feed) c.machine.result.now c.in-Some.number c.in-Some.call.now c.in_ok-response.response (g.X.Exchange.log c.loop-number.exchange) (g.X.Exchange.log c.one_try.new.exchange)
tried g c = record {
  same = c.machine.ensures;
  asks = sym c.in-Some.ensures.asks;
  few = omega (arith, c.if-feed-ge-MOST_TRIES.false);
  read = c.in_ok-response.ensures.heard;
  logged = c.in_ok-response.ensures.logged;
}

pub loop-number-smaller : goal.loop-number-smaller
loop-number-smaller g c =
    let sent = tried g (goal.at.loop-number-smaller g c).After-go_on in
    still_less (10 ^ 18) (feed_view c.loop-number.feed) (feed_view c.go_on.new.feed) (g.W.Write.contents c.loop-number.writer) (g.W.Write.contents c.go_on.new.writer) c.in-Some.number c.in-Some.call.now
    c.in_ok-response.response.reply sent.asks sent.few c.in-Some.ensures.sendable.1 c.in_ok-go_on.ensures.printed

pub loop-number-preserved : goal.loop-number-preserved
loop-number-preserved g c =
    let sent = tried g (goal.at.loop-number-preserved g c).After-go_on in
    let f = feed_view c.loop-number.feed in
    let h = feed_view c.go_on.new.feed in
    let r = c.in_ok-response.response in
    let b = g.W.Write.contents c.loop-number.writer in
    let d = g.W.Write.contents c.go_on.new.writer in
    record {
      few = still_few f h b d r.reply sent.few c.in_ok-go_on.ensures.printed;
      settled = still_settled f h b d r.reply c.loop-number.invariant.settled c.in_ok-go_on.ensures.printed;
      heard = goes_more g.E.Write.contents (feed_view c.args.feed.now) f h (g.X.Exchange.log c.args.exchange.now) (g.X.Exchange.log c.loop-number.exchange) (g.X.Exchange.log c.one_try.new.exchange)
          (g.W.Write.contents c.args.writer.now) b d c.args.events.now c.loop-number.events c.go_on.new.events c.machine.result.now c.in-Some.number c.in-Some.call.now r c.loop-number.invariant.heard sent
          c.in_ok-go_on.ensures.printed c.in_ok-go_on.ensures.noted;
    }

pub returns-in_err-go_on : goal.returns-in_err-go_on
returns-in_err-go_on g c =
    let p = err_from_is_err_and c.from_residual-in_err-go_on.result c.from_residual-in_err-go_on.ensures.1 in
    goes_end g.E.Write.contents (feed_view c.args.feed.now) (feed_view c.loop-number.feed) (feed_view c.go_on.new.feed) (g.X.Exchange.log c.args.exchange.now) (g.X.Exchange.log c.loop-number.exchange)
    (g.X.Exchange.log c.one_try.new.exchange) (g.W.Write.contents c.args.writer.now) (g.W.Write.contents c.loop-number.writer) (g.W.Write.contents c.go_on.new.writer) c.args.events.now c.loop-number.events
    c.go_on.new.events c.machine.result.now c.in-Some.number c.in-Some.call.now c.in_ok-response.response c.in_err-go_on.field-0.0 c.from_residual-in_err-go_on.result c.loop-number.invariant.heard
    (tried g (goal.at.returns-in_err-go_on g c).After-go_on) c.in_err-go_on.ensures.printed c.in_err-go_on.ensures.noted (p.1 ∙ ap Err p.2)

pub returns : goal.returns
returns g c =
    goes_ended g.E.Write.contents (feed_view c.args.feed.now) (feed_view c.loop-number.feed) (g.X.Exchange.log c.args.exchange.now) (g.X.Exchange.log c.loop-number.exchange) (g.W.Write.contents c.args.writer.now)
    (g.W.Write.contents c.loop-number.writer) c.args.events.now c.loop-number.events c.end.new.events c.end.result c.loop-number.invariant.heard c.end.ensures.is c.end.ensures.noted
