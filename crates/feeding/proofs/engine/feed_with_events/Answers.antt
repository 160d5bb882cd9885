use Rattle.std.proofs.Common.{refl}
use Rattle.std.proofs.lemmas.Result.{err_from_is_err_and}
use Rattle.feeding.specs.Feeds.{at_first}
use Rattle.feeding.proofs.Turns.{no_lines}
use Rattle.feeding.proofs.engine.feed_with_events.Goals as goal

pub returns-in_err-raw : goal.returns-in_err-raw
returns-in_err-raw g c =
    let p = err_from_is_err_and c.from_residual.result c.from_residual.ensures.1 in
    no_lines g.E.Write.contents (at_first c.args.start.machine c.args.start.boot c.args.start.batch) (g.R.Read.remaining c.args.reader.now) (g.X.Exchange.log c.args.exchange.now) (g.W.Write.contents c.args.writer.now) c.args.events.now
    c.from_residual.result p.0 _ (λ raw. refl) p.1 p.2
