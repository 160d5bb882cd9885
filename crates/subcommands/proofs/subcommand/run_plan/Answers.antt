use Rattle.std.specs.Io.Buffered.{writer_buffer, writer_contents}
use Rattle.subcommands.proofs.FlushLemmas.{plan_flushed}
use Rattle.subcommands.proofs.subcommand.run_plan.Goals as goal

pub returns-in-Ok-clause-end : goal.returns-in-Ok-clause-end
returns-in-Ok-clause-end g c =
    let contents = writer_contents g.W.Write.contents in
    plan_flushed g.E.Write.contents c.args.product.now (g.R.Read.remaining c.args.reader.now) (contents c.args.writer.now) (contents c.plan_with_events.new.writer) (contents c.flushed.new.writer)
    c.args.events.now c.plan_with_events.new.events c.flushed.result (writer_buffer c.flushed.new.writer) c.in-Ok.ensures c.flushed.ensures.keeps c.flushed.ensures.end
