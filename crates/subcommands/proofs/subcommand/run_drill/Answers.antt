use Rattle.std.proofs.Common.{rules, ◌≡◌, Err, subst}
use Rattle.std.specs.Io.Buffered.{writer_buffer, writer_contents}
use Rattle.over_tables.specs.Drills.{DrillEnds}
use Rattle.text_io.specs.declared.stop.RunStop.TheVariants.{Own}
use Rattle.drill.specs.declared.stop.DrillFault.TheVariants.{BadLine}
use Rattle.subcommands.proofs.FlushLemmas.{bad_line_flushed, drill_flushed}
use Rattle.subcommands.proofs.subcommand.run_drill.Goals as goal

pub returns-in-Ok-clause-end : goal.returns-in-Ok-clause-end
returns-in-Ok-clause-end g c =
    let contents = writer_contents g.W.Write.contents in
    drill_flushed (g.R.Read.remaining c.args.reader.now) (contents c.args.writer.now) (contents c.drill_engine.new.writer)
    (contents c.flushed.new.writer) c.flushed.result (writer_buffer c.flushed.new.writer) c.in-Ok.ensures c.flushed.ensures.keeps c.flushed.ensures.end

pub returns-in-Err-Own-BadLine-clause-end : goal.returns-in-Err-Own-BadLine-clause-end
returns-in-Err-Own-BadLine-clause-end g c =
    let contents = writer_contents g.W.Write.contents in
    let known = g.R.Read.remaining c.args.reader.now in
    let is : c.in-Err-Own-BadLine.field-0 ≡ Own (BadLine c.in-Err-Own-BadLine.line) = search rules in
    bad_line_flushed c.in-Err-Own-BadLine.line known (contents c.args.writer.now) (contents c.drill_engine.new.writer)
    (contents c.flushed-in-Err-Own-BadLine.new.writer) c.flushed-in-Err-Own-BadLine.result (writer_buffer c.flushed-in-Err-Own-BadLine.new.writer)
    (subst (λ stop. DrillEnds known (contents c.args.writer.now) (contents c.drill_engine.new.writer) (Err stop)) is c.in-Err-Own-BadLine.ensures)
    c.flushed-in-Err-Own-BadLine.ensures.keeps c.flushed-in-Err-Own-BadLine.ensures.end
