use Rattle.std.proofs.Common.{[], ◌++◌, codes}
use Rattle.std.proofs.KnownBytes.{Appends-nil}
use Rattle.text_io.proofs.Pieces.{begun, stopped, writes_then}
use Rattle.text_io.specs.Written.{line}
use Rattle.plan_print.specs.Printed.{command_lines, text_of}
use Rattle.plan_print.proofs.print.write_record.Goals as goal

pub returns-in_err-write_name : goal.returns-in_err-write_name
unfolding text_of
returns-in_err-write_name g c =
    let before = g.W.Write.contents c.args.writer.now in
    let after = g.W.Write.contents c.write_name.new.writer in
    stopped _ before after (text_of c.args.planned.now) c.from_residual.result c.from_residual.ensures.1
    (begun before before after [] (line (codes "record " ++ c.args.planned.now.name)) (command_lines c.args.planned.now.plan) (Appends-nil before) c.in_err-write_name.ensures)

pub returns : goal.returns
unfolding text_of
returns g c =
    writes_then (g.W.Write.contents c.args.writer.now) (g.W.Write.contents c.write_name.new.writer) (g.W.Write.contents c.write_commands.new.writer)
    (line (codes "record " ++ c.args.planned.now.name)) (command_lines c.args.planned.now.plan) c.write_commands.result c.in_ok-write_name.ensures c.write_commands.ensures
