use Rattle.std.proofs.Common.{length, refl}
use Rattle.std.proofs.lemmas.Option.{slice_get_read}
use Rattle.std.specs.List.{flat_map}
use Rattle.text_io.proofs.Pieces.{next_begun, stopped}
use Rattle.plan_print.specs.Printed.{text_of}
use Rattle.plan_print.proofs.plan.print.Goals as goal

pub returns-in_err-write_record : goal.returns-in_err-write_record
returns-in_err-write_record g c =
    let before = g.W.Write.contents c.args.writer.now in
    let mid = g.W.Write.contents c.loop-record.writer in
    let after = g.W.Write.contents c.write_record.new.writer in
    let here = slice_get_read c.args.plans.now (length c.args.plans.now) c.loop-record.record-index c.record-item.result refl c.loop-record-test.true c.record-item.is in
    stopped _ before after (flat_map text_of c.args.plans.now) c.from_residual.result c.from_residual.ensures.1
    (next_begun text_of c.args.plans.now c.loop-record.record-index c.record-item.result before mid after here c.loop-record.invariant c.in_err-write_record.ensures)
