use Rattle.std.proofs.lemmas.Result.{err_from_is_err_and}
use Rattle.text_io.proofs.Pieces.{writes_then}
use Rattle.server.proofs.Writing.{begins_both}
use Rattle.server.proofs.reply.write_apart.Goals as goal

pub returns-in_err-write_text : goal.returns-in_err-write_text
returns-in_err-write_text g c =
    let w = g.W.Write.contents in
    let p = err_from_is_err_and c.from_residual.result c.from_residual.ensures.1 in
    rw p.1 (begins_both (w c.args.writer.now) (w c.write_text.new.writer) c.args.head.now c.args.body.now c.in_err-write_text.ensures)

pub returns : goal.returns
returns g c =
    let w = g.W.Write.contents in
    writes_then (w c.args.writer.now) (w c.write_text.new.writer) (w c.write_text-2.new.writer) c.args.head.now c.args.body.now c.write_text-2.result
    c.in_ok-write_text.ensures c.write_text-2.ensures
