use Rattle.std.proofs.lemmas.Result.{err_from_is_err_and}
use Rattle.text_io.specs.declared.reading.ReadFault.TheVariants as read
use Rattle.drill.proofs.Runs.{unread_all}
use Rattle.drill.proofs.engine.drill_over.Goals as goal

pub returns-in_err-raw : goal.returns-in_err-raw
returns-in_err-raw g c =
    let p = err_from_is_err_and c.from_residual.result c.from_residual.ensures.1 in
    unread_all g.S.JobStore.state g.S.Reopen.usable c.args.store (g.R.Read.remaining c.args.reader.now) (g.W.Write.contents c.args.writer.now) c.from_residual.result p.0 _ p.1 p.2

pub returns-in_err-lines : goal.returns-in_err-lines
returns-in_err-lines g c =
    let p = err_from_is_err_and c.from_residual-in_err-lines.result c.from_residual-in_err-lines.ensures.1 in
    unread_all g.S.JobStore.state g.S.Reopen.usable c.args.store (g.R.Read.remaining c.args.reader.now) (g.W.Write.contents c.args.writer.now) c.from_residual-in_err-lines.result p.0 read.Memory p.1 p.2
