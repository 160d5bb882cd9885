use Rattle.std.proofs.Common.{Err, Ok, refl}
use Rattle.std.proofs.lemmas.Result.{IfOk-weaker}
use Rattle.loopback.proofs.asking.send_and_read.Goals as goal

pub returns-in-Ok : goal.returns-in-Ok
returns-in-Ok g c = IfOk-weaker c.read_within.result _ _ (λ came read. (c.write_text.new.writer, Ok c.in-Ok.field-0, c.in-Ok.ensures, read)) c.read_within.ensures

pub returns-in-Err : goal.returns-in-Err
returns-in-Err g c = (c.write_text.new.writer, Err c.in-Err.field-0, c.in-Err.ensures, refl)
