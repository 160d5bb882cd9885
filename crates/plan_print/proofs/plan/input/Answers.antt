use Rattle.std.proofs.Common.{◌≡◌, ℕ, List, [], Result, Err, Vec, unwrap_or}
use Rattle.std.specs.Global.{Global}
use Rattle.std.proofs.lemmas.Result.{err_from_is_err_and}
use Rattle.text_io.specs.Stops.{stream_fault_of}
use Rattle.text_io.specs.declared.reading.ReadFault.{ReadFault}
use Rattle.text_io.specs.declared.reading.ReadFault.TheVariants.{Failed, Memory}
use Rattle.text_io.specs.declared.stop.RunStop.{RunStop}
use Rattle.text_io.specs.declared.stop.RunStop.TheVariants.{Stream}
use Rattle.text_io.proofs.Limits.{agrees_some}
use Rattle.plan_print.specs.PlanEnds.{ReadsInput}
use Rattle.plan_print.specs.declared.plan.BatchFault.{BatchFault}
use Rattle.plan_print.proofs.plan.input.Goals as goal

no_input : (raw : List ℕ) (r : Result (Vec ℕ Global) (RunStop BatchFault)) (stop : RunStop BatchFault) (fault : ReadFault) → r ≡ Err stop → stop ≡ Stream (stream_fault_of fault) → ReadsInput raw r
no_input raw r stop Failed is of = rw (is, of) tt
no_input raw r stop Memory is of = rw (is, of) tt

pub returns-in_err-read : goal.returns-in_err-read
returns-in_err-read g c =
    let known = g.R.Read.remaining c.args.reader.now in
    let p = err_from_is_err_and c.from_residual.result c.from_residual.ensures.1 in
    (unwrap_or known [], agrees_some known, no_input (unwrap_or known []) c.from_residual.result p.0 _ p.1 p.2)
