use Rattle.server_run.proofs.ObservationLemmas.{observes}
use Rattle.server_run.proofs.observing.serve_observed.Goals as goal

pub returns-clause-served : goal.returns-clause-served
returns-clause-served g c =
    let run = c.serve_from.ensures in
    let e = run.served.0 in
    (e, run.served.1, run.served.2, run.served.4, observes _ _ _ _ e c.serve_from.result.2 run.served.1 run.served.2 run.served.3 run.served.5 run.request run.reply)
