use Rattle.file_runs.proofs.RunLemmas.{run_finds, starts_first}
use Rattle.file_runs.proofs.runs.runs_go_on.Goals as goal

pub returns : goal.returns
returns g c =
    let state = g.S.JobStore.state in
    let sound = g.met.S.JobStore.sound in
    let alike = c.same_contents_answer_alike.ensures in
    record {
      first = λ store b opens. starts_first state sound alike b (sound store b opens.holds) store opens;
      more = λ store last b runs tried fine starts leaves honest d left. run_finds state sound alike b fine store last runs tried starts leaves honest d left;
    }
