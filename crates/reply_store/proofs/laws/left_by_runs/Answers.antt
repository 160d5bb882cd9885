use Rattle.reply_store.proofs.DayLemmas.{left_by_runs}
use Rattle.reply_store.proofs.laws.left_by_runs.Goals as goal

pub returns : goal.returns
returns g c = λ first last runs d opens are.
    left_by_runs g.S.JobStore.state g.met.S.JobStore.sound c.same_contents_answer_alike.ensures d (g.met.S.JobStore.sound first d opens.holds) first last runs opens are
