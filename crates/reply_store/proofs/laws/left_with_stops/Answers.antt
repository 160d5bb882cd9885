use Rattle.reply_store.proofs.Stopping.{left_with_stops}
use Rattle.reply_store.proofs.laws.left_with_stops.Goals as goal

pub returns : goal.returns
returns g c = λ first last steps d opens are.
    left_with_stops g.S.JobStore.state g.met.S.JobStore.sound c.same_contents_answer_alike.ensures d (g.met.S.JobStore.sound first d opens.holds) first last steps opens are
