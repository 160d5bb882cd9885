use Rattle.reply_store.proofs.Running.{leaves_more, leaves_none, leaves_stays}
use Rattle.reply_store.proofs.laws.left_in_turn.Goals as goal

pub returns : goal.returns
returns g c =
    let state = g.S.JobStore.state in
    let sound = g.met.S.JobStore.sound in
    record {
      none = λ s. leaves_none (state s) (sound s);
      more = λ first before after tried a result left handled. leaves_more c.same_contents_answer_alike.ensures (state first) (state before) (state after) tried a result (sound first) (sound before) left handled;
      stays = λ first before after tried left stays. leaves_stays (state first) (state before) (state after) tried left stays;
    }
