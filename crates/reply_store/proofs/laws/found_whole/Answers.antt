use Rattle.reply_store.proofs.Stopping.{finds_whole, opens_whole}
use Rattle.reply_store.proofs.laws.found_whole.Goals as goal

pub returns : goal.returns
returns g c =
    let state = g.S.JobStore.state in
    record {
      finds = λ opened stopped d a. finds_whole state opened stopped d a;
      opens = λ opened stopped again d a opens stops. opens_whole state opened stopped d a opens stops again;
    }
