use Rattle.list_store.specs.Lists.{contents}
use Rattle.list_store.proofs.StoreLemmas.{found}
use Rattle.list_store.proofs.again.ListStoreReopen.reopen.Goals as goal

pub returns-clause-holds : goal.returns-clause-holds
returns-clause-holds c = λ usable honest d held. record { holds = held; crash = found (contents c.args.self) d held.0 }
