use Rattle.std.proofs.Common.{sym}
use Rattle.std.proofs.lemmas.Option.{same_Some}
use Rattle.list_store.specs.Lists.{contents}
use Rattle.list_store.proofs.StoreLemmas.{found}
use Rattle.faulty_store.proofs.store.FaultyStore.reopen.Goals as goal

pub returns-clause-opened : goal.returns-clause-opened
returns-clause-opened c d sound may =
    let is = sym (same_Some d (contents c.args.self.lists) may) in
    record { holds = (sound, λ live. is); crash = found (contents c.args.self.lists) d is }
