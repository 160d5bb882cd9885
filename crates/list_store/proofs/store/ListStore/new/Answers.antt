use Rattle.std.proofs.Common.{rules}
use Rattle.job_facts.proofs.NextContents.{nothing_sound}
use Rattle.list_store.proofs.store.ListStore.new.Goals as goal

pub returns : goal.returns
returns c = (search rules, nothing_sound)
