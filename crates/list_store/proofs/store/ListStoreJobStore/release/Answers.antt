use Rattle.std.proofs.Common.{refl, rules}
use Rattle.job_facts.specs.Contents.{Contents}
use Rattle.list_store.specs.Lists.{contents}
use Rattle.list_store.proofs.StoreLemmas.{lists_release}
use Rattle.list_store.proofs.store.ListStoreJobStore.release.Goals as goal

pub returns-clause-all_or_nothing : goal.returns-clause-all_or_nothing
returns-clause-all_or_nothing c =
    let old : Contents = contents c.args.self.now in
    let new : Contents = record { facts = old.facts; kept = c.drop_released.new.kept.items; marks = c.set_mark.new.marks.items } in
    lists_release old new c.args.mark _ refl (search rules) c.in_ok-set_mark.ensures.ok
