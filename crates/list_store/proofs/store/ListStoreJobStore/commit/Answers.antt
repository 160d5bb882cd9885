use Rattle.std.proofs.Common.{refl, rules}
use Rattle.job_facts.specs.Contents.{Contents}
use Rattle.list_store.specs.Lists.{contents}
use Rattle.list_store.proofs.StoreLemmas.{lists_commit}
use Rattle.list_store.proofs.store.ListStoreJobStore.commit.Goals as goal

pub returns-clause-all_or_nothing : goal.returns-clause-all_or_nothing
returns-clause-all_or_nothing c =
    let old : Contents = contents c.args.self.now in
    let new : Contents = record { facts = c.change_facts.new.facts; kept = c.push.new.self.items; marks = old.marks } in
    lists_commit old new c.args.change.now _ c.in_ok-change_facts.ensures.ok (search rules) refl
