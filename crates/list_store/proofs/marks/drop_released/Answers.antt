use Rattle.std.proofs.Common.{rules}
use Rattle.std.proofs.lemmas.Fn.{filter_same}
use Rattle.job_facts.specs.Contents.{is_above}
use Rattle.list_store.proofs.marks.drop_released.Goals as goal

pub returns : goal.returns
returns c = filter_same _ (is_above c.args.marks.now) _ (λ x b f' k. search rules) _ _ c.retain.ensures.filtered
