use Rattle.std.proofs.Common.{◌≡◌, ◌∷◌, [], ◌++◌, ◌∙◌, Bool, not, ap, rules}
use Rattle.std.specs.Prelude.{filter}
use Rattle.std.proofs.lemmas.Fn.{filter_same}
use Rattle.job_facts.specs.Contents.{Mark, has_mark}
use Rattle.list_store.proofs.marks.set_mark.Goals as goal

pub returns-clause-ok : goal.returns-clause-ok
returns-clause-ok c =
    let mark : Mark = record { client = c.args.client.now; upto = c.args.upto } in
    let is_other : Mark → Bool = λ m. not (has_mark c.args.client.now m) in
    let others = filter_same _ is_other _ (λ x b f' k. search rules) _ _ c.retain.ensures.filtered ∙ ap (filter is_other) c.reserve.ensures.items in
    let pushed : c.push.new.self.items ≡ c.retain.new.self.items ++ mark ∷ [] = search rules in
    pushed ∙ ap (λ marks. marks ++ mark ∷ []) others
