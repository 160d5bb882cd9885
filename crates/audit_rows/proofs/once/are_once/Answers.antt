use Rattle.std.proofs.Common.{◌∙◌, rules}
use Rattle.std.specs.BTreeSet.{IsFromIterResult}
use Rattle.std.proofs.lemmas.Map.Views.{btree_set_len-from_list}
use Rattle.audit_rows.proofs.OnceLemmas.{once_by_count}
use Rattle.audit_rows.proofs.once.are_once.Goals as goal

pub returns : goal.returns
returns g c =
    let order = g.met.T.Ord.total in
    let items = c.args.items.now in
    let made : IsFromIterResult g.T.Ord.cmp items c.in_ok-set.set = search rules in
    once_by_count order g.T.PartialEq.eq g.met.T.Ord.matches_eq items c.len.result (c.len.ensures.len ∙ btree_set_len-from_list order items c.in_ok-set.set made)
