use Rattle.std.proofs.Common.{rules}
use Rattle.std.proofs.lemmas.List.Sorted.{answers_always}
use Rattle.audit_order.proofs.OrderLemmas.{ordered_from_sort, stable_from_sort}
use Rattle.audit_order.proofs.order.sort_rows.Goals as goal

pub returns-clause-ordered : goal.returns-clause-ordered
returns-clause-ordered g c =
    ordered_from_sort g.T.InOrder.key c.sort_by_key.new.self.items (c.in_ok-sort_by_key.ensures.sorted g.T.InOrder.key (answers_always _ _ _ (λ f a r q k. search rules)))

pub returns-clause-stable : goal.returns-clause-stable
returns-clause-stable g c =
    stable_from_sort g.T.InOrder.key c.args.rows.now.items c.sort_by_key.new.self.items c.sort_by_key.ensures.permutation
    (c.sort_by_key.ensures.stable g.T.InOrder.key (answers_always _ _ _ (λ f a r q k. search rules)))

pub returns-in_err-sort_by_key-clause-stable : goal.returns-in_err-sort_by_key-clause-stable
returns-in_err-sort_by_key-clause-stable g c =
    stable_from_sort g.T.InOrder.key c.args.rows.now.items c.sort_by_key.new.self.items c.sort_by_key.ensures.permutation
    (c.sort_by_key.ensures.stable g.T.InOrder.key (answers_always _ _ _ (λ f a r q k. search rules)))
