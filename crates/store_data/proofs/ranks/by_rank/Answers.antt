use Rattle.std.proofs.Common.{◌≡◌, ◌∷◌, [], ◌++◌, length, map, ap, sym, ◌∙◌, inl, inr, arith, rules, append_assoc, append-nil}
use Rattle.std.specs.Vec.Iter.{into_iter_items}
use Rattle.std.proofs.lemmas.List.{length-map, nil_from_length}
use Rattle.std.proofs.lemmas.List.Sorted.{IsNonDecreasingBy-from_sort_by_key, answers_always}
use Rattle.store_data.specs.Ranks.{by_rank}
use Rattle.store_data.proofs.RankLemmas.{AreByRank-none, AreByRank-more, by_rank-sorted, last_group, turn}
use Rattle.store_data.proofs.ranks.by_rank.Goals as goal
use Rattle.store_data.proofs.ranks.by_rank.Goals.{then-rank-last, else-rank-last}

pub loop-item-init : goal.loop-item-init
loop-item-init g c = record {
  rest = search rules;
  left = omega (arith, c.into_iter-item-iterator.ensures.into_iter_gives.1, c.sort_by_key.new.self.ok.0, ap length c.into_iter-item-iterator.ensures.into_iter_gives.0);
  kept = AreByRank-none g.T.Ranked.rank _ (ap (map (λ v. v.items)) c.new-groups.ensures.items);
}

pub overflow_sub-place : goal.overflow_sub-place
overflow_sub-place g c =
    let rank = g.T.Ranked.rank in
    let groups = c.loop-item.groups in
    let at : c.loop-item.yielded ++ c.in-Some.item ∷ into_iter_items c.next.new.self ≡ c.sort_by_key.new.self.items
    = ap (λ rest. c.loop-item.yielded ++ rest) (sym c.in-Some.ensures.steps.0) ∙ c.loop-item.invariant.rest ∙ c.into_iter-item-iterator.ensures.into_iter_gives.0 in
    let next = turn rank c.args.items.items c.sort_by_key.new.self.items c.loop-item.yielded c.in-Some.item (into_iter_items c.next.new.self) c.requires c.sort_by_key.ensures.permutation
    (IsNonDecreasingBy-from_sort_by_key rank _ c.in_ok-sort_by_key.ensures.sorted (λ a r q k. search rules)) at in
    omega (
      arith,
      last_group rank (map (λ v. v.items) groups.items) c.loop-item.last c.loop-item.yielded c.in-Some.item c.loop-item.invariant.kept next.0 next.1 (sym c.rank-rank.ensures ∙ c.if-rank-last.true),
      length-map groups.items (λ v. v.items),
      groups.ok.0,
      c.len.ensures,
    )

pub loop-item-preserved : goal.loop-item-preserved
loop-item-preserved g c =
    let rank = g.T.Ranked.rank in
    let steps = c.in-Some.ensures.steps in
    let groups = c.loop-item.groups in
    let at : c.loop-item.yielded ++ c.in-Some.item ∷ into_iter_items c.next.new.self ≡ c.sort_by_key.new.self.items
    = ap (λ rest. c.loop-item.yielded ++ rest) (sym steps.0) ∙ c.loop-item.invariant.rest ∙ c.into_iter-item-iterator.ensures.into_iter_gives.0 in
    let next = turn rank c.args.items.items c.sort_by_key.new.self.items c.loop-item.yielded c.in-Some.item (into_iter_items c.next.new.self) c.requires c.sort_by_key.ensures.permutation
    (IsNonDecreasingBy-from_sort_by_key rank _ c.in_ok-sort_by_key.ensures.sorted (λ a r q k. search rules)) at in
    record {
      rest = append_assoc c.loop-item.yielded (c.in-Some.item ∷ []) _ ∙ rw (← steps.0) c.loop-item.invariant.rest;
      left = omega (arith, steps.1, ap length steps.0, c.loop-item.invariant.left);
      kept = rw c.rank-rank.ensures (AreByRank-more rank (map (λ v. v.items) groups.items) c.loop-item.last c.loop-item.yielded c.in-Some.item c.loop-item.invariant.kept next.0 next.1
          c.if-rank-last.place _
          (elim c.if-rank-last.branch [
            | then-rank-last w ↦ inl (sym c.rank-rank.ensures ∙ w.if-rank-last.true, omega (arith, w.place-is, w.len.ensures, length-map groups.items (λ v. v.items), groups.ok.0))
            | else-rank-last w ↦ inr ((λ e. w.if-rank-last.false (c.rank-rank.ensures ∙ e)), omega (arith, w.place-is, w.len-place.ensures, length-map groups.items (λ v. v.items), groups.ok.0))
          ])
          c.in_ok-join_at.ensures);
    }

pub returns : goal.returns
returns g c =
    let rank = g.T.Ranked.rank in
    let none : into_iter_items c.loop-item.item-iterator ≡ [] = nil_from_length _ (sym c.loop-item.invariant.left ∙ c.in-None.ensures.steps.0) in
    let all : c.loop-item.yielded ≡ c.sort_by_key.new.self.items
    = sym (append-nil c.loop-item.yielded) ∙ ap (λ rest. c.loop-item.yielded ++ rest) (sym none) ∙ c.loop-item.invariant.rest ∙ c.into_iter-item-iterator.ensures.into_iter_gives.0 in
    c.loop-item.invariant.kept.each ∙ ap (by_rank rank) all
    ∙ by_rank-sorted rank c.args.items.items c.sort_by_key.new.self.items (c.sort_by_key.ensures.stable rank (answers_always _ _ _ (λ f a r q k. search rules)))
