use Rattle.std.proofs.Common.{◌≡◌, ◌∷◌, ◌++◌, ◌+◌, ◌∙◌, List, ℕ, [], get_or, map, take, sym, ap, subst, arith, rules}
use Rattle.std.proofs.lemmas.List.{length-map, take_more}
use Rattle.store_data.specs.Groups.{first_appearances, grouped, joined_at}
use Rattle.store_data.proofs.GroupLemmas.{groups_more, keys_more, place_within}
use Rattle.row_reads.specs.declared.groupings.GroupingAt.{GroupingAt}
use Rattle.store_reads.proofs.plans.by_application.Goals as goal

pub loop-g-init : goal.loop-g-init
unfolding grouped
loop-g-init c = record { aids = search rules; groups = search rules }

pub join_at-requires : goal.join_at-requires
join_at-requires c =
    let groups = map (λ own. own.items) c.loop-g.groups.items in
    omega (
      arith,
      place_within (λ (g : GroupingAt). g.aid) (take c.loop-g.g-index c.args.groupings.now) c.loop-g.aids.keys groups c.g-item.result.aid _ c.loop-g.invariant.aids c.loop-g.invariant.groups c.in_ok-place.ensures.index,
      length-map c.loop-g.groups.items (λ own. own.items),
      c.loop-g.groups.ok.0,
    )

pub loop-g-preserved : goal.loop-g-preserved
loop-g-preserved c =
    let aid : GroupingAt → List ℕ = λ g. g.aid in
    let gs = c.args.groupings.now in
    let i = c.loop-g.g-index in
    let one = c.g-item.result in
    let old = take i gs in
    let more : take (i + 1) gs ≡ old ++ get_or gs i one ∷ [] = take_more gs i one c.loop-g-test.true in
    let groups = map (λ own. own.items) c.loop-g.groups.items in
    let key : one.aid ≡ aid (get_or gs i one) = ap aid c.g-item.is in
    record {
      aids = subst (λ xs. c.insert_full.new.self.keys ≡ first_appearances (map aid xs)) (sym more)
          (keys_more aid old c.loop-g.aids.keys groups (get_or gs i one) one.aid _ c.loop-g.invariant.aids key c.in_ok-place.ensures.keys);
      groups = subst (λ xs. map (λ own. own.items) c.join_at.new.groups.items ≡ grouped aid xs) (sym more)
          (groups_more aid old c.loop-g.aids.keys groups (get_or gs i one) one.aid _ _ c.loop-g.invariant.aids c.loop-g.invariant.groups key c.in_ok-place.ensures.index (c.in_ok-join_at.ensures ∙ ap (joined_at groups c.in_ok-place.place) c.g-item.is));
    }
