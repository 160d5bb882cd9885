use Rattle.std.proofs.Common.{◌<◌, All, map, length, get_or, ap, sym, subst, ◌∙◌, arith}
use Rattle.std.proofs.lemmas.List.{take_all}
use Rattle.store_data.proofs.FaultLemmas.{groups_all}
use Rattle.row_reads.specs.declared.groupings.GroupingAt.{GroupingAt}
use Rattle.row_reads.specs.CardDecoding.{IsGroupingAt}
use Rattle.store_reads.specs.Segments.{heads_in}
use Rattle.store_reads.proofs.plans.heads_of.Goals as goal

pub heads_in-requires : goal.heads_in-requires
heads_in-requires c =
    let groups = c.in_ok-groups.groups.items in
    let each = groups_all (λ (g : GroupingAt). g.aid) (λ own. own.items) groups c.args.groupings.now c.in_ok-groups.ensures IsGroupingAt c.requires in
    let same = c.deref-own-items.ensures.value in
    let i = c.loop-own.own-index in
    let item = c.own-item.result in
    let within : i < length groups = omega (arith, c.loop-own-test.true, ap length same) in
    subst (All IsGroupingAt) (sym c.as_slice.ensures.value)
    (subst (λ own. All IsGroupingAt own.items) (sym (c.own-item.is ∙ ap (λ vs. get_or vs i item) same)) (each i item within))

pub returns : goal.returns
returns c =
    c.loop-own.invariant
    ∙ ap (λ vs. map heads_in (map (λ own. own.items) vs)) (take_all c.loop-own.own-index c.deref-own-items.result.now c.loop-own-test.false ∙ c.deref-own-items.ensures.value)
    ∙ ap (map heads_in) c.in_ok-groups.ensures
