use Rattle.std.proofs.Common.{◌≤◌, nat_eq, count_by, sym, ap, subst, ◌∙◌, arith}
use Rattle.std.specs.Prelude.{is_some}
use Rattle.std.specs.HashMap.{get}
use Rattle.std.proofs.lemmas.List.{take_all}
use Rattle.store_reads.specs.Lines.{is_card_at}
use Rattle.store_reads.proofs.RecordLines.{kept_more, nothing, once_so_far, two_there}
use Rattle.store_reads.proofs.lines.blanks_by_place.Goals as goal

pub loop-card-preserved : goal.loop-card-preserved
loop-card-preserved c =
    let good = c.args.good.now in
    let at = c.loop-card.card-index in
    let before = c.loop-card.invariant in
    let old = get nat_eq c.loop-card.blanks in
    let free = sym c.in_ok-insert.ensures.old ∙ nothing c.in_ok-insert.field-0 (sym c.is_some.ensures ∙ c.if-is_some.false) in
    record {
      value = kept_more good at _ c.loop-card-test.true old (get nat_eq c.insert.new.self) before.value free (c.in_ok-insert.ensures.updates).0;
      once = once_so_far good at _ c.loop-card-test.true old old before.value free before.once;
    }

pub returns-then-is_some-clause-total : goal.returns-then-is_some-clause-total
returns-then-is_some-clause-total c = λ once.
    let good = c.args.good.now in
    let old = get nat_eq c.loop-card.blanks in
    absurd (two_there good c.loop-card.card-index _ c.loop-card-test.true old c.loop-card.invariant.value (ap is_some (sym c.in_ok-insert.ensures.old) ∙ sym c.is_some.ensures ∙ c.if-is_some.true) once)

pub returns-clause-once : goal.returns-clause-once
returns-clause-once c = λ k.
    subst (λ xs. count_by (is_card_at k) xs ≤ 1) (take_all c.loop-card.card-index c.args.good.now (omega (arith, c.loop-card-test.false))) (c.loop-card.invariant.once k)
