use Rattle.std.proofs.Common.{◌+◌, List, subst, sym, arith}
use Rattle.import_causes.specs.Causes.{Numbered}
use Rattle.import_causes.specs.Walks.{IsWalked}
use Rattle.import_causes.proofs.WalkLemmas.{fewer, taken-few, walked-all, walked-more, walked-ranked, walked-start}
use Rattle.import_causes.proofs.pair.add_named.Goals as goal

pub loop-row-init : goal.loop-row-init
loop-row-init c =
    let start = c.args.stream.now in
    subst (λ (kept : List Numbered). IsWalked start c.args.name.now kept 2 start) (sym c.requires.empty) (walked-start start c.args.name.now c.requires.few)

pub overflow_add-number : goal.overflow_add-number
overflow_add-number c =
    let l = c.loop-row in
    omega (arith, l.invariant.numbered, taken-few c.args.stream.now c.requires.few c.args.name.now l.kept.items l.number l.stream l.invariant)

pub loop-row-smaller : goal.loop-row-smaller
loop-row-smaller c =
    let walked = c.loop-row.invariant in
    fewer c.loop-row.stream c.next_row.new.stream walked.more c.in-Some.row walked.left_is (rw c.in-Some.is at (c.in_ok-row.ensures.next walked.more walked.left_is))

pub loop-row-preserved : goal.loop-row-preserved
loop-row-preserved c =
    let l = c.loop-row in
    let walked = l.invariant in
    subst (λ (kept : List Numbered). IsWalked c.args.stream.now c.args.name.now kept (l.number + 1) c.next_row.new.stream) (sym c.in_ok-push_named.ensures)
    (walked-more c.args.stream.now c.requires.few c.args.name.now l.kept.items l.number l.stream walked c.in-Some.row c.next_row.new.stream
    (rw c.in-Some.is at (c.in_ok-row.ensures.next walked.more walked.left_is)) (rw c.in-Some.is at c.in_ok-row.ensures.row))

pub returns-clause-value : goal.returns-clause-value
returns-clause-value c =
    let l = c.loop-row in
    walked-all c.args.stream.now c.requires.few c.args.name.now l.kept.items l.number l.stream l.invariant
    (rw c.in_default.is at (c.in_ok-row.ensures.next l.invariant.more l.invariant.left_is))

pub returns-clause-ranked : goal.returns-clause-ranked
returns-clause-ranked c =
    let l = c.loop-row in
    walked-ranked c.args.stream.now c.requires.few c.args.name.now l.kept.items l.number l.stream l.invariant
