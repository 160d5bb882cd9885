use Rattle.std.proofs.Common.{◌+◌, Option, Some, take, drop, ap, sym, arith, ◌∙◌}
use Rattle.std.proofs.lemmas.List.{at_drop_all}
use Rattle.import_causes.specs.Causes.{Numbered}
use Rattle.import_causes.specs.Pairs.{first_pair, pair_or}
use Rattle.import_causes.proofs.PairLemmas.{pair-none, pair-step, same-read, up-to}
use Rattle.import_causes.proofs.pair.first_pair.Goals as goal

pub returns-in-Some : goal.returns-in-Some
returns-in-Some c =
    let l = c.loop-i in
    let rows = c.args.rows.now in
    let row = c.index-rows-i.result in
    let more = first_pair c.args.fault c.args.max (take (l.i + 1) rows) (drop (l.i + 1) rows) in
    let found = c.in_ok-first.ensures (take l.i rows) (up-to rows l.i row c.loop-i-test.true c.index-rows-i.is) in
    sym (l.invariant ∙ pair-step c.args.fault c.args.max rows l.i row c.loop-i-test.true c.index-rows-i.is
    ∙ ap (λ (o : Option Numbered). pair_or o row more) (sym found ∙ c.in-Some.is)
    ∙ ap (λ (r : Numbered). Some (c.in-Some.first, r)) (same-read rows l.i row c.index-rows-i-in-Some.result c.loop-i-test.true c.index-rows-i.is c.index-rows-i-in-Some.is))

pub loop-i-preserved : goal.loop-i-preserved
loop-i-preserved c =
    let l = c.loop-i in
    let rows = c.args.rows.now in
    let row = c.index-rows-i.result in
    let more = first_pair c.args.fault c.args.max (take (l.i + 1) rows) (drop (l.i + 1) rows) in
    let found = c.in_ok-first.ensures (take l.i rows) (up-to rows l.i row c.loop-i-test.true c.index-rows-i.is) in
    l.invariant ∙ pair-step c.args.fault c.args.max rows l.i row c.loop-i-test.true c.index-rows-i.is
    ∙ ap (λ (o : Option Numbered). pair_or o row more) (sym found ∙ c.in_default.is)

pub returns : goal.returns
returns c =
    let l = c.loop-i in
    sym (l.invariant ∙ at_drop_all (first_pair c.args.fault c.args.max (take l.i c.args.rows.now)) c.args.rows.now l.i (omega (arith, c.loop-i-test.false)) ∙ pair-none c.args.fault c.args.max (take l.i c.args.rows.now))
