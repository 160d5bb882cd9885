use Rattle.std.proofs.Common.{[], ◌∷◌, ◌+◌, ◌++◌, ◌∙◌, ap, sym, take, arith, rules}
use Rattle.std.proofs.lemmas.List.{take_more}
use Rattle.sqlite.specs.State.{HasCleanDisk}
use Rattle.sqlite.specs.Held.{state}
use Rattle.sqlite.proofs.InsideLemmas.{keeps_then}
use Rattle.sql_base.proofs.Causing.{passed_since}
use Rattle.sql_tables.proofs.EachLemmas.{one_further}
use Rattle.sql_tables.proofs.each.run_each.Goals as goal

pub loop-item-preserved : goal.loop-item-preserved
loop-item-preserved g c =
    let a = state g.S.Store c.args.tx.now.conn.now in
    let b = state g.S.Store c.loop-item.tx.conn.now in
    let d = state g.S.Store c.run.new.tx.conn.now in
    let early = λ (clean : HasCleanDisk d). let it : HasCleanDisk b = omega (arith, c.run.ensures.survives.clean) in it in
    let k = c.loop-item.item-index in
    let xs = c.args.items.now in
    let x = c.item-item.result in
    let more = take_more xs k x c.loop-item-test.true ∙ ap (λ y. take k xs ++ y ∷ []) (sym c.item-item.is) in
    record {
      same_reference = c.run.ensures.same_reference ∙ c.loop-item.invariant.same_reference;
      well = λ clean. one_further g.R.Runs.makes (take k xs) (take (k + 1) xs) x a b d more (c.loop-item.invariant.well (early clean)) (c.in_ok-run.ensures.made clean).well;
      kept = λ clean. keeps_then a b d (c.loop-item.invariant.kept (early clean)) (c.in_ok-run.ensures.made clean).kept;
      survives = search rules;
    }

pub returns-in_err-run-clause-cause : goal.returns-in_err-run-clause-cause
returns-in_err-run-clause-cause g c explains clean =
    let a = state g.S.Store c.args.tx.now.conn.now in
    let b = state g.S.Store c.loop-item.tx.conn.now in
    let d = state g.S.Store c.run.new.tx.conn.now in
    passed_since a b d c.from_residual.result c.loop-item.invariant.survives.counts c.in_err-run.field-0.0 c.from_residual.ensures.1 (c.in_err-run.ensures.cause explains clean)
