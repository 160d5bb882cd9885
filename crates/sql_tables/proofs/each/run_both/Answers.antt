use Rattle.std.proofs.Common.{arith}
use Rattle.sqlite.specs.Held.{state}
use Rattle.sqlite.specs.State.{HasCleanDisk}
use Rattle.sql_base.proofs.Causing.{passed_on, reports_since}
use Rattle.sql_tables.proofs.EachLemmas.{failed_each, wrote_then}
use Rattle.sql_tables.proofs.each.run_both.Goals as goal

pub returns-clause-made : goal.returns-clause-made
returns-clause-made g c clean =
    let a = state g.S.Store c.args.tx.now.conn.now in
    let b = state g.S.Store c.run_each.new.tx.conn.now in
    let d = state g.S.Store c.run_each-2.new.tx.conn.now in
    let early : HasCleanDisk b = omega (arith, c.run_each-2.ensures.survives.clean) in
    wrote_then g.R.Runs.makes c.args.first.now c.args.rest.now a b d _ c.run_each-2.result (c.in_ok-run_each.ensures.made early) (c.run_each-2.ensures.made clean)

pub returns-in_err-run_each-clause-made : goal.returns-in_err-run_each-clause-made
returns-in_err-run_each-clause-made g c clean = failed_each g.R.Runs.makes _ _ _ c.from_residual.result c.from_residual.ensures.0 (c.in_err-run_each.ensures.made clean).kept

pub returns-clause-cause : goal.returns-clause-cause
returns-clause-cause g c explains clean =
    let a = state g.S.Store c.args.tx.now.conn.now in
    let b = state g.S.Store c.run_each.new.tx.conn.now in
    let d = state g.S.Store c.run_each-2.new.tx.conn.now in
    reports_since a b d c.run_each-2.result c.run_each.ensures.survives.counts (c.run_each-2.ensures.cause explains clean)

pub returns-in_err-run_each-clause-cause : goal.returns-in_err-run_each-clause-cause
returns-in_err-run_each-clause-cause g c explains clean =
    passed_on (state g.S.Store c.args.tx.now.conn.now) (state g.S.Store c.run_each.new.tx.conn.now) c.in_err-run_each.field-0.0 c.from_residual.result c.from_residual.ensures.1 (c.in_err-run_each.ensures.cause explains clean)
