use Rattle.std.proofs.Common.{arith}
use Rattle.sqlite.specs.Held.{state}
use Rattle.sqlite.specs.State.{HasCleanDisk}
use Rattle.sql_base.proofs.Causing.{passed_on, reports_since}
use Rattle.sql_base.proofs.Ending.{failed_wrote}
use Rattle.remaking.specs.Remakes.{Remakes}
use Rattle.remaking.proofs.Refilled.{filled_anew}
use Rattle.remaking.proofs.remaking.RemakingUnitOfWork.run.Goals as goal

pub returns-clause-made : goal.returns-clause-made
returns-clause-made g c clean =
    let a = state g.S.Store c.args.tx.now.conn.now in
    let b = state g.S.Store c.make_anew.new.tx.conn.now in
    let d = state g.S.Store c.fill.new.tx.conn.now in
    let early : HasCleanDisk b = omega (arith, c.fill.ensures.no_trace.survives.clean) in
    filled_anew c.args.self.now.version c.args.self.now.tables.now a b d _ c.fill.result (c.in_ok-make_anew.ensures.made early) (c.fill.ensures.wrote clean) (c.fill.ensures.alone clean)

pub returns-in_err-make_anew-clause-made : goal.returns-in_err-make_anew-clause-made
returns-in_err-make_anew-clause-made g c clean = failed_wrote (Remakes c.args.self.now.version c.args.self.now.tables.now) _ _ c.from_residual.result c.from_residual.ensures.0 (c.in_err-make_anew.ensures.made clean).kept

pub returns-clause-cause : goal.returns-clause-cause
returns-clause-cause g c explains clean =
    let a = state g.S.Store c.args.tx.now.conn.now in
    let b = state g.S.Store c.make_anew.new.tx.conn.now in
    let d = state g.S.Store c.fill.new.tx.conn.now in
    reports_since a b d c.fill.result c.make_anew.ensures.no_trace.survives.counts (c.fill.ensures.no_trace.cause clean)

pub returns-in_err-make_anew-clause-cause : goal.returns-in_err-make_anew-clause-cause
returns-in_err-make_anew-clause-cause g c explains clean =
    passed_on (state g.S.Store c.args.tx.now.conn.now) (state g.S.Store c.make_anew.new.tx.conn.now) c.in_err-make_anew.field-0.0 c.from_residual.result c.from_residual.ensures.1 (c.in_err-make_anew.ensures.no_trace.cause clean)
