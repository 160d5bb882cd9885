use Rattle.std.proofs.Common.{arith}
use Rattle.sqlite.specs.Held.{state}
use Rattle.sql_base.proofs.Lasting.{trace_past, trace_then}
use Rattle.sql_base.proofs.Ending.{failed_wrote, wrote_then}
use Rattle.sql_tables.specs.Opening.{MakesAll}
use Rattle.remaking.specs.Anew.{DropsAll, MakesAnew}
use Rattle.remaking.proofs.anew.make_anew.Goals as goal

pub returns-clause-made : goal.returns-clause-made
returns-clause-made g c clean =
    let a = state g.S.Store c.args.tx.now.conn.now in
    let b = state g.S.Store c.drop_all.new.tx.conn.now in
    let one = c.in_ok-drop_all.ensures.made (omega (arith, c.make_all.ensures.no_trace.survives.clean)) in
    wrote_then (DropsAll c.args.version) MakesAll (MakesAnew c.args.version) a b _ c.make_all.result (λ drops makes sound just. makes (drops sound just)) one.well one.kept (c.make_all.ensures.made clean)

pub returns-in_err-drop_all-clause-made : goal.returns-in_err-drop_all-clause-made
returns-in_err-drop_all-clause-made g c clean = failed_wrote (MakesAnew c.args.version) _ _ c.from_residual.result c.from_residual.ensures.0 (c.in_err-drop_all.ensures.made clean).kept

pub returns-in_err-drop_all-clause-no_trace : goal.returns-in_err-drop_all-clause-no_trace
returns-in_err-drop_all-clause-no_trace g c =
    trace_past c.drop_all.ensures.no_trace c.from_residual.result c.in_err-drop_all.field-0.0 c.from_residual.ensures.1 c.in_err-drop_all.ensures.no_trace.cause

pub returns-clause-no_trace : goal.returns-clause-no_trace
returns-clause-no_trace g c = trace_then c.drop_all.ensures.no_trace c.make_all.ensures.no_trace
