use Rattle.std.proofs.Common.{arith}
use Rattle.sqlite.specs.Held.{state}
use Rattle.sqlite.specs.State.{HasCleanDisk}
use Rattle.sql_base.proofs.Lasting.{trace_past, trace_then}
use Rattle.remaking.proofs.Several.{many_on}
use Rattle.remaking.proofs.putting.Tuple2PutRows.put_rows.Goals as goal

pub returns-clause-wrote : goal.returns-clause-wrote
returns-clause-wrote g c clean =
    let s0 = state g.S.Store c.args.tx.now.conn.now in
    let s1 = state g.S.Store c.put_rows.new.tx.conn.now in
    let s2 = state g.S.Store c.put_rows-2.new.tx.conn.now in
    let before : HasCleanDisk s1 = omega (arith, c.put_rows-2.ensures.no_trace.survives.clean) in
    many_on _ _ s0 s1 s2 _ c.put_rows-2.result (c.in_ok-put_rows.ensures.wrote before) (c.put_rows-2.ensures.wrote clean)

pub returns-in_err-put_rows-clause-no_trace : goal.returns-in_err-put_rows-clause-no_trace
returns-in_err-put_rows-clause-no_trace g c =
    trace_past c.put_rows.ensures.no_trace c.from_residual.result c.in_err-put_rows.field-0.0 c.from_residual.ensures.1 c.in_err-put_rows.ensures.no_trace.cause

pub returns-clause-no_trace : goal.returns-clause-no_trace
returns-clause-no_trace g c = trace_then c.put_rows.ensures.no_trace c.put_rows-2.ensures.no_trace
