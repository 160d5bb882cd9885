use Rattle.std.proofs.Common.{ap, subst, arith}
use Rattle.sqlite.specs.Held.{state}
use Rattle.sqlite.specs.State.{HasCleanDisk}
use Rattle.sql_base.proofs.Lasting.{trace_past, trace_then}
use Rattle.sql_rows.specs.Image.{Moves}
use Rattle.sql_rows.specs.Many.{WroteMany}
use Rattle.table_rows.specs.Tables.{Tables}
use Rattle.remaking.specs.Rows.{with_all, with_bytes, with_each, without_bytes}
use Rattle.remaking.proofs.BytesLast.{bytes_last}
use Rattle.remaking.proofs.Several.{made_alone, many_then}
use Rattle.remaking.proofs.filling.fill.Goals as goal

pub returns-clause-wrote : goal.returns-clause-wrote
returns-clause-wrote g c clean =
    let rows = c.args.tables.now in
    let s0 = state g.S.Store c.args.tx.now.conn.now in
    let s1 = state g.S.Store c.fill_bare.new.tx.conn.now in
    let s2 = state g.S.Store c.set_bytes.new.tx.conn.now in
    let clean1 : HasCleanDisk s1 = omega (arith, c.set_bytes.ensures.no_trace.survives.clean) in
    let read = ap (λ (t : Tables). t.batches) c.tables.view_is in
    let given = subst (λ bs. WroteMany (Moves (with_each with_bytes bs)) s1 s2 c.set_bytes.result) read (rw (c.as_slice.ensures.value) at (c.set_bytes.ensures.wrote clean)) in
    many_then (with_all (without_bytes rows)) (with_each with_bytes rows.batches) (with_all rows) s0 s1 s2
    (bytes_last rows s0.now s1.now s2.now) _ c.set_bytes.result (c.in_ok-fill_bare.ensures.wrote clean1) given

pub returns-clause-alone : goal.returns-clause-alone
returns-clause-alone g c clean =
    let s0 = state g.S.Store c.args.tx.now.conn.now in
    let s2 = state g.S.Store c.set_bytes.new.tx.conn.now in
    made_alone c.args.tables.now s0 s2 c.set_bytes.result (returns-clause-wrote g c clean)

pub returns-clause-no_trace : goal.returns-clause-no_trace
returns-clause-no_trace g c = trace_then c.fill_bare.ensures.no_trace c.set_bytes.ensures.no_trace

pub returns-in_err-fill_bare-clause-no_trace : goal.returns-in_err-fill_bare-clause-no_trace
returns-in_err-fill_bare-clause-no_trace g c =
    trace_past c.fill_bare.ensures.no_trace c.from_residual.result c.in_err-fill_bare.field-0.0 c.from_residual.ensures.1 c.in_err-fill_bare.ensures.no_trace.cause
