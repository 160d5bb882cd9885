use Rattle.std.proofs.Common.{Ok, arith}
use Rattle.sqlite.specs.Held.{state}
use Rattle.sql_base.proofs.Lasting.{trace_past, trace_then, trace_well}
use Rattle.sql_base.proofs.Ending.{failed_wrote, wrote_then}
use Rattle.sql_tables.specs.Opening.{AddsVersion, MakesAll, MakesVersion}
use Rattle.sql_tables.specs.declared.versions.Version.TheVariants.{Three}
use Rattle.sql_tables.proofs.opening.make_all.Goals as goal

pub returns-clause-made : goal.returns-clause-made
returns-clause-made g c clean =
    let a = state g.S.Store c.args.tx.now.conn.now in
    let b = state g.S.Store c.make_version.new.tx.conn.now in
    let one = c.in_ok-make_version.ensures.made (omega (arith, c.add_version.ensures.no_trace.survives.clean)) in
    let two = c.in_ok-add_version.ensures.made clean in
    wrote_then (MakesVersion Three) AddsVersion MakesAll a b _ (Ok tt) (λ makes adds none. adds (makes none)) one.well one.kept (record { well = two.well; kept = two.kept })

pub returns-in_err-add_version-clause-made : goal.returns-in_err-add_version-clause-made
returns-in_err-add_version-clause-made g c clean =
    let a = state g.S.Store c.args.tx.now.conn.now in
    let b = state g.S.Store c.make_version.new.tx.conn.now in
    let one = c.in_ok-make_version.ensures.made (omega (arith, c.add_version.ensures.no_trace.survives.clean)) in
    wrote_then (MakesVersion Three) AddsVersion MakesAll a b _ c.from_residual-in_err-add_version.result (λ makes adds none. adds (makes none)) one.well one.kept
    (failed_wrote AddsVersion b _ _ c.from_residual-in_err-add_version.ensures.0 (c.in_err-add_version.ensures.made clean).kept)

pub returns-in_err-make_version-clause-made : goal.returns-in_err-make_version-clause-made
returns-in_err-make_version-clause-made g c clean = failed_wrote MakesAll _ _ c.from_residual.result c.from_residual.ensures.0 (c.in_err-make_version.ensures.made clean).kept

pub returns-in_err-make_version-clause-no_trace : goal.returns-in_err-make_version-clause-no_trace
returns-in_err-make_version-clause-no_trace g c =
    trace_past c.make_version.ensures.no_trace c.from_residual.result c.in_err-make_version.field-0.0 c.from_residual.ensures.1 c.in_err-make_version.ensures.no_trace.cause

pub returns-in_err-add_version-clause-no_trace : goal.returns-in_err-add_version-clause-no_trace
returns-in_err-add_version-clause-no_trace g c =
    let r = c.from_residual-in_err-add_version in
    trace_then c.make_version.ensures.no_trace (trace_past c.add_version.ensures.no_trace r.result c.in_err-add_version.field-0.0 r.ensures.1 c.in_err-add_version.ensures.no_trace.cause)

pub returns-clause-no_trace : goal.returns-clause-no_trace
returns-clause-no_trace g c = trace_well (trace_then c.make_version.ensures.no_trace c.add_version.ensures.no_trace) _
