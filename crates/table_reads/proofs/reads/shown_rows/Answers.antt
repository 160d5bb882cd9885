use Rattle.std.proofs.Common.{◌↔◌, IsTrue, true, subst, refl}
use Rattle.sqlite.specs.Held.{state}
use Rattle.sql_base.proofs.Querying.{shown_open}
use Rattle.table_reads.specs.Rowids.{AreRising}
use Rattle.table_reads.proofs.Rising.{sorted_shown}
use Rattle.table_reads.proofs.Causes.{passed_plain}
use Rattle.table_reads.proofs.reads.shown_rows.Goals as goal

pub returns-clause-value : goal.returns-clause-value
returns-clause-value g c clean =
    let begun = state g.S.Store (record c.args.conn.now { in_transaction = true }) in
    let shown = c.in_ok-rows.ensures.shown clean in
    let end = state g.S.Store shown.0 in
    let rows = c.in_ok-rows.rows.items in
    let live = shown_open begun end c.args.sql.now _ rows shown.1 in
    let is = subst (λ rs. IsTrue c.are_rising-apart.result ↔ AreRising rs) c.as_slice.ensures.value c.are_rising-apart.ensures in
    (live, (c.is_live.ensures live).0, λ tree columns asks. sorted_shown c.args.sql.now begun end rows shown.1 tree columns asks _ c.sort_rowids.ensures.same c.in_ok-sort_rowids.ensures.sorted _ is)

pub returns-in_err-sort_rowids-clause-looks : goal.returns-in_err-sort_rowids-clause-looks
returns-in_err-sort_rowids-clause-looks g c =
    let r = c.from_residual-in_err-sort_rowids in
    record {
      kept = c.rows_of.ensures.kept;
      idle = c.rows_of.ensures.idle;
      survives = c.rows_of.ensures.survives;
      cause = λ clean. passed_plain g.S.Store (state g.S.Store c.args.conn.now) c.rows_of.new.conn r.result _ r.ensures.1 refl;
    }
