use Rattle.sqlite.specs.Held.{state}
use Rattle.sql_base.proofs.Selecting.{if_ok}
use Rattle.table_reads.proofs.ReadRows.{whole_found}
use Rattle.table_reads.proofs.reads.whole.Goals as goal

pub returns-clause-value : goal.returns-clause-value
returns-clause-value g c clean =
    let t = g.T.Stored in
    let db = (state g.S.Store c.args.conn.now).now in
    if_ok c.converted.result _ _ (λ found read. (read.0, λ table whole. whole_found t.encode t.fits t.by_rowid t.is_row g.met.T.Stored.shaped c.args.sql.now table whole db read.1 found read.2)) (c.converted.ensures.value clean)
