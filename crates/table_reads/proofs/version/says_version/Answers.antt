use Rattle.std.proofs.Common.{◌↔◌, IsTrue, true, subst}
use Rattle.sqlite.specs.Held.{state}
use Rattle.sql_tables.specs.Versions.{numbered_version_at}
use Rattle.sql_rows.specs.Image.{given_rows}
use Rattle.table_reads.specs.Version.{IsVersionAlone}
use Rattle.table_reads.proofs.Alone.{says}
use Rattle.table_reads.proofs.Meanings.{version_whole}
use Rattle.table_reads.proofs.ReadRows.{exact}
use Rattle.table_reads.proofs.version.says_version.Goals as goal

pub returns-clause-value : goal.returns-clause-value
returns-clause-value g c clean =
    let shown = c.in_ok-shown.ensures.value clean in
    let db = (state g.S.Store c.args.conn.now).now in
    let rows = c.in_ok-shown.shown.rows.items in
    let is = subst (λ rs. IsTrue c.is_version_alone.result ↔ IsVersionAlone c.args.version rs) c.as_slice.ensures.value c.is_version_alone.ensures in (
      shown.0,
      λ n tree finds.
          let whole = version_whole n in
          says c.args.version rows (given_rows true (db.trees tree))
          (exact _ (numbered_version_at n) true whole db shown.1 tree finds rows _ (shown.2 tree whole.columns (whole.asks db.schema tree finds))) c.is_version_alone.result is,
    )
