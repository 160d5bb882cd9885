use Rattle.std.proofs.Common.{◌↔◌, IsTrue, MatchOption, false, map, subst, sym}
use Rattle.std.specs.List.Sorted.{IsPermutation}
use Rattle.sqlite.specs.Held.{state}
use Rattle.sql_base.specs.Rowids.{AreApart}
use Rattle.sql_rows.specs.Encoding.{reply_row}
use Rattle.sql_rows.specs.Image.{given_rows}
use Rattle.sql_tables.specs.Tables.{reply_at}
use Rattle.table_rows.specs.Tables.{HaveSameRows}
use Rattle.table_reads.specs.Shown.{IsAny}
use Rattle.table_reads.specs.Whole.{NoneFit}
use Rattle.table_reads.proofs.Meanings.{wholes}
use Rattle.table_reads.proofs.RowsHeld.{with_bytes}
use Rattle.table_reads.proofs.replies.with_reply_bytes.Goals as goal

pub returns-in_default-clause-value : goal.returns-in_default-clause-value
returns-in_default-clause-value g c clean =
    let db = (state g.S.Store c.args.conn.now).now in
    let read = c.in_ok-replies.ensures.value clean in (
      read.0,
      λ v t holds same.
          subst (λ found. MatchOption found (NoneFit reply_row IsAny (given_rows false (db.trees holds.replies.number))) (λ all. IsPermutation (map reply_row all.rows.items) (given_rows false (db.trees holds.replies.number)) × (IsTrue all.apart ↔ AreApart (db.trees holds.replies.number))))
          c.in_default.is (read.1 reply_at wholes.replies holds.replies.number holds.replies.finds) t.replies (λ k d low. tt) holds.replies.rows_are,
    )

pub returns-clause-value : goal.returns-clause-value
returns-clause-value g c clean =
    let db = (state g.S.Store c.args.conn.now).now in
    let read = c.in_ok-replies.ensures.value clean in
    let rows = c.in-Some.replies.rows.items in (
      read.0,
      λ v t holds same.
          subst (λ u. HaveSameRows (record u { replies = rows }) t) (sym c.tables.view_is)
          (with_bytes v db c.args.tables t holds same rows
          (λ tree finds.
          (subst (λ found. MatchOption found (NoneFit reply_row IsAny (given_rows false (db.trees tree))) (λ all. IsPermutation (map reply_row all.rows.items) (given_rows false (db.trees tree)) × (IsTrue all.apart ↔ AreApart (db.trees tree))))
          c.in-Some.is (read.1 reply_at wholes.replies tree finds)).0)),
    )
