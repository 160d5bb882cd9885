use Rattle.sql_base.proofs.Causing.{reports}
use Rattle.table_rows.specs.Tables.{with_mark}
use Rattle.row_writes.specs.Texts.{add_mark_text}
use Rattle.row_writes.proofs.Putting.{mark_added}
use Rattle.remaking.proofs.PuttingRows.{row_put_in}
use Rattle.remaking.proofs.replies.StoredMarkPut.put.Goals as goal

pub returns-clause-wrote : goal.returns-clause-wrote
returns-clause-wrote g c clean =
    row_put_in g.S.Store with_mark c.args.tx.now.conn.now c.execute.new.self.conn.now _ _ c.self.view_is _ _ _ (mark_added _ _ _) c.execute.result c.execute.ensures.ended
    (rw (c.int.ensures, c.as_slice.ensures.value) at (c.execute.ensures.runs clean))

pub returns-clause-no_trace : goal.returns-clause-no_trace
returns-clause-no_trace g c = record {
  same_reference = c.execute.ensures.same_reference;
  survives = c.execute.ensures.survives;
  cause = λ clean. reports g.S.Store c.args.tx.now.conn.now c.execute.new.self.conn.now add_mark_text _ c.execute.result c.execute.ensures.ended (c.execute.ensures.runs clean);
}
