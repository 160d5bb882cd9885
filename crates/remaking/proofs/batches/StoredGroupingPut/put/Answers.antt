use Rattle.sql_base.proofs.Causing.{reports}
use Rattle.table_rows.specs.Tables.{with_grouping}
use Rattle.row_writes.specs.BatchTexts.{add_grouping_text}
use Rattle.row_writes.proofs.PuttingFileRows.{grouping_added}
use Rattle.remaking.proofs.PuttingRows.{row_put_in}
use Rattle.remaking.proofs.batches.StoredGroupingPut.put.Goals as goal

pub returns-clause-wrote : goal.returns-clause-wrote
returns-clause-wrote g c clean =
    let numbers = rw (c.int.ensures, c.int-2.ensures, c.int-3.ensures, c.int-4.ensures, c.int-5.ensures, c.int-6.ensures) at (c.execute.ensures.runs clean) in
    row_put_in g.S.Store with_grouping c.args.tx.now.conn.now c.execute.new.self.conn.now _ _ c.self.view_is _ _ _ (grouping_added _ _ _) c.execute.result c.execute.ensures.ended
    (rw (c.enc_code.ensures, c.from.ensures, c.from-2.ensures, c.as_slice.ensures.value, c.as_slice-2.ensures.value) at numbers)

pub returns-clause-no_trace : goal.returns-clause-no_trace
returns-clause-no_trace g c = record {
  same_reference = c.execute.ensures.same_reference;
  survives = c.execute.ensures.survives;
  cause = λ clean. reports g.S.Store c.args.tx.now.conn.now c.execute.new.self.conn.now add_grouping_text _ c.execute.result c.execute.ensures.ended (c.execute.ensures.runs clean);
}
