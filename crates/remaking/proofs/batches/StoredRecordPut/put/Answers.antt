use Rattle.sql_base.proofs.Causing.{reports}
use Rattle.table_rows.specs.Tables.{with_record}
use Rattle.remaking.specs.PutTexts.{put_record_text}
use Rattle.remaking.proofs.PuttingRows.{record_put, row_put_in}
use Rattle.remaking.proofs.batches.StoredRecordPut.put.Goals as goal

pub returns-clause-wrote : goal.returns-clause-wrote
returns-clause-wrote g c clean =
    row_put_in g.S.Store with_record c.args.tx.now.conn.now c.execute.new.self.conn.now _ _ c.self.view_is _ _ _ (record_put _ _ _) c.execute.result c.execute.ensures.ended
    (rw (c.int.ensures, c.int-2.ensures, c.int-3.ensures, c.int-4.ensures, c.int-5.ensures, c.record_code.ensures, c.as_slice.ensures.value) at (c.execute.ensures.runs clean))

pub returns-clause-no_trace : goal.returns-clause-no_trace
returns-clause-no_trace g c = record {
  same_reference = c.execute.ensures.same_reference;
  survives = c.execute.ensures.survives;
  cause = λ clean. reports g.S.Store c.args.tx.now.conn.now c.execute.new.self.conn.now put_record_text _ c.execute.result c.execute.ensures.ended (c.execute.ensures.runs clean);
}
