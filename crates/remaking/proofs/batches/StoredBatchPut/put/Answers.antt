use Rattle.sql_base.proofs.Causing.{reports}
use Rattle.remaking.specs.PutTexts.{put_batch_text}
use Rattle.remaking.specs.Rows.{with_bare}
use Rattle.remaking.proofs.PuttingRows.{batch_put, row_put_in}
use Rattle.remaking.proofs.batches.StoredBatchPut.put.Goals as goal

pub returns-clause-wrote : goal.returns-clause-wrote
returns-clause-wrote g c clean =
    let numbers = rw (c.int.ensures, c.int-2.ensures, c.int-3.ensures, c.int-4.ensures, c.int-5.ensures, c.int-6.ensures, c.int-7.ensures, c.int-8.ensures, c.int-9.ensures) at (c.execute.ensures.runs clean) in
    row_put_in g.S.Store with_bare c.args.tx.now.conn.now c.execute.new.self.conn.now _ _ c.self.view_is _ _ _ (batch_put _ _ _) c.execute.result c.execute.ensures.ended
    (rw (c.from.ensures, c.as_slice.ensures.value, c.as_slice-2.ensures.value) at numbers)

pub returns-clause-no_trace : goal.returns-clause-no_trace
returns-clause-no_trace g c = record {
  same_reference = c.execute.ensures.same_reference;
  survives = c.execute.ensures.survives;
  cause = λ clean. reports g.S.Store c.args.tx.now.conn.now c.execute.new.self.conn.now put_batch_text _ c.execute.result c.execute.ensures.ended (c.execute.ensures.runs clean);
}
