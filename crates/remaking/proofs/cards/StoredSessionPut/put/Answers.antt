use Rattle.sql_base.proofs.Causing.{reports}
use Rattle.table_rows.specs.Tables.{with_session}
use Rattle.remaking.specs.PutTexts.{put_session_text}
use Rattle.remaking.proofs.PuttingRows.{row_put_in, session_put}
use Rattle.remaking.proofs.cards.StoredSessionPut.put.Goals as goal

pub returns-clause-wrote : goal.returns-clause-wrote
returns-clause-wrote g c clean =
    let numbers = rw (c.int.ensures, c.int-2.ensures, c.int-3.ensures, c.int-4.ensures, c.int-5.ensures, c.int-6.ensures, c.int-7.ensures, c.int-8.ensures, c.int-9.ensures, c.int-10.ensures, c.int-11.ensures) at (c.execute.ensures.runs clean) in
    row_put_in g.S.Store with_session c.args.tx.now.conn.now c.execute.new.self.conn.now _ _ c.self.view_is _ _ _ (session_put _ _ _) c.execute.result c.execute.ensures.ended
    (rw (c.session_code.ensures, c.from.ensures, c.as_slice.ensures.value) at numbers)

pub returns-clause-no_trace : goal.returns-clause-no_trace
returns-clause-no_trace g c = record {
  same_reference = c.execute.ensures.same_reference;
  survives = c.execute.ensures.survives;
  cause = λ clean. reports g.S.Store c.args.tx.now.conn.now c.execute.new.self.conn.now put_session_text _ c.execute.result c.execute.ensures.ended (c.execute.ensures.runs clean);
}
