use Rattle.sql_base.proofs.Causing.{reports}
use Rattle.table_rows.specs.Tables.{with_word}
use Rattle.row_writes.specs.Texts.{add_word_text}
use Rattle.row_writes.proofs.Putting.{word_added}
use Rattle.remaking.proofs.PuttingRows.{row_put_in}
use Rattle.remaking.proofs.cards.StoredWordPut.put.Goals as goal

pub returns-clause-wrote : goal.returns-clause-wrote
returns-clause-wrote g c clean =
    row_put_in g.S.Store with_word c.args.tx.now.conn.now c.execute.new.self.conn.now _ _ c.self.view_is _ _ _ (word_added _ _ _) c.execute.result c.execute.ensures.ended
    (rw (c.int.ensures, c.int-2.ensures, c.int-3.ensures, c.from.ensures) at (c.execute.ensures.runs clean))

pub returns-clause-no_trace : goal.returns-clause-no_trace
returns-clause-no_trace g c = record {
  same_reference = c.execute.ensures.same_reference;
  survives = c.execute.ensures.survives;
  cause = λ clean. reports g.S.Store c.args.tx.now.conn.now c.execute.new.self.conn.now add_word_text _ c.execute.result c.execute.ensures.ended (c.execute.ensures.runs clean);
}
