use Rattle.row_reads.proofs.BatchAnswers.{batch_name_found}
use Rattle.row_reads.proofs.AnswersOfRows.{answered_by}
use Rattle.row_reads.proofs.batches.batch_name.Goals as goal

pub returns : goal.returns
returns g c = record {
  found = answered_by g.S.Store c.args.conn.now c.one_of.new.conn _ _ c.one_of.result _ _ (rw c.int.ensures at c.one_of.ensures.answered) (batch_name_found c.args.id _);
  looks = c.one_of.ensures.looks;
}
