use Rattle.row_reads.proofs.CardAnswers.{running_found}
use Rattle.row_reads.proofs.AnswersOfRows.{answered_by}
use Rattle.row_reads.proofs.sessions.running_session.Goals as goal

pub returns-clause-finds : goal.returns-clause-finds
returns-clause-finds g c = record {
  found = answered_by g.S.Store c.args.conn.now c.one_of.new.conn _ _ c.one_of.result _ _ (rw c.bytes.ensures.value at c.one_of.ensures.answered) (running_found c.args.machine.now _);
  looks = c.one_of.ensures.looks;
}
