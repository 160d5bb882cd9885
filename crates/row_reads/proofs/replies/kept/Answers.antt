use Rattle.row_reads.proofs.NameAnswers.{kept_found}
use Rattle.row_reads.proofs.AnswersOfRows.{answered_by}
use Rattle.row_reads.proofs.replies.kept.Goals as goal

pub returns : goal.returns
returns g c = record {
  found = answered_by g.S.Store c.args.conn.now c.one_of.new.conn _ _ c.one_of.result _ _ (rw (c.bytes.ensures.value, c.int.ensures) at c.one_of.ensures.answered) (kept_found c.args.client.now c.args.number _);
  looks = c.one_of.ensures.looks;
}
