use Rattle.row_reads.proofs.CardAnswers.{record_named_found}
use Rattle.row_reads.proofs.AnswersOfRows.{answered_by}
use Rattle.row_reads.proofs.records.record_named.Goals as goal

pub returns-clause-finds : goal.returns-clause-finds
returns-clause-finds g c = record {
  found = answered_by g.S.Store c.args.conn.now c.one_of.new.conn _ _ c.one_of.result _ _ (rw (c.int.ensures, c.bytes.ensures.value) at c.one_of.ensures.answered) (record_named_found c.args.batch c.args.name.now _);
  looks = c.one_of.ensures.looks;
}
