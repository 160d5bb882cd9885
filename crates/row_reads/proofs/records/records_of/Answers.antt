use Rattle.std.proofs.Common.{map}
use Rattle.std.specs.Prelude.{filter}
use Rattle.table_rows.specs.Keys.{is_record_of}
use Rattle.row_reads.specs.CardDecoding.{place_of, record_at, record_in}
use Rattle.row_reads.specs.Extremes.{AreSorted}
use Rattle.row_reads.proofs.ManyAnswers.{records_found}
use Rattle.row_reads.proofs.AnswersOfRows.{list_answered}
use Rattle.row_reads.proofs.records.records_of.Goals as goal

pub returns-clause-finds : goal.returns-clause-finds
returns-clause-finds g c = record {
  found =
      list_answered g.S.Store c.args.conn.now c.all_of.new.conn (λ v. v.items) (map record_in) _ _ c.all_of.result
      (λ t. AreSorted place_of (map record_at (filter (is_record_of c.args.batch) t.records))) (rw c.int.ensures at c.all_of.ensures.answered) (records_found c.args.batch _);
  looks = c.all_of.ensures.looks;
}
