use Rattle.std.proofs.Common.{map}
use Rattle.std.specs.Prelude.{filter}
use Rattle.std.specs.List.Sorted.{IsPermutation}
use Rattle.table_rows.specs.Keys.{is_good_of}
use Rattle.row_reads.specs.CardDecoding.{good_at, good_in}
use Rattle.row_reads.proofs.ManyAnswers.{good_found}
use Rattle.row_reads.proofs.AnswersOfRows.{list_answered}
use Rattle.row_reads.proofs.sessions.good_sessions.Goals as goal

pub returns-clause-finds : goal.returns-clause-finds
returns-clause-finds g c = record {
  found =
      list_answered g.S.Store c.args.conn.now c.all_of.new.conn (λ v. v.items) (map good_in) _ _ c.all_of.result
      (λ t. IsPermutation (map good_at (filter (is_good_of c.args.batch) t.sessions))) (rw c.int.ensures at c.all_of.ensures.answered) (good_found c.args.batch _);
  looks = c.all_of.ensures.looks;
}
