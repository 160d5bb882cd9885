use Rattle.std.proofs.Common.{map}
use Rattle.std.specs.Prelude.{filter}
use Rattle.table_rows.specs.Keys.{is_grouping_at}
use Rattle.row_reads.specs.CardDecoding.{grouping_at, grouping_in, line_of}
use Rattle.row_reads.specs.Extremes.{AreSorted}
use Rattle.row_reads.proofs.ManyAnswers.{groupings_found}
use Rattle.row_reads.proofs.AnswersOfRows.{list_answered}
use Rattle.row_reads.proofs.groupings.groupings_of.Goals as goal

pub returns-clause-finds : goal.returns-clause-finds
returns-clause-finds g c = record {
  found =
      list_answered g.S.Store c.args.conn.now c.all_of.new.conn (λ v. v.items) (map grouping_in) _ _ c.all_of.result
      (λ t. AreSorted line_of (map grouping_at (filter (is_grouping_at c.args.batch c.args.place) t.groupings))) (rw (c.int.ensures, c.int-2.ensures) at c.all_of.ensures.answered) (groupings_found c.args.batch c.args.place _);
  looks = c.all_of.ensures.looks;
}
