use Rattle.std.proofs.Common.{map}
use Rattle.std.specs.Prelude.{filter}
use Rattle.row_reads.specs.CardDecoding.{coded_at, coded_in, coded_line, is_of_segment}
use Rattle.row_reads.specs.Extremes.{AreSorted}
use Rattle.row_reads.proofs.ManyAnswers.{coded_found}
use Rattle.row_reads.proofs.AnswersOfRows.{list_answered}
use Rattle.row_reads.proofs.groupings.coded_of.Goals as goal

pub returns-clause-finds : goal.returns-clause-finds
returns-clause-finds g c = record {
  found =
      list_answered g.S.Store c.args.conn.now c.all_of.new.conn (λ v. v.items) (map coded_in) _ _ c.all_of.result
      (λ t. AreSorted coded_line (map coded_at (filter (is_of_segment c.args.batch c.args.place c.args.aid.now c.args.rank) t.groupings)))
      (rw (c.int.ensures, c.int-2.ensures, c.bytes.ensures.value, c.int-3.ensures, c.from.ensures) at c.all_of.ensures.answered)
      (coded_found c.args.batch c.args.place c.args.aid.now c.args.rank _);
  looks = c.all_of.ensures.looks;
}
