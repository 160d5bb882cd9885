use Rattle.std.proofs.Common.{◌≡◌, length, Ok, rules}
use Rattle.std.specs.Prelude.{filter}
use Rattle.table_rows.specs.Keys.{is_grouping_of}
use Rattle.row_reads.proofs.ManyAnswers.{groupings_counted}
use Rattle.row_reads.proofs.AnswersOfRows.{value_answered}
use Rattle.row_reads.proofs.groupings.grouping_count.Goals as goal

pub returns : goal.returns
returns g c = record {
  found = λ clean.
      let shown = rw c.int.ensures at (c.in_ok-rows.ensures.shown clean) in
      value_answered (λ x. x) length _ _ _ _ _ _ c.as_slice.ensures.value shown.1 (Ok c.count.result)
      (λ t n. n ≡ length (filter (is_grouping_of c.args.batch) t.groupings)) c.count.ensures (groupings_counted c.args.batch _ _ _ shown.1);
  looks = search rules;
}
