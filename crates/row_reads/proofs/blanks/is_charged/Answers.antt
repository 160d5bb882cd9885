use Rattle.std.proofs.Common.{◌≡◌, Ok, rules}
use Rattle.std.specs.List.{list_any}
use Rattle.table_rows.specs.Keys.{is_blank}
use Rattle.row_reads.specs.Decoding.{has_rows}
use Rattle.row_reads.proofs.BatchAnswers.{is_charged_found}
use Rattle.row_reads.proofs.AnswersOfRows.{value_answered}
use Rattle.row_reads.proofs.blanks.is_charged.Goals as goal

pub returns : goal.returns
returns g c = record {
  found = λ clean.
      let shown = rw c.int.ensures at (c.in_ok-rows.ensures.shown clean) in
      value_answered (λ x. x) has_rows _ _ _ _ _ _ c.as_slice.ensures.value shown.1 (Ok c.has_rows.result)
      (λ t has. has ≡ list_any (is_blank c.args.serial) t.blanks) c.has_rows.ensures (is_charged_found c.args.serial _ _ _ shown.1);
  looks = search rules;
}
