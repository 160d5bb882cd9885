use Rattle.std.proofs.Common.{◌≡◌, length, Ok, rules}
use Rattle.row_reads.proofs.LotAnswers.{product_count_found}
use Rattle.row_reads.proofs.AnswersOfRows.{value_answered}
use Rattle.row_reads.proofs.products.product_count.Goals as goal

pub returns : goal.returns
returns g c = record {
  found = λ clean.
      let shown = c.in_ok-rows.ensures.shown clean in
      value_answered (λ x. x) length _ _ _ _ _ _ c.as_slice.ensures.value shown.1 (Ok c.count.result) (λ t n. n ≡ length t.products) c.count.ensures (product_count_found _ _ _ shown.1);
  looks = search rules;
}
