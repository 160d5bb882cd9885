use Rattle.std.proofs.Common.{◌≡◌, ℕ, length, rules}
use Rattle.row_reads.specs.Counts.{shown_count}
use Rattle.row_reads.specs.Decoding.{first_number}
use Rattle.row_reads.proofs.Counting.{reply_count_found}
use Rattle.row_reads.proofs.AnswersOfRows.{rows_answered}
use Rattle.row_reads.proofs.replies.reply_count.Goals as goal

pub returns : goal.returns
returns g c = record {
  found = λ clean.
      let shown = c.in_ok-rows.ensures.shown clean in
      rows_answered _ _ _ _ _ _ c.as_slice.ensures.value shown.1 c.whole_count.result (λ rows n. (m : ℕ) → first_number rows ≡ shown_count m → n ≡ m) _ c.whole_count.ensures
      (λ t image n is. is (length t.replies) (reply_count_found _ _ _ shown.1 t image));
  looks = search rules;
}
