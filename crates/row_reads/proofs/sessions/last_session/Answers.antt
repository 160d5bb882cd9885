use Rattle.std.proofs.Common.{rules}
use Rattle.row_reads.specs.Decoding.{first_number}
use Rattle.row_reads.proofs.ManyAnswers.{last_session_found}
use Rattle.row_reads.proofs.AnswersOfRows.{value_answered}
use Rattle.row_reads.proofs.sessions.last_session.Goals as goal

pub returns-clause-finds : goal.returns-clause-finds
returns-clause-finds g c = record {
  found = λ clean.
      let shown = c.in_ok-rows.ensures.shown clean in
      value_answered (λ x. x) first_number _ _ _ _ _ _ c.as_slice.ensures.value shown.1 c.first_number.result _ c.first_number.ensures.value (last_session_found _ _ _ shown.1);
  looks = search rules;
}
