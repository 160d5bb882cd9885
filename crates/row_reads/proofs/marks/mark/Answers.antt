use Rattle.std.proofs.Common.{rules}
use Rattle.row_reads.specs.Decoding.{first_number}
use Rattle.row_reads.proofs.Answering.{mark_found}
use Rattle.row_reads.proofs.AnswersOfRows.{value_answered}
use Rattle.row_reads.proofs.marks.mark.Goals as goal

pub returns-clause-finds : goal.returns-clause-finds
returns-clause-finds g c = record {
  found = λ clean.
      let shown = rw c.bytes.ensures.value at (c.in_ok-rows.ensures.shown clean) in
      value_answered (λ x. x) first_number _ _ _ _ _ _ c.as_slice.ensures.value shown.1 c.first_number.result _ c.first_number.ensures.value (mark_found c.args.client.now _ _ _ shown.1);
  looks = search rules;
}
