use Rattle.std.proofs.Common.{◌≡◌, Ok, rules}
use Rattle.std.specs.List.{list_any}
use Rattle.table_rows.specs.Keys.{is_batch_with}
use Rattle.row_reads.specs.Decoding.{has_rows}
use Rattle.row_reads.proofs.BatchAnswers.{batch_has_found}
use Rattle.row_reads.proofs.AnswersOfRows.{value_answered}
use Rattle.row_reads.proofs.batches.batch_has.Goals as goal

pub returns : goal.returns
returns g c = record {
  found = λ clean.
      let shown = rw c.bytes.ensures.value at (c.in_ok-rows.ensures.shown clean) in
      value_answered (λ x. x) has_rows _ _ _ _ _ _ c.as_slice.ensures.value shown.1 (Ok c.has_rows.result)
      (λ t has. has ≡ list_any (is_batch_with c.args.name.now c.args.raw.now) t.batches) c.has_rows.ensures (batch_has_found c.args.name.now c.args.raw.now _ _ _ shown.1);
  looks = search rules;
}
