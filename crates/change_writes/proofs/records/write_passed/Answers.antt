use Rattle.change_writes.proofs.records.write_passed.Goals as goal

pub returns : goal.returns
returns g c = record {
  wrote = λ clean. rw c.passed-totals.ensures.value at (c.write_record.ensures.wrote clean);
  same_reference = c.write_record.ensures.same_reference;
  survives = c.write_record.ensures.survives;
}
