use Rattle.std.proofs.Common.{◌≡◌, ◌≤◌, ◌*◌, sum_by, take}
use Rattle.store_data.specs.declared.faults.Summary.{Summary}
use Rattle.store_data.proofs.faults.blocks.sent_length.Given as goal

abbrev pub invariant-loop-row : goal.invariant-loop-row
invariant-loop-row l = record {
  small : l.length ≤ l.row-index * 65535;
  sum : l.length ≡ sum_by (λ (row : Summary). row.sent) (take l.row-index l.rows);
}
