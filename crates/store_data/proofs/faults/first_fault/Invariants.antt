use Rattle.std.proofs.Common.{◌≡◌}
use Rattle.std.specs.List.{list_any}
use Rattle.store_data.specs.Faults.{marks_differ, identifier_twice, has_too_many_blocks}
use Rattle.store_data.proofs.faults.first_fault.Given as goal

abbrev pub invariant-loop-rows : goal.invariant-loop-rows
invariant-loop-rows l = record {
  differ : l.found.marks_differ ≡ list_any (λ rows. marks_differ rows.items) l.yielded;
  twice : l.found.identifier_twice ≡ list_any (λ rows. identifier_twice rows.items) l.yielded;
  many : l.found.too_many_blocks ≡ list_any (λ rows. has_too_many_blocks l.max rows.items) l.yielded;
}
