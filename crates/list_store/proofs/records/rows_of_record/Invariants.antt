use Rattle.std.proofs.Common.{◌≡◌}
use Rattle.job_facts.specs.States.{rows_of_record}
use Rattle.list_store.proofs.records.rows_of_record.Given as goal

abbrev pub invariant-loop-row : goal.invariant-loop-row
invariant-loop-row l = l.kept.items ≡ rows_of_record l.yielded l.rec
