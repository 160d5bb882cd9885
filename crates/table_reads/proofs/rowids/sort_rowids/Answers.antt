use Rattle.std.proofs.Common.{rules}
use Rattle.std.proofs.lemmas.List.Sorted.{answers_always}
use Rattle.table_reads.specs.Rowids.{rowid_int}
use Rattle.table_reads.proofs.rowids.sort_rowids.Goals as goal

pub returns-clause-sorted : goal.returns-clause-sorted
returns-clause-sorted c = c.in_ok-sort_by_key.ensures.sorted rowid_int (answers_always _ _ _ (λ f a r q k. search rules))
