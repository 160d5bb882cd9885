use Rattle.std.specs.List.{AllWithin}
use Rattle.sql_tables.specs.Alike.{is_no_further_key}
use Rattle.examination.proofs.schemas.first_further_key.Given as goal

abbrev pub invariant-loop-index : goal.invariant-loop-index
invariant-loop-index l = AllWithin is_no_further_key l.indexes 0 l.index-index
