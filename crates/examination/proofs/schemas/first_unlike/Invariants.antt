use Rattle.std.specs.List.{AllWithin}
use Rattle.sql_tables.specs.Alike.{IsOneOf}
use Rattle.examination.proofs.schemas.first_unlike.Given as goal

abbrev pub invariant-loop-table : goal.invariant-loop-table
invariant-loop-table l = AllWithin (IsOneOf l.others) l.tables 0 l.table-index
