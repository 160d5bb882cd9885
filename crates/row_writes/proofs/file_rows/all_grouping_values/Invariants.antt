use Rattle.std.proofs.Common.{◌≡◌, ◌++◌, drop, map}
use Rattle.std.specs.List.{flat_map}
use Rattle.sqlite.specs.Values.{bound}
use Rattle.sql_rows.specs.Encoding.{grouping_row}
use Rattle.row_writes.specs.FileRows.{grouping_of}
use Rattle.row_writes.proofs.file_rows.all_grouping_values.Given as goal

abbrev pub invariant-loop-row : goal.invariant-loop-row
invariant-loop-row l = flat_map grouping_row (map grouping_of l.fn.rows) ≡ bound l.values.items ++ flat_map grouping_row (map grouping_of (drop l.row-index l.rows))
