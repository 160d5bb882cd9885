use Rattle.std.proofs.Common.{◌≡◌, ◌++◌, drop, map}
use Rattle.std.specs.List.{flat_map}
use Rattle.sqlite.specs.Values.{bound}
use Rattle.sql_rows.specs.Encoding.{record_row}
use Rattle.row_writes.specs.FileRows.{record_of}
use Rattle.row_writes.proofs.file_rows.all_record_values.Given as goal

abbrev pub invariant-loop-record : goal.invariant-loop-record
invariant-loop-record l = flat_map record_row (map record_of l.fn.records) ≡ bound l.values.items ++ flat_map record_row (map record_of (drop l.record-index l.records))
