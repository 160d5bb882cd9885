use Rattle.std.proofs.Common.{◌≡◌, map, take}
use Rattle.std.specs.Prelude.{filter}
use Rattle.table_rows.specs.Keys.{is_good_of}
use Rattle.row_laws.specs.RowValues.{line_of}
use Rattle.book_lines.proofs.report.lines_of.Given as goal

abbrev pub invariant-loop-rec : goal.invariant-loop-rec
invariant-loop-rec l = l.lines.items ≡ map (line_of (filter (is_good_of l.batch.id) l.tables.sessions)) (take l.rec-index l.records)
