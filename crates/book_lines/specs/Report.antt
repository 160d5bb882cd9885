-- The report of a batch, made from rows.
use Rattle.std.specs.Prelude.{List, ℕ, find, Option, Some, option_map}
use Rattle.table_rows.specs.Keys.{is_batch_named}
use Rattle.table_rows.specs.Tables.{StoredBatch, Tables, totals_of}
use Rattle.row_laws.specs.RowValues.{batch_of_row, lines_at}
use Rattle.reports.specs.Report.{text_with}

-- the current report of `b`, even if the batch is still open
unfoldable pub batch_report : Tables → StoredBatch → List ℕ
batch_report t b = text_with b.name (batch_of_row b) (lines_at t.records t.sessions (Some b)) (totals_of b)

-- the report of the batch `name`, or `None` if the batch doesn't exist
abbrev pub report_of : Tables → List ℕ → Option (List ℕ)
report_of t name = option_map (batch_report t) (find (is_batch_named name) t.batches)
