-- A record and a row of a batch file as rows of their tables.
use Rattle.table_rows.specs.After.{new_record}
use Rattle.table_rows.specs.Tables.{StoredGrouping, StoredRecord}
use Rattle.row_writes.specs.declared.new_rows.FileRow.{FileRow}
use Rattle.row_writes.specs.declared.new_rows.NewRecord.{NewRecord}

abbrev pub record_of : NewRecord → StoredRecord
record_of r = new_record r.batch (r.place, r.name)

abbrev pub grouping_of : FileRow → StoredGrouping
grouping_of r = record {
  batch = r.batch;
  line = r.line;
  place = r.place;
  aid = r.row.aid;
  rank = r.row.rank;
  enc = r.row.enc;
  tol = r.row.tol;
  coded = r.row.coded;
}
