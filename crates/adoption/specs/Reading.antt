-- The rows that were read from a database.
use Rattle.std.specs.Prelude.{◌↔◌, IsTrue}
use Rattle.sqlite.specs.Effect.{Database}
use Rattle.table_rows.specs.Tables.{HaveSameRows, Tables}
use Rattle.table_reads.specs.Holding.{HoldsRows}
use Rattle.table_reads.specs.Rowids.{StandAsMade}
use Rattle.table_reads.specs.Unread.{without_reply_bytes}
use Rattle.examination.specs.Findings.{AreOfSoundContents}
use Rattle.examination.specs.declared.finding.ExaminedRows.{ExaminedRows}

-- The database holds the rows `t`, and `read` has them in some order, without the bytes of replies.
-- `read` also has whether the tables and rowids are as the store makes them.
pub record IsReading (t : Tables) (db : Database) (read : ExaminedRows) : Type 0 where
  pub rows : HoldsRows read.version t db
  pub same : HaveSameRows read.tables (without_reply_bytes t)
  pub as_made : IsTrue read.as_made ↔ StandAsMade db

-- The database holds the rows of sound contents, and `read` was read from them.
abbrev pub HoldsAsRead : ExaminedRows → Database → Type 0
HoldsAsRead read db = (t : Tables) × IsReading t db read × AreOfSoundContents t
