-- The values of rows that queries return for sessions, records and groupings.
use Rattle.std.specs.Prelude.{◌<◌, ◌≤◌, ◌^◌, ◌==◌, ◌&&◌, ℕ, Bool, List, bytes_eq}
use Rattle.sqlite.specs.Order.{Row, column}
use Rattle.store_data.specs.declared.cursor.Cursor.{Cursor}
use Rattle.store_data.specs.Cursor.{IsCursor}
use Rattle.sql_rows.specs.Decoding.{enc_of_code, flag_in, number_in, record_state_of_code, session_state_of_code}
use Rattle.row_reads.specs.declared.groupings.CodedAt.{CodedAt}
use Rattle.row_reads.specs.declared.groupings.GroupingAt.{GroupingAt}
use Rattle.row_reads.specs.declared.records.RecordAt.{RecordAt}
use Rattle.row_reads.specs.declared.sessions.GoodCard.{GoodCard}
use Rattle.row_reads.specs.declared.sessions.SessionAt.{SessionAt}
use Rattle.table_rows.specs.Keys.{is_grouping_at}
use Rattle.table_rows.specs.Tables.{StoredGrouping, StoredRecord, StoredSession}
use Rattle.row_reads.specs.Decoding.{blob_in, text_in}

-- ---- sessions

abbrev pub cursor_in : Row → Cursor
cursor_in row = record { app = number_in (column row 5); segment = number_in (column row 6); offset = number_in (column row 7); block = number_in (column row 8) }

abbrev pub session_in : Row → SessionAt
session_in row = record {
  machine = text_in (column row 0);
  batch = number_in (column row 1);
  place = number_in (column row 2);
  stands = session_state_of_code (number_in (column row 3));
  words = number_in (column row 4);
  cursor = cursor_in row;
}

-- the part of the stored session `s` that is read
abbrev pub session_at : StoredSession → SessionAt
session_at s = record { machine = s.machine; batch = s.batch; place = s.place; stands = s.state; words = s.words; cursor = s.cursor }

-- The numbers of `s` are below 2^63, as parameters of statements must be, and its cursor is in the
-- ranges of plans.
pub record IsSessionAt (s : SessionAt) : Type 0 where
  pub batch : s.batch < 2 ^ 63
  pub place : s.place < 2 ^ 63
  pub words : s.words < 2 ^ 63
  pub cursor : IsCursor s.cursor

abbrev pub good_in : Row → GoodCard
good_in row = record { place = number_in (column row 0); serial = number_in (column row 1) }

-- the part of the good session `s` that is read
abbrev pub good_at : StoredSession → GoodCard
good_at s = record { place = s.place; serial = s.serial }

-- The numbers of `g` are below 2^63, as parameters of statements must be.
pub record IsGoodCard (g : GoodCard) : Type 0 where
  pub place : g.place < 2 ^ 63
  pub serial : g.serial < 2 ^ 63

-- ---- records

abbrev pub record_in : Row → RecordAt
record_in row = record {
  place = number_in (column row 0);
  name = text_in (column row 1);
  stands = record_state_of_code (number_in (column row 2));
  spoiled = number_in (column row 3);
  remakes = number_in (column row 4);
}

-- the part of the stored record `r` that is read
abbrev pub record_at : StoredRecord → RecordAt
record_at r = record { place = r.place; name = r.name; stands = r.state; spoiled = r.spoiled; remakes = r.remakes }

-- The numbers of `r` are below 2^63, as parameters of statements must be.
pub record IsRecordAt (r : RecordAt) : Type 0 where
  pub place : r.place < 2 ^ 63
  pub spoiled : r.spoiled < 2 ^ 63
  pub remakes : r.remakes < 2 ^ 63

abbrev pub place_of : RecordAt → ℕ
place_of r = r.place

-- ---- groupings

abbrev pub grouping_in : Row → GroupingAt
grouping_in row = record {
  line = number_in (column row 0);
  aid = blob_in (column row 1);
  rank = number_in (column row 2);
  enc = enc_of_code (number_in (column row 3));
  tol = flag_in (column row 4);
}

-- the part of the stored grouping `g` that is read, without its bytes
abbrev pub grouping_at : StoredGrouping → GroupingAt
grouping_at g = record { line = g.line; aid = g.aid; rank = g.rank; enc = g.enc; tol = g.tol }

abbrev pub line_of : GroupingAt → ℕ
line_of g = g.line

-- The row number and the rank of `g` are in their ranges.
pub record IsGroupingAt (g : GroupingAt) : Type 0 where
  pub line : g.line < 2 ^ 63
  pub least_rank : 1 ≤ g.rank
  pub most_rank : g.rank ≤ 999

-- ---- bytes of groupings

-- `g` belongs to the record at position `place` of the batch with the id `batch`, and has the
-- application identifier `aid` and the rank `rank`.
abbrev pub is_of_segment : ℕ → ℕ → List ℕ → ℕ → StoredGrouping → Bool
is_of_segment batch place aid rank g = is_grouping_at batch place g && (bytes_eq g.aid aid && (g.rank == rank))

abbrev pub coded_in : Row → CodedAt
coded_in row = record { line = number_in (column row 0); coded = blob_in (column row 1) }

-- the row number and the bytes of the stored grouping `g`
abbrev pub coded_at : StoredGrouping → CodedAt
coded_at g = record { line = g.line; coded = g.coded }

abbrev pub coded_line : CodedAt → ℕ
coded_line g = g.line

-- The row number of `g` is in its range.
abbrev pub IsCodedAt : CodedAt → Type 0
IsCodedAt g = g.line < 2 ^ 63
