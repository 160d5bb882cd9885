-- Replies that are read without their bytes.
use Rattle.std.specs.Prelude.{◌≡◌, List, [], map, IsPermutation}
use Rattle.sqlite.specs.Order.{Row, column}
use Rattle.job_facts.specs.Contents.{Entry}
use Rattle.sql_rows.specs.Decoding.{bytes_in, number_in}
use Rattle.sql_rows.specs.Encoding.{reply_row}
use Rattle.table_reads.specs.Unread.{without_bytes}

-- the reply in a row of the query
abbrev pub brief_of : Row → Entry
brief_of row = record { client = bytes_in (column row 1); number = number_in (column row 2); ask = []; status = number_in (column row 3); body = [] }

-- The stored rows encode replies, in any order, and `entries` are these replies without their
-- bytes.
pub record StandWithoutBytes (entries : List Entry) (stored : List Row) : Type 0 where
  pub all : List Entry
  pub without : entries ≡ map without_bytes all
  pub rows_are : IsPermutation (map reply_row all) stored
