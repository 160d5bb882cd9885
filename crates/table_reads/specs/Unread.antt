-- Replies without the bytes that no audit rule reads.
use Rattle.std.specs.Prelude.{[], map}
use Rattle.job_facts.specs.Contents.{Entry}
use Rattle.table_rows.specs.Tables.{Tables}

-- the reply without its request bytes and its body
abbrev pub without_bytes : Entry → Entry
without_bytes e = record e { ask = []; body = [] }

abbrev pub without_reply_bytes : Tables → Tables
without_reply_bytes t = record t { replies = map without_bytes t.replies }
