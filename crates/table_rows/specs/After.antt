-- The rows after a `Writing` and its reply.
use Rattle.std.specs.Prelude.{◌+◌, ◌-◌, ℕ, true, false, List, ◌++◌, map, bytes_eq}
use Rattle.std.specs.List.{enumerate_from, position_or_len}
use Rattle.store_data.specs.Cursor.{select_cursor}
use Rattle.store_data.specs.Groups.{first_appearances}
use Rattle.store_data.specs.declared.row.Row.{Row}
use Rattle.batch_import.specs.Batch.{coming_of}
use Rattle.job_facts.specs.declared.change.NewSession.{NewSession}
use Rattle.job_facts.specs.declared.change.NewWord.{NewWord}
use Rattle.job_facts.specs.declared.facts.Lot.{Lot}
use Rattle.job_facts.specs.declared.facts.RecordState.{RecordState}
use Rattle.job_facts.specs.declared.facts.RecordState.TheVariants as rec
use Rattle.job_facts.specs.declared.facts.SessionState.{SessionState}
use Rattle.job_facts.specs.declared.facts.SessionState.TheVariants as session
use Rattle.job_facts.specs.declared.rows.BatchTotals.{BatchTotals}
use Rattle.job_facts.specs.Contents.{Entry}
use Rattle.table_rows.specs.declared.writing.RecordPlace.{RecordPlace}
use Rattle.table_rows.specs.declared.writing.Writing.{Writing}
use Rattle.table_rows.specs.declared.writing.Writing.TheVariants as writing
use Rattle.table_rows.specs.Tables.{StoredBatch, StoredGrouping, StoredLot, StoredRecord, StoredSession, Tables, with_batch, with_blank, with_closed_set, with_end_set, with_lot, with_lot_set, with_mark, with_product, with_record_set, with_remake, with_reply, with_session, with_session_set, with_totals_set, with_word, without_mark, without_replies}

-- ---- counters

-- the counters after removing a record in this state
abbrev pub less : RecordState → BatchTotals → BatchTotals
less rec.Waiting n = record n { waiting = n.waiting - 1 }
less rec.Running n = record n { running = n.running - 1 }
less rec.Failed n = record n { failed = n.failed - 1 }
less rec.Withdrawn n = record n { withdrawn = n.withdrawn - 1 }
less rec.Good n = record n { good = n.good - 1 }

-- the counters after adding a record in this state
abbrev pub more : RecordState → BatchTotals → BatchTotals
more rec.Waiting n = record n { waiting = n.waiting + 1 }
more rec.Running n = record n { running = n.running + 1 }
more rec.Failed n = record n { failed = n.failed + 1 }
more rec.Withdrawn n = record n { withdrawn = n.withdrawn + 1 }
more rec.Good n = record n { good = n.good + 1 }

-- the counters after adding a session
abbrev pub one_opened : BatchTotals → BatchTotals
one_opened n = record n { sessions = n.sessions + 1 }

-- the counters after adding a spoiled session
abbrev pub one_spoiled : BatchTotals → BatchTotals
one_spoiled n = record n { spoiled = n.spoiled + 1 }

-- ---- a record that changes its state

-- the rows after record `p` gets `state`, `spoiled` and `remakes`, and its batch gets the counters
-- `totals`
abbrev pub record_after : RecordPlace → RecordState → ℕ → ℕ → BatchTotals → Tables → Tables
record_after p state spoiled remakes totals t = with_totals_set p.batch totals (with_record_set p.batch p.place state spoiled remakes t)

-- the rows after record `p` changes from `was` to `state`, with the same numbers of spoiled
-- sessions and remakes
abbrev pub passed : RecordPlace → RecordState → RecordState → Tables → Tables
passed p was state t = record_after p state p.spoiled p.remakes (more state (less was p.totals)) t

-- the rows after the running session of record `p` changes to the given state. A session that is
-- still running changes nothing.
abbrev pub stopped : RecordPlace → SessionState → Tables → Tables
stopped p session.Running t = t
stopped p session.Good t = passed p rec.Running rec.Good t
stopped p session.Spoiled t = record_after p rec.Failed (p.spoiled + 1) p.remakes (one_spoiled (more rec.Failed (less rec.Running p.totals))) t

-- ---- new rows

-- a new lot has no discarded blanks
abbrev pub new_lot : Lot → StoredLot
new_lot l = record { lot = l; discarded = 0 }

-- a new batch, whose records are all waiting
abbrev pub new_batch : ℕ → List ℕ → List ℕ → List ℕ → ℕ → StoredBatch
new_batch id name product raw records = record {
  id = id;
  name = name;
  product = product;
  raw = raw;
  closed = false;
  waiting = records;
  running = 0;
  failed = 0;
  withdrawn = 0;
  good = 0;
  sessions = 0;
  spoiled = 0;
}

abbrev pub new_record : ℕ → ℕ × List ℕ → StoredRecord
new_record batch r = record { batch = batch; place = r.0; name = r.1; state = rec.Waiting; spoiled = 0; remakes = 0 }

-- the row of `grouping2` for a row of a batch file with its row number. `names` are the names of
-- the file's records.
abbrev pub new_grouping : ℕ → List (List ℕ) → ℕ × Row → StoredGrouping
new_grouping batch names row = record {
  batch = batch;
  line = row.0;
  place = position_or_len (bytes_eq row.1.rec) names;
  aid = row.1.aid;
  rank = row.1.rank;
  enc = row.1.enc;
  tol = row.1.tol;
  coded = row.1.coded;
}

-- the rows after an import: a batch with its records and groupings. Row numbers begin with 2,
-- because row 1 of the file is the header.
abbrev pub batch_rows_after : ℕ → List ℕ → List ℕ → List ℕ → ℕ → List Row → Tables → Tables
batch_rows_after id name product raw records rows t =
    let names = first_appearances (map (λ (row : Row). row.rec) rows) in
    with_batch (new_batch id name product raw records) (record t {
      records = map (new_record id) (enumerate_from 0 names) ++ t.records;
      groupings = map (new_grouping id names) (enumerate_from 2 rows) ++ t.groupings;
    })

-- a new session, whose cursor is at the first SELECT
abbrev pub new_session : ℕ → RecordPlace → List ℕ → ℕ → StoredSession
new_session id p machine blank = record {
  id = id;
  machine = machine;
  batch = p.batch;
  place = p.place;
  serial = blank;
  state = session.Running;
  ended = false;
  words = 0;
  cursor = select_cursor 0;
}

-- the rows after a waiting record gets a running session, which charges its blank
abbrev pub session_rows_after : NewSession → RecordPlace → Tables → Tables
session_rows_after s p t =
    record_after p rec.Running p.spoiled p.remakes (one_opened (more rec.Running (less rec.Waiting p.totals)))
    (with_blank (record { serial = s.blank; lot = s.lot; discarded = false }) (with_session (new_session s.number p s.machine s.blank) t))

-- the rows after a status word, with its session in the state `stands`
abbrev pub word_rows_after : NewWord → SessionState → Tables → Tables
word_rows_after w stands t =
    with_session_set w.session stands (w.index + 1) w.cursor (with_word (record { session = w.session; place = w.index; sw = w.sw }) t)

-- ---- all rows that are written

-- the rows after a `Writing` without its reply. An import of a batch file without a fault adds
-- exactly the rows that the file produces.
abbrev pub rows_after : Writing → Tables → Tables
rows_after writing.Nothing t = t
rows_after (writing.AddsProduct p) t = with_product p t
rows_after (writing.AddsLot l) t = with_lot (new_lot l) t
rows_after (writing.AddsBatch b) t = batch_rows_after b.number b.name b.product.code b.raw.now b.records (coming_of b.product.check b.raw.now).rows t
rows_after (writing.Opens s p) t = session_rows_after s p t
rows_after (writing.AddsWord w) t = word_rows_after w session.Running t
rows_after (writing.AddsLastWord w stands p) t = stopped p stands (word_rows_after w stands t)
rows_after (writing.Ends s p) t = stopped p session.Spoiled (with_end_set s t)
rows_after (writing.Discards blank lot discarded) t = with_lot_set lot (discarded + 1) (with_blank (record { serial = blank; lot = lot; discarded = true }) t)
rows_after (writing.Remakes p) t =
    record_after p rec.Waiting p.spoiled (p.remakes + 1) (more rec.Waiting (less rec.Failed p.totals))
    (with_remake (record { batch = p.batch; place = p.place; turn = p.remakes + 1 }) t)
rows_after (writing.Withdraws was p) t = passed p was rec.Withdrawn t
rows_after (writing.Closes b) t = with_closed_set b t
rows_after (writing.Releases client upto) t = with_mark (record { client = client; upto = upto }) (without_mark client (without_replies client upto t))

-- the rows after a `Writing` with its reply
abbrev pub rows_written : Writing → Entry → Tables → Tables
rows_written w entry t = with_reply entry (rows_after w t)
