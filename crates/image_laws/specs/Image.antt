-- The image of contents: the rows of each table that represent them. Columns that depend on other
-- columns have the values that the states and accounts of the reference model define (this
-- project's profile).
use Rattle.std.specs.Prelude.{◌+◌, ℕ, Bool, true, false, List, [], ◌++◌, map, flat_map, count_by, bytes_eq, Option, Some, None, length}
use Rattle.std.specs.List.{enumerate_from, position_or_len, range_with_len}
use Rattle.store_data.specs.declared.row.Row.{Row}
use Rattle.job_facts.specs.declared.facts.Lot.{Lot}
use Rattle.job_facts.specs.declared.rows.BatchTotals.{BatchTotals}
use Rattle.job_facts.specs.Accounts.{batch_totals}
use Rattle.job_facts.specs.Contents.{Contents}
use Rattle.job_facts.specs.Facts.{Batch, Facts, Session}
use Rattle.job_facts.specs.States.{is_closed, is_spoiled, lot_of, record_state, records_named, records_of, remakes_of, rows_of, session_cursor, session_state, states_of}
use Rattle.step_laws.specs.Sums.{discarded_in}
use Rattle.table_rows.specs.After.{new_grouping}
use Rattle.table_rows.specs.Tables.{StoredBatch, StoredBlank, StoredGrouping, StoredLot, StoredRecord, StoredRemake, StoredSession, StoredWord, Tables}

-- ---- numbers instead of names

-- the batches with their ids 1, 2, ..
abbrev pub batches_by_id : Facts → List (ℕ × Batch)
batches_by_id f = enumerate_from 1 f.batches

-- the id of the batch with the name `b`
abbrev pub batch_id : List Batch → List ℕ → ℕ
batch_id batches b = 1 + position_or_len (λ (batch : Batch). bytes_eq batch.name b) batches

-- the place of record `r` among the records of its batch, from 0
abbrev pub place_in : List (List ℕ) → List ℕ → ℕ
place_in names r = position_or_len (bytes_eq r) names

-- the sessions with their ids 1, 2, ..
abbrev pub sessions_by_id : Facts → List (ℕ × Session)
sessions_by_id f = enumerate_from 1 f.sessions

-- ---- lots and blanks

abbrev pub name_of : Option Lot → List ℕ
name_of None = []
name_of (Some l) = l.name

-- the name of the lot that contains `blank`, or an empty name if no lot does
abbrev pub lot_name : Facts → ℕ → List ℕ
lot_name f blank = name_of (lot_of f.lots blank)

-- lot `l` with the number of its discarded blanks
abbrev pub stored_lot : Facts → Lot → StoredLot
stored_lot f l = record { lot = l; discarded = discarded_in f l }

unfoldable pub stored_lots : Facts → List StoredLot
stored_lots f = map (stored_lot f) f.lots

abbrev pub stored_blank : Facts → Bool → ℕ → StoredBlank
stored_blank f discarded blank = record { serial = blank; lot = lot_name f blank; discarded = discarded }

-- the charged blanks: the blanks of the sessions, followed by the discarded blanks
unfoldable pub stored_blanks : Facts → List StoredBlank
stored_blanks f = map (λ (s : Session). stored_blank f false s.blank) f.sessions ++ map (stored_blank f true) f.discarded

-- ---- batches, their records and their groupings

-- the row of a batch with these counters
abbrev pub batch_by : ℕ × Batch → Bool → BatchTotals → StoredBatch
batch_by e closed totals = record {
  id = e.0;
  name = e.1.name;
  product = e.1.product;
  raw = e.1.raw;
  closed = closed;
  waiting = totals.waiting;
  running = totals.running;
  failed = totals.failed;
  withdrawn = totals.withdrawn;
  good = totals.good;
  sessions = totals.sessions;
  spoiled = totals.spoiled;
}

-- the row of a batch with its counters
abbrev pub stored_batch : Facts → ℕ × Batch → StoredBatch
stored_batch f e = batch_by e (is_closed f e.1.name) (batch_totals f e.1.name)

unfoldable pub stored_batches : Facts → List StoredBatch
stored_batches f = map (stored_batch f) (batches_by_id f)

-- the row of a record with its place, in the batch `e`
abbrev pub stored_record : Facts → ℕ × Batch → ℕ × List ℕ → StoredRecord
stored_record f e r = record {
  batch = e.0;
  place = r.0;
  name = r.1;
  state = record_state f e.1.name r.1;
  spoiled = count_by is_spoiled (states_of f e.1.name r.1);
  remakes = remakes_of f e.1.name r.1;
}

-- the records of a batch with their places 0, 1, ..
abbrev pub placed_records : Facts → ℕ × Batch → List (ℕ × List ℕ)
placed_records f e = enumerate_from 0 (records_of f.products e.1)

abbrev pub records_in : Facts → ℕ × Batch → List StoredRecord
records_in f e = map (stored_record f e) (placed_records f e)

unfoldable pub stored_records : Facts → List StoredRecord
stored_records f = flat_map (records_in f) (batches_by_id f)

-- the rows of `remake` for a record, with the turns 1, 2, ..
abbrev pub remakes_at : Facts → ℕ × Batch → ℕ × List ℕ → List StoredRemake
remakes_at f e r = map (λ turn. record { batch = e.0; place = r.0; turn = turn }) (range_with_len 1 (remakes_of f e.1.name r.1))

abbrev pub remakes_in : Facts → ℕ × Batch → List StoredRemake
remakes_in f e = flat_map (remakes_at f e) (placed_records f e)

unfoldable pub stored_remakes : Facts → List StoredRemake
stored_remakes f = flat_map (remakes_in f) (batches_by_id f)

-- the row of `grouping2` for a row of a batch file with its row number
abbrev pub stored_grouping : Facts → ℕ × Batch → ℕ × Row → StoredGrouping
stored_grouping f e = new_grouping e.0 (records_of f.products e.1)

-- the rows of `grouping2` for a batch. Row 1 of its file is the header
abbrev pub groupings_in : Facts → ℕ × Batch → List StoredGrouping
groupings_in f e = map (stored_grouping f e) (enumerate_from 2 (rows_of f.products e.1))

unfoldable pub stored_groupings : Facts → List StoredGrouping
stored_groupings f = flat_map (groupings_in f) (batches_by_id f)

-- ---- sessions and their status words

-- the row of a session. The cursor is at the command after the status words that let the session
-- continue
abbrev pub stored_session : Facts → ℕ × Session → StoredSession
stored_session f e = record {
  id = e.0;
  machine = e.1.machine;
  batch = batch_id f.batches e.1.batch;
  place = place_in (records_named f e.1.batch) e.1.rec;
  serial = e.1.blank;
  state = session_state f e.1;
  ended = e.1.ended;
  words = length e.1.words;
  cursor = session_cursor f e.1;
}

unfoldable pub stored_sessions : Facts → List StoredSession
stored_sessions f = map (stored_session f) (sessions_by_id f)

abbrev pub words_in : ℕ × Session → List StoredWord
words_in e = map (λ (w : ℕ × ℕ). record { session = e.0; place = w.0; sw = w.1 }) (enumerate_from 0 e.1.words)

unfoldable pub stored_words : Facts → List StoredWord
stored_words f = flat_map words_in (sessions_by_id f)

-- ---- all tables

-- the rows of all tables that represent the contents `c`
abbrev pub image : Contents → Tables
image c = record {
  products = c.facts.products;
  lots = stored_lots c.facts;
  batches = stored_batches c.facts;
  records = stored_records c.facts;
  groupings = stored_groupings c.facts;
  sessions = stored_sessions c.facts;
  words = stored_words c.facts;
  blanks = stored_blanks c.facts;
  remakes = stored_remakes c.facts;
  replies = c.kept;
  marks = c.marks;
}
