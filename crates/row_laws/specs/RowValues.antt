-- Values that are read from rows: the counters of a batch, the place and the plan of a record, a
-- session with the names of its batch and record, and the accounts.
use Rattle.std.specs.Prelude.{◌+◌, ◌==◌, ◌&&◌, ℕ, Bool, true, false, List, [], length, map, filter, find, sum_by, bytes_eq, Option, Some, None, option_and_then, option_map}
use Rattle.store_data.specs.declared.row.Product.{Product}
use Rattle.store_data.specs.declared.row.Row.{Row}
use Rattle.store_data.specs.Sequence.{Plan, plan_of}
use Rattle.job_facts.specs.declared.facts.RecordState.{RecordState}
use Rattle.job_facts.specs.declared.facts.RecordState.TheVariants as rec
use Rattle.job_facts.specs.declared.rows.BatchRow.{BatchRow}
use Rattle.job_facts.specs.declared.rows.BatchSize.{BatchSize}
use Rattle.job_facts.specs.declared.rows.BatchTotals.{BatchTotals}
use Rattle.job_facts.specs.declared.rows.BlankTotals.{BlankTotals}
use Rattle.job_facts.specs.declared.rows.RecordLine.{RecordLine}
use Rattle.job_facts.specs.declared.rows.SessionRow.{SessionRow}
use Rattle.job_facts.specs.States.{product_named}
use Rattle.table_rows.specs.declared.writing.RecordPlace.{RecordPlace}
use Rattle.table_rows.specs.Keys.{is_batch, is_batch_named, is_good_of, is_grouping_at, is_grouping_of, is_record_at, is_record_named, is_record_of, is_session, is_waiting_of}
use Rattle.table_rows.specs.Tables.{StoredBatch, StoredGrouping, StoredLot, StoredRecord, StoredSession, totals_of}

-- ---- counters of a batch

-- counters that are all 0
abbrev pub no_totals : BatchTotals
no_totals = record {
  records = 0;
  waiting = 0;
  running = 0;
  failed = 0;
  withdrawn = 0;
  good = 0;
  sessions = 0;
  spoiled = 0;
}

-- the counters in the row of a batch, which are all 0 if the batch doesn't exist
abbrev pub totals_in : Option StoredBatch → BatchTotals
totals_in None = no_totals
totals_in (Some b) = totals_of b

-- By its counters, batch `b` has no waiting, running or failed record.
abbrev pub is_over : StoredBatch → Bool
is_over b = (b.waiting == 0) && ((b.running == 0) && (b.failed == 0))

-- The batch has no waiting, running or failed record. This includes a batch that doesn't exist.
abbrev pub is_over_in : Option StoredBatch → Bool
is_over_in None = true
is_over_in (Some b) = is_over b

-- ---- a record and a session

-- the row of record `r` of batch `b`, if both exist
abbrev pub record_row : List StoredBatch → List StoredRecord → List ℕ → List ℕ → Option StoredRecord
record_row batches records b r = option_and_then (λ (row : StoredBatch). find (is_record_named row.id r) records) (find (is_batch_named b) batches)

-- the place of a record, from the rows of its batch and of the record
abbrev pub place_of : StoredBatch → StoredRecord → RecordPlace
place_of b r = record { batch = b.id; place = r.place; spoiled = r.spoiled; remakes = r.remakes; totals = totals_of b }

-- a session, from the rows of the session, its batch and its record
abbrev pub session_of : StoredSession → StoredBatch → StoredRecord → SessionRow
session_of s b r = record {
  machine = s.machine;
  batch = b.name;
  rec = r.name;
  stands = s.state;
  words = s.words;
  cursor = s.cursor;
}

-- the session with the number `s`, if it exists
abbrev pub session_in : List StoredSession → List StoredBatch → List StoredRecord → ℕ → Option SessionRow
session_in sessions batches records s =
    option_and_then (λ (x : StoredSession). option_and_then (λ (b : StoredBatch). option_map (session_of x b) (find (is_record_at x.batch x.place) records)) (find (is_batch x.batch) batches))
    (find (is_session s) sessions)

-- ---- a batch

-- the name of the first waiting record of batch `b`, if there is one
abbrev pub waiting_in : List StoredBatch → List StoredRecord → List ℕ → Option (List ℕ)
waiting_in batches records b =
    option_and_then (λ (row : StoredBatch). option_map (λ (r : StoredRecord). r.name) (find (is_waiting_of row.id) records)) (find (is_batch_named b) batches)

-- the product of batch `b`, and whether it is closed
abbrev pub batch_of_row : StoredBatch → BatchRow
batch_of_row b = record { product = b.product; is_closed = b.closed }

-- the numbers of rows and records of batch `b`. A row of its file is a row of `grouping2`
abbrev pub size_of : List StoredGrouping → StoredBatch → BatchSize
size_of groupings b = record { rows = length (filter (is_grouping_of b.id) groupings); records = (totals_of b).records }

-- The batch exists and has the bytes `raw`.
abbrev pub has_raw_in : List ℕ → Option StoredBatch → Bool
has_raw_in raw None = false
has_raw_in raw (Some b) = bytes_eq b.raw raw

-- ---- the rows of a record, and its plan

-- the row of the batch file for `g`, a grouping of the record `r`
abbrev pub row_of : List ℕ → StoredGrouping → Row
row_of r g = record { rec = r; aid = g.aid; rank = g.rank; enc = g.enc; tol = g.tol; coded = g.coded }

-- the groupings of a record, or an empty list if the record doesn't exist
abbrev pub groupings_for : List StoredGrouping → Option StoredRecord → List StoredGrouping
groupings_for groupings None = []
groupings_for groupings (Some x) = filter (is_grouping_at x.batch x.place) groupings

-- the plan of record `r` of batch `b`, from its groupings and the product of its batch
abbrev pub plan_in : List Product → List StoredBatch → List StoredRecord → List StoredGrouping → List ℕ → List ℕ → Option Plan
plan_in products batches records groupings b r =
    option_and_then (λ (row : StoredBatch).
    option_map (λ (p : Product). plan_of p (map (row_of r) (groupings_for groupings (find (is_record_named row.id r) records)))) (product_named products row.product))
    (find (is_batch_named b) batches)

-- ---- accounts

-- the number of sessions that aren't spoiled, for a record with this state
abbrev pub cards : RecordState → ℕ
cards rec.Running = 1
cards rec.Good = 1
cards _ = 0

-- the line of record `x`. `good` are the good sessions of its batch
abbrev pub line_of : List StoredSession → StoredRecord → RecordLine
line_of good x = record {
  rec = x.name;
  stands = x.state;
  sessions = x.spoiled + cards x.state;
  blank = option_map (λ (s : StoredSession). s.serial) (find (λ (s : StoredSession). s.place == x.place) good);
}

-- the lines of the records of a batch, or an empty list if the batch doesn't exist
abbrev pub lines_at : List StoredRecord → List StoredSession → Option StoredBatch → List RecordLine
lines_at records sessions None = []
lines_at records sessions (Some b) = map (line_of (filter (is_good_of b.id) sessions)) (filter (is_record_of b.id) records)

-- the lines of the records of batch `b`, in the order of their rows
abbrev pub lines_in : List StoredBatch → List StoredRecord → List StoredSession → List ℕ → List RecordLine
lines_in batches records sessions b = lines_at records sessions (find (is_batch_named b) batches)

-- the counters of the blanks of a product, from the rows of its lots and batches
abbrev pub blanks_of : List StoredLot → List StoredBatch → BlankTotals
blanks_of lots batches = record {
  lots = length lots;
  total = sum_by (λ (l : StoredLot). l.lot.count) lots;
  good = sum_by (λ (b : StoredBatch). b.good) batches;
  running = sum_by (λ (b : StoredBatch). b.running) batches;
  spoiled = sum_by (λ (b : StoredBatch). b.spoiled) batches;
  discarded = sum_by (λ (l : StoredLot). l.discarded) lots;
}
