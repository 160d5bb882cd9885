-- The contents that rows determine, computed with look-ups of ids and places. They are defined for
-- any rows, even if no sound contents have these rows.
use Rattle.std.specs.Prelude.{◌==◌, ◌&&◌, ℕ, List, [], map, filter, find, filter_map, length, Option, option_map, unwrap_or}
use Rattle.std.specs.List.{range_with_len}
use Rattle.job_facts.specs.declared.facts.RecordState.TheVariants as rec
use Rattle.job_facts.specs.Contents.{Contents}
use Rattle.job_facts.specs.Facts.{Batch, Facts, RecordName, Session}
use Rattle.job_facts.specs.States.{same_record_state}
use Rattle.table_rows.specs.Tables.{StoredBatch, StoredBlank, StoredLot, StoredRecord, StoredRemake, StoredSession, StoredWord, Tables}

-- the elements that `look` finds for the numbers `first` to `first + count - 1`
abbrev pub found_from : {X : Type 0} → (ℕ → Option X) → ℕ → ℕ → List X
found_from look first count = filter_map look (range_with_len first count)

-- ---- names instead of numbers

-- the name of the batch with this id, or an empty name if it doesn't exist
abbrev pub batch_name : Tables → ℕ → List ℕ
batch_name t id = unwrap_or (option_map (λ (b : StoredBatch). b.name) (find (λ (b : StoredBatch). b.id == id) t.batches)) []

-- the name of the record at `place` of the batch with this id, or an empty name if it doesn't exist
abbrev pub record_name : Tables → ℕ → ℕ → List ℕ
record_name t id place =
    unwrap_or (option_map (λ (r : StoredRecord). r.name) (find (λ (r : StoredRecord). (r.batch == id) && (r.place == place)) t.records)) []

-- ---- lists, in the order of their ids, which start at 1

abbrev pub batch_of_row : StoredBatch → Batch
batch_of_row b = record { name = b.name; product = b.product; raw = b.raw }

-- the batch with this id, if it exists
abbrev pub batch_with : Tables → ℕ → Option Batch
batch_with t id = option_map batch_of_row (find (λ (b : StoredBatch). b.id == id) t.batches)

-- the status word at `place` of the session with this id, if it exists
abbrev pub word_with : Tables → ℕ → ℕ → Option ℕ
word_with t id place = option_map (λ (w : StoredWord). w.sw) (find (λ (w : StoredWord). (w.session == id) && (w.place == place)) t.words)

-- the session of row `s`, with its status words in the order of their places, from 0
abbrev pub session_of_row : Tables → StoredSession → Session
session_of_row t s = record {
  machine = s.machine;
  batch = batch_name t s.batch;
  rec = record_name t s.batch s.place;
  blank = s.serial;
  words = found_from (word_with t s.id) 0 s.words;
  ended = s.ended;
}

-- the session with this id, if it exists
abbrev pub session_with : Tables → ℕ → Option Session
session_with t id = option_map (session_of_row t) (find (λ (s : StoredSession). s.id == id) t.sessions)

-- ---- sets, in the order of their rows

abbrev pub discarded_rows : List StoredBlank → List StoredBlank
discarded_rows blanks = filter (λ (b : StoredBlank). b.discarded) blanks

abbrev pub withdrawn_rows : List StoredRecord → List StoredRecord
withdrawn_rows records = filter (λ (r : StoredRecord). same_record_state rec.Withdrawn r.state) records

abbrev pub closed_rows : List StoredBatch → List StoredBatch
closed_rows batches = filter (λ (b : StoredBatch). b.closed) batches

-- the remade record of a row of `remake`
abbrev pub remade_of_row : Tables → StoredRemake → RecordName
remade_of_row t r = record { batch = batch_name t r.batch; rec = record_name t r.batch r.place }

abbrev pub withdrawn_of_row : Tables → StoredRecord → RecordName
withdrawn_of_row t r = record { batch = batch_name t r.batch; rec = r.name }

-- ---- the contents

abbrev pub facts_of : Tables → Facts
facts_of t = record {
  products = t.products;
  lots = map (λ (l : StoredLot). l.lot) t.lots;
  batches = found_from (batch_with t) 1 (length t.batches);
  sessions = found_from (session_with t) 1 (length t.sessions);
  discarded = map (λ (b : StoredBlank). b.serial) (discarded_rows t.blanks);
  remakes = map (remade_of_row t) t.remakes;
  withdrawn = map (withdrawn_of_row t) (withdrawn_rows t.records);
  closed = map (λ (b : StoredBatch). b.name) (closed_rows t.batches);
}

-- the contents that the rows of `t` determine
abbrev pub contents_of : Tables → Contents
contents_of t = record { facts = facts_of t; kept = t.replies; marks = t.marks }
