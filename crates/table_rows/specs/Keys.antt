-- The keys by which rows are looked up.
use Rattle.std.specs.Prelude.{◌==◌, ◌&&◌, ℕ, Bool, List, bytes_eq}
use Rattle.job_facts.specs.Contents.{Entry}
use Rattle.job_facts.specs.States.{is_good, is_in, is_running, is_waiting, overlaps}
use Rattle.table_rows.specs.Tables.{StoredBatch, StoredBlank, StoredGrouping, StoredLot, StoredRecord, StoredSession}

-- ---- batches

-- The batch has the name `n`.
abbrev pub is_batch_named : List ℕ → StoredBatch → Bool
is_batch_named n b = bytes_eq b.name n

-- The batch has the id `id`.
abbrev pub is_batch : ℕ → StoredBatch → Bool
is_batch id b = b.id == id

-- The batch has the name `n` and the file bytes `raw`.
abbrev pub is_batch_with : List ℕ → List ℕ → StoredBatch → Bool
is_batch_with n raw b = bytes_eq b.name n && bytes_eq b.raw raw

-- The batch is for the product `product`.
abbrev pub is_batch_for : List ℕ → StoredBatch → Bool
is_batch_for product b = bytes_eq b.product product

-- ---- records

-- The record belongs to the batch with id `id`.
abbrev pub is_record_of : ℕ → StoredRecord → Bool
is_record_of id r = r.batch == id

-- The record belongs to the batch with id `id` and has the name `n`.
abbrev pub is_record_named : ℕ → List ℕ → StoredRecord → Bool
is_record_named id n r = (r.batch == id) && bytes_eq r.name n

-- The record belongs to the batch with id `id` and has the position `place`.
abbrev pub is_record_at : ℕ → ℕ → StoredRecord → Bool
is_record_at id place r = (r.batch == id) && (r.place == place)

-- The record belongs to the batch with id `id` and is waiting.
abbrev pub is_waiting_of : ℕ → StoredRecord → Bool
is_waiting_of id r = (r.batch == id) && is_waiting r.state

-- ---- groupings

-- The grouping belongs to the batch with id `id`.
abbrev pub is_grouping_of : ℕ → StoredGrouping → Bool
is_grouping_of id g = g.batch == id

-- The grouping belongs to the record at position `place` of the batch with id `id`.
abbrev pub is_grouping_at : ℕ → ℕ → StoredGrouping → Bool
is_grouping_at id place g = (g.batch == id) && (g.place == place)

-- ---- sessions

-- The session has the number `id`.
abbrev pub is_session : ℕ → StoredSession → Bool
is_session id s = s.id == id

-- The session runs on `machine`.
abbrev pub is_running_on : List ℕ → StoredSession → Bool
is_running_on machine s = bytes_eq s.machine machine && is_running s.state

-- The session is good and belongs to the batch with id `id`.
abbrev pub is_good_of : ℕ → StoredSession → Bool
is_good_of id s = (s.batch == id) && is_good s.state

-- ---- blanks and lots

-- The blank has the serial `serial`.
abbrev pub is_blank : ℕ → StoredBlank → Bool
is_blank serial b = b.serial == serial

-- The lot has the name `n`.
abbrev pub is_lot_named : List ℕ → StoredLot → Bool
is_lot_named n l = bytes_eq l.lot.name n

-- The serial `serial` is in the lot.
abbrev pub is_lot_around : ℕ → StoredLot → Bool
is_lot_around serial l = is_in serial l.lot

-- The lot shares a serial with the range of `count` serials from `first`.
abbrev pub is_lot_across : ℕ → ℕ → StoredLot → Bool
is_lot_across first count l = overlaps first count l.lot

-- The lot is for the product `product`.
abbrev pub is_lot_for : List ℕ → StoredLot → Bool
is_lot_for product l = bytes_eq l.lot.product product

-- ---- replies

-- The reply is kept under the request number `number` of `client`.
abbrev pub is_reply_to : List ℕ → ℕ → Entry → Bool
is_reply_to client number e = bytes_eq e.client client && (e.number == number)
