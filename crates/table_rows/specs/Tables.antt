-- The rows of the store's tables as one plain list for each table. The order of rows doesn't
-- matter.
use Rattle.std.specs.Prelude.{◌≡◌, ◌+◌, ◌==◌, ◌&&◌, ℕ, Bool, true, false, not, nat_le, if◌then◌else◌, List, [], ◌∷◌, map, filter, bytes_eq, All, AllPairs, IsPermutation}
use Rattle.store_data.specs.declared.cursor.Cursor.{Cursor}
use Rattle.store_data.specs.declared.row.Enc.{Enc}
use Rattle.store_data.specs.declared.row.Product.{Product}
use Rattle.job_facts.specs.declared.facts.Lot.{Lot}
use Rattle.job_facts.specs.declared.facts.RecordState.{RecordState}
use Rattle.job_facts.specs.declared.facts.SessionState.{SessionState}
use Rattle.job_facts.specs.declared.facts.SessionState.TheVariants as session
use Rattle.job_facts.specs.declared.rows.BatchTotals.{BatchTotals}
use Rattle.job_facts.specs.Contents.{Entry, Mark, has_mark}

-- a row of `lot`, with the number of discarded blanks
pub record StoredLot : Type 0 where
  pub lot : Lot
  pub discarded : ℕ

-- a row of `batch`, with the numbers of its records in each state, of its sessions, and of its
-- spoiled sessions
pub record StoredBatch : Type 0 where
  pub id : ℕ
  pub name : List ℕ
  pub product : List ℕ
  pub raw : List ℕ
  pub closed : Bool
  pub waiting : ℕ
  pub running : ℕ
  pub failed : ℕ
  pub withdrawn : ℕ
  pub good : ℕ
  pub sessions : ℕ
  pub spoiled : ℕ

-- the counters of a batch. Each record has one of the five states, so the number of records is
-- their sum.
abbrev pub totals_of : StoredBatch → BatchTotals
totals_of b = record {
  records = b.waiting + b.running + b.failed + b.withdrawn + b.good;
  waiting = b.waiting;
  running = b.running;
  failed = b.failed;
  withdrawn = b.withdrawn;
  good = b.good;
  sessions = b.sessions;
  spoiled = b.spoiled;
}

-- a row of `record`, with its state and the numbers of spoiled sessions and remakes
pub record StoredRecord : Type 0 where
  pub batch : ℕ
  pub place : ℕ
  pub name : List ℕ
  pub state : RecordState
  pub spoiled : ℕ
  pub remakes : ℕ

-- a row of `grouping2`: row `line` of the batch file, for the record at position `place`
pub record StoredGrouping : Type 0 where
  pub batch : ℕ
  pub line : ℕ
  pub place : ℕ
  pub aid : List ℕ
  pub rank : ℕ
  pub enc : Enc
  pub tol : Bool
  pub coded : List ℕ

-- a row of `session`, with its state, the number of status words, and the cursor of its card
pub record StoredSession : Type 0 where
  pub id : ℕ
  pub machine : List ℕ
  pub batch : ℕ
  pub place : ℕ
  pub serial : ℕ
  pub state : SessionState
  pub ended : Bool
  pub words : ℕ
  pub cursor : Cursor

-- a row of `word`
pub record StoredWord : Type 0 where
  pub session : ℕ
  pub place : ℕ
  pub sw : ℕ

-- a row of `blank`: a charged blank, opened or discarded
pub record StoredBlank : Type 0 where
  pub serial : ℕ
  pub lot : List ℕ
  pub discarded : Bool

-- a row of `remake`
pub record StoredRemake : Type 0 where
  pub batch : ℕ
  pub place : ℕ
  pub turn : ℕ

-- the rows of each table. The rows of `product`, `reply` and `mark` have the same columns as the
-- values in the contents of a store.
pub record Tables : Type 0 where
  pub products : List Product
  pub lots : List StoredLot
  pub batches : List StoredBatch
  pub records : List StoredRecord
  pub groupings : List StoredGrouping
  pub sessions : List StoredSession
  pub words : List StoredWord
  pub blanks : List StoredBlank
  pub remakes : List StoredRemake
  pub replies : List Entry
  pub marks : List Mark

-- Every batch with the id `id` has the counters `totals`.
abbrev pub HasTotals : ℕ → BatchTotals → Tables → Type 0
HasTotals id totals t = All (λ (b : StoredBatch). b.id ≡ id → totals_of b ≡ totals) t.batches

abbrev pub no_rows : Tables
no_rows = record {
  products = [];
  lots = [];
  batches = [];
  records = [];
  groupings = [];
  sessions = [];
  words = [];
  blanks = [];
  remakes = [];
  replies = [];
  marks = [];
}

-- Each table of `t` has the same rows as the table of `u`, in any order.
pub record HaveSameRows (t u : Tables) : Type 0 where
  pub products : IsPermutation t.products u.products
  pub lots : IsPermutation t.lots u.lots
  pub batches : IsPermutation t.batches u.batches
  pub records : IsPermutation t.records u.records
  pub groupings : IsPermutation t.groupings u.groupings
  pub sessions : IsPermutation t.sessions u.sessions
  pub words : IsPermutation t.words u.words
  pub blanks : IsPermutation t.blanks u.blanks
  pub remakes : IsPermutation t.remakes u.remakes
  pub replies : IsPermutation t.replies u.replies
  pub marks : IsPermutation t.marks u.marks

-- At most one element of the list passes the test.
abbrev pub PassesOnce : {X : Type 0} → (X → Bool) → List X → Type 0
PassesOnce passes xs = AllPairs (λ x y. passes x ≡ true → passes y ≡ false) xs

-- ---- an added row

abbrev pub with_product : Product → Tables → Tables
with_product p t = record t { products = p ∷ t.products }

abbrev pub with_lot : StoredLot → Tables → Tables
with_lot l t = record t { lots = l ∷ t.lots }

abbrev pub with_batch : StoredBatch → Tables → Tables
with_batch b t = record t { batches = b ∷ t.batches }

abbrev pub with_record : StoredRecord → Tables → Tables
with_record r t = record t { records = r ∷ t.records }

abbrev pub with_grouping : StoredGrouping → Tables → Tables
with_grouping g t = record t { groupings = g ∷ t.groupings }

abbrev pub with_session : StoredSession → Tables → Tables
with_session s t = record t { sessions = s ∷ t.sessions }

abbrev pub with_word : StoredWord → Tables → Tables
with_word w t = record t { words = w ∷ t.words }

abbrev pub with_blank : StoredBlank → Tables → Tables
with_blank b t = record t { blanks = b ∷ t.blanks }

abbrev pub with_remake : StoredRemake → Tables → Tables
with_remake r t = record t { remakes = r ∷ t.remakes }

abbrev pub with_reply : Entry → Tables → Tables
with_reply e t = record t { replies = e ∷ t.replies }

abbrev pub with_mark : Mark → Tables → Tables
with_mark m t = record t { marks = m ∷ t.marks }

-- ---- changed rows

-- the lot, with `discarded` discarded blanks if its name is `name`
abbrev pub lot_set : List ℕ → ℕ → StoredLot → StoredLot
lot_set name discarded l = if bytes_eq l.lot.name name then record l { discarded = discarded } else l

abbrev pub with_lot_set : List ℕ → ℕ → Tables → Tables
with_lot_set name discarded t = record t { lots = map (lot_set name discarded) t.lots }

-- the batch, with the counters `totals` if its id is `id`
abbrev pub totals_set : ℕ → BatchTotals → StoredBatch → StoredBatch
totals_set id totals b =
    if b.id == id then record b {
      waiting = totals.waiting;
      running = totals.running;
      failed = totals.failed;
      withdrawn = totals.withdrawn;
      good = totals.good;
      sessions = totals.sessions;
      spoiled = totals.spoiled;
    } else b

abbrev pub with_totals_set : ℕ → BatchTotals → Tables → Tables
with_totals_set id totals t = record t { batches = map (totals_set id totals) t.batches }

-- the batch, closed if its name is `name`
abbrev pub closed_set : List ℕ → StoredBatch → StoredBatch
closed_set name b = if bytes_eq b.name name then record b { closed = true } else b

abbrev pub with_closed_set : List ℕ → Tables → Tables
with_closed_set name t = record t { batches = map (closed_set name) t.batches }

-- the record, with the state `state` and the numbers `spoiled` and `remakes` if it is at position
-- `place` of the batch with id `batch`
abbrev pub record_set : ℕ → ℕ → RecordState → ℕ → ℕ → StoredRecord → StoredRecord
record_set batch place state spoiled remakes r =
    if (r.batch == batch) && (r.place == place) then record r { state = state; spoiled = spoiled; remakes = remakes } else r

abbrev pub with_record_set : ℕ → ℕ → RecordState → ℕ → ℕ → Tables → Tables
with_record_set batch place state spoiled remakes t = record t { records = map (record_set batch place state spoiled remakes) t.records }

-- the session, with the state `state`, `words` status words and the cursor `cursor` if its id is
-- `id`
abbrev pub session_set : ℕ → SessionState → ℕ → Cursor → StoredSession → StoredSession
session_set id state words cursor s = if s.id == id then record s { state = state; words = words; cursor = cursor } else s

abbrev pub with_session_set : ℕ → SessionState → ℕ → Cursor → Tables → Tables
with_session_set id state words cursor t = record t { sessions = map (session_set id state words cursor) t.sessions }

-- the session, ended and therefore spoiled if its id is `id`
abbrev pub end_set : ℕ → StoredSession → StoredSession
end_set id s = if s.id == id then record s { state = session.Spoiled; ended = true } else s

abbrev pub with_end_set : ℕ → Tables → Tables
with_end_set id t = record t { sessions = map (end_set id) t.sessions }

-- ---- removed rows

-- The reply is kept under a request number of `client` up to `upto`.
abbrev pub is_released : List ℕ → ℕ → Entry → Bool
is_released client upto e = bytes_eq e.client client && nat_le e.number upto

abbrev pub without_replies : List ℕ → ℕ → Tables → Tables
without_replies client upto t = record t { replies = filter (λ (e : Entry). not (is_released client upto e)) t.replies }

abbrev pub without_mark : List ℕ → Tables → Tables
without_mark client t = record t { marks = filter (λ (m : Mark). not (has_mark client m)) t.marks }
