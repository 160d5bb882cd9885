-- The cache, and its agreement with the rows of a database.
use Rattle.std.specs.Prelude.{◌≡◌, ℕ, [], All, Contains, IfOk, IfSome, IsTrue, List, None, Option, Result, Some, filter, map}
use Rattle.sqlite.specs.Effect.{Database}
use Rattle.sqlite.specs.State.{HasCleanDisk, State}
use Rattle.sqlite.specs.declared.error.Error.{Error}
use Rattle.job_facts.specs.Contents.{AreSound, Contents}
use Rattle.job_facts.specs.Facts.{Facts}
use Rattle.job_facts.specs.Rows.{segment_row_of}
use Rattle.image_laws.specs.Image.{image}
use Rattle.row_reads.specs.declared.groupings.GroupingAt.{GroupingAt}
use Rattle.row_reads.specs.declared.records.RecordAt.{RecordAt}
use Rattle.row_reads.specs.CardDecoding.{grouping_at, line_of, record_at}
use Rattle.row_reads.specs.Extremes.{AreSorted}
use Rattle.table_rows.specs.Keys.{is_grouping_at}
use Rattle.table_rows.specs.Tables.{StoredRecord, Tables}
use Rattle.sql_rows.specs.Image.{IsImage}
use Rattle.store_reads.specs.declared.known.BatchCounters.{BatchCounters}
use Rattle.store_reads.specs.declared.known.Known.{Known}
use Rattle.store_reads.specs.declared.known.KnownRecord.{KnownRecord}
use Rattle.store_reads.specs.declared.known.StandingRecord.{StandingRecord}
use Rattle.store_reads.specs.declared.plans.SegmentHead.{SegmentHead}
use Rattle.store_reads.specs.Counted.{AreCountersIn}
use Rattle.store_reads.specs.Fixed.{AreNamedApart, Fixed, fixed}
use Rattle.store_reads.specs.Segments.{heads_of}

abbrev pub known_records : Known → List KnownRecord
known_records known = known.records.items

-- the record whose state is cached
abbrev pub standing_record : Known → Option StandingRecord
standing_record known = known.standing

abbrev pub known_counters : Known → List BatchCounters
known_counters known = known.counted.items

-- The cache has the state `card` of the record `n` of the batch with the id `id`.
abbrev pub IsStandingOf : Known → ℕ → List ℕ → RecordAt → Type 0
IsStandingOf known id n card = (standing_record known ≡ Some (record { batch = id; card = card })) × (card.name ≡ n)

-- `counters` are cached counters of the batch `b`, and a record of this batch is cached.
abbrev pub AreCountersOf : Known → List ℕ → BatchCounters → Type 0
AreCountersOf known b counters =
    Contains (known_counters known) counters × ((k : KnownRecord) × Contains (known_records known) k × (k.batch ≡ b) × (k.id ≡ counters.batch))

pub record KnowsNothing (known : Known) : Type 0 where
  pub records : known_records known ≡ []
  pub standing : standing_record known ≡ None
  pub counted : known_counters known ≡ []

-- `k` is the record `r` of the batch `b`.
abbrev pub IsNamed : List ℕ → List ℕ → KnownRecord → Type 0
IsNamed b r k = (k.batch ≡ b) × (k.rec ≡ r)

-- the segments of each application of `k`, without their bytes
abbrev pub known_heads : KnownRecord → List (List SegmentHead)
known_heads k = map (λ own. own.items) k.heads.items

-- `heads` are the segments of the record at position `place` of the batch with the id `id`,
-- computed from its groupings in the order of their row numbers.
abbrev pub AreHeadsAt : Fixed → ℕ → ℕ → List (List SegmentHead) → Type 0
AreHeadsAt x id place heads =
    (gs : List GroupingAt) × AreSorted line_of (map grouping_at (filter (is_grouping_at id place) x.groupings)) gs × (heads ≡ heads_of gs)

-- The batch, the product and the record of `k` exist in `x`, and the segments of `k` are the ones
-- of the record.
pub record IsKnownIn (x : Fixed) (k : KnownRecord) : Type 0 where
  pub batch : Contains x.batches (record { id = k.id; name = k.batch; product = k.product.code })
  pub product : Contains x.products k.product
  pub record_there : Contains x.records (record { batch = k.id; place = k.place; name = k.rec })
  pub heads : AreHeadsAt x k.id k.place (known_heads k)

-- All `records` agree with the rows `t`, if the names in `t` are unique.
abbrev pub AreKnownIn : Tables → List KnownRecord → Type 0
AreKnownIn t records = AreNamedApart (fixed t) → All (IsKnownIn (fixed t)) records

-- the state of the stored record `r`
abbrev pub standing_of : StoredRecord → StandingRecord
standing_of r = record { batch = r.batch; card = record_at r }

abbrev pub IsStandingIn : Tables → StandingRecord → Type 0
IsStandingIn t s = Contains (map standing_of t.records) s

-- The cached counters agree with the rows `t`. If the names in `t` are unique, the cached records
-- and the cached state also agree with them.
pub record IsAllKnownIn (t : Tables) (known : Known) : Type 0 where
  pub records : AreKnownIn t (known_records known)
  pub standing : AreNamedApart (fixed t) → IfSome (standing_record known) (IsStandingIn t)
  pub counted : All (AreCountersIn t) (known_counters known)

-- The database has rows that agree with all entries of the cache.
pub record HasKnown (db : Database) (known : Known) : Type 0 where
  pub rows : ∥ ((t : Tables) × IsImage t db × IsAllKnownIn t known) ∥₁

-- On a correct device, if the connection is open, its database agrees with all entries of the
-- cache.
abbrev pub Knows : State → Known → Type 0
Knows s known = HasCleanDisk s → IsTrue s.is_open → HasKnown s.now known

-- ---- results for cached records

-- On a correct device, if the call succeeds, `P` is true for the result and any sound contents that
-- include the record `k` and, if the connection was open, that its database represents. The call
-- may have read nothing, so the connection may have been closed.
abbrev pub ReadsKnown : {T : Type 0} → KnownRecord → State → State → Result T Error → (Contents → T → Type 0) → Type 0
ReadsKnown k old new result P =
    HasCleanDisk new → IfOk result (λ answer. (c : Contents) → AreSound c → (IsTrue old.is_open → IsImage (image c) old.now) → IsKnownIn (fixed (image c)) k → P c answer)

-- The record `r` of the batch `b` has no segments, because it doesn't exist.
abbrev pub HasNoSegment : Facts → List ℕ → List ℕ → Type 0
HasNoSegment f b r = (a q : ℕ) → None ≡ segment_row_of f b r a q
