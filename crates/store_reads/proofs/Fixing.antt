-- Lemmas: a `Writing` doesn't modify the fixed part of the rows unless it adds a product or a
-- batch.
use Rattle.std.proofs.Common.{◌≡◌, ◌==◌, ◌&&◌, ℕ, true, List, map, inl, inr, refl, ap, ◌∙◌, ◌+◌}
use Rattle.std.specs.Prelude.{bytes_eq}
use Rattle.std.proofs.lemmas.Bool.{cases_Bool}
use Rattle.job_facts.specs.declared.facts.RecordState.{RecordState}
use Rattle.job_facts.specs.declared.facts.RecordState.TheVariants as rec
use Rattle.job_facts.specs.declared.facts.SessionState.{SessionState}
use Rattle.job_facts.specs.declared.facts.SessionState.TheVariants as session
use Rattle.job_facts.specs.declared.rows.BatchTotals.{BatchTotals}
use Rattle.job_facts.specs.Contents.{Entry}
use Rattle.sql_base.proofs.Selecting.{map_map, map_same}
use Rattle.table_rows.specs.After.{less, more, one_opened, one_spoiled, record_after, rows_written, stopped, word_rows_after}
use Rattle.table_rows.specs.Tables.{StoredBatch, StoredRecord, Tables, closed_set, record_set, totals_set, with_closed_set}
use Rattle.table_rows.specs.declared.writing.RecordPlace.{RecordPlace}
use Rattle.table_rows.specs.declared.writing.Writing.{Writing}
use Rattle.table_rows.specs.declared.writing.Writing.TheVariants as writing
use Rattle.store_reads.specs.Fixed.{Fixed, FixedBatch, fixed, fixed_batch, fixed_record, leaves_fixed}

set_each : {X Y : Type 0} (part : X → Y) (change : X → X) → ((x : X) → part (change x) ≡ part x) → (xs : List X) → map part (map change xs) ≡ map part xs
set_each part change same xs = map_map part change xs ∙ map_same (λ x. part (change x)) part same xs

totals_fixed : (id : ℕ) (totals : BatchTotals) (b : StoredBatch) → fixed_batch (totals_set id totals b) ≡ fixed_batch b
totals_fixed id totals b = elim (cases_Bool (b.id == id)) [ inl hit ↦ rw hit refl | inr miss ↦ rw miss refl ]

closed_fixed : (name : List ℕ) (b : StoredBatch) → fixed_batch (closed_set name b) ≡ fixed_batch b
closed_fixed name b = elim (cases_Bool (bytes_eq b.name name)) [ inl hit ↦ rw hit refl | inr miss ↦ rw miss refl ]

record_fixed : (batch place : ℕ) (state : RecordState) (spoiled remakes : ℕ) (r : StoredRecord) → fixed_record (record_set batch place state spoiled remakes r) ≡ fixed_record r
record_fixed batch place state spoiled remakes r = elim (cases_Bool ((r.batch == batch) && (r.place == place))) [ inl hit ↦ rw hit refl | inr miss ↦ rw miss refl ]

module _ (t : Tables) where
  abbrev with_batches : List FixedBatch → Fixed
  with_batches batches = record { products = t.products; batches = batches; records = map fixed_record t.records; groupings = t.groupings }

  closed : (name : List ℕ) → fixed (with_closed_set name t) ≡ fixed t
  closed name = ap with_batches (set_each fixed_batch (closed_set name) (closed_fixed name) t.batches)

  after : (p : RecordPlace) (state : RecordState) (spoiled remakes : ℕ) (totals : BatchTotals) → fixed (record_after p state spoiled remakes totals t) ≡ fixed t
  after p state spoiled remakes totals =
      ap (λ batches. let x : Fixed = record { products = t.products; batches = batches; records = map fixed_record (map (record_set p.batch p.place state spoiled remakes) t.records); groupings = t.groupings } in x)
      (set_each fixed_batch (totals_set p.batch totals) (totals_fixed p.batch totals) t.batches)
      ∙ ap (λ records. let x : Fixed = record { products = t.products; batches = map fixed_batch t.batches; records = records; groupings = t.groupings } in x)
      (set_each fixed_record (record_set p.batch p.place state spoiled remakes) (record_fixed p.batch p.place state spoiled remakes) t.records)

  stops : (p : RecordPlace) (stands : SessionState) → fixed (stopped p stands t) ≡ fixed t
  stops p session.Running = refl
  stops p session.Good = after p rec.Good p.spoiled p.remakes (more rec.Good (less rec.Running p.totals))
  stops p session.Spoiled = after p rec.Failed (p.spoiled + 1) p.remakes (one_spoiled (more rec.Failed (less rec.Running p.totals)))

pub written_fixed : (w : Writing) (entry : Entry) (t : Tables) → leaves_fixed w ≡ true → fixed (rows_written w entry t) ≡ fixed t
written_fixed writing.Nothing entry t leaves = refl
written_fixed (writing.AddsProduct p) entry t leaves = absurd (cc)
written_fixed (writing.AddsLot l) entry t leaves = refl
written_fixed (writing.AddsBatch b) entry t leaves = absurd (cc)
written_fixed (writing.Opens s p) entry t leaves = after t p rec.Running p.spoiled p.remakes (one_opened (more rec.Running (less rec.Waiting p.totals)))
written_fixed (writing.AddsWord w) entry t leaves = refl
written_fixed (writing.AddsLastWord w stands p) entry t leaves = stops (word_rows_after w stands t) p stands
written_fixed (writing.Ends s p) entry t leaves = stops t p session.Spoiled
written_fixed (writing.Discards blank lot discarded) entry t leaves = refl
written_fixed (writing.Remakes p) entry t leaves = after t p rec.Waiting p.spoiled (p.remakes + 1) (more rec.Waiting (less rec.Failed p.totals))
written_fixed (writing.Withdraws was p) entry t leaves = after t p rec.Withdrawn p.spoiled p.remakes (more rec.Withdrawn (less was p.totals))
written_fixed (writing.Closes b) entry t leaves = closed t b
written_fixed (writing.Releases client upto) entry t leaves = refl
