-- Lemmas: cached counters of a batch are valid after a write that doesn't change them, and can be
-- found by the name of the batch.
use Rattle.std.proofs.Common.{◌≡◌, ◌==◌, ◌∙◌, ◌⊎◌, ◌+◌, ℕ, true, not, List, All, Contains, Option, None, Some, filter, option_map, IfSome, refl, sym, subst, inl, inr, arith}
use Rattle.std.specs.Prelude.{bytes_eq, find}
use Rattle.std.proofs.lemmas.Bool.{cases_Bool}
use Rattle.std.proofs.lemmas.Bool.Decides.{nat_tests}
use Rattle.std.proofs.lemmas.List.Elements.{All-contains, All-contains_itself, All-filter, All-map, All-weaker, filter_passes}
use Rattle.job_facts.specs.declared.facts.RecordState.{RecordState}
use Rattle.job_facts.specs.declared.facts.RecordState.TheVariants as rec
use Rattle.job_facts.specs.declared.facts.SessionState.{SessionState}
use Rattle.job_facts.specs.declared.facts.SessionState.TheVariants as session
use Rattle.job_facts.specs.declared.rows.BatchTotals.{BatchTotals}
use Rattle.job_facts.specs.Contents.{Entry}
use Rattle.table_rows.specs.After.{less, more, one_opened, one_spoiled, record_after, rows_written, stopped, word_rows_after}
use Rattle.table_rows.specs.Keys.{is_batch_named}
use Rattle.table_rows.specs.Tables.{StoredBatch, Tables, closed_set, totals_of, totals_set}
use Rattle.table_rows.specs.declared.writing.RecordPlace.{RecordPlace}
use Rattle.table_rows.specs.declared.writing.Writing.{Writing}
use Rattle.table_rows.specs.declared.writing.Writing.TheVariants as writing
use Rattle.store_reads.specs.declared.known.BatchCounters.{BatchCounters}
use Rattle.store_reads.specs.declared.known.Known.{Known}
use Rattle.store_reads.specs.declared.known.KnownRecord.{KnownRecord}
use Rattle.store_reads.specs.Counted.{AreCountersIn, leaves_counters}
use Rattle.store_reads.specs.Fixed.{AreNamedApart, fixed}
use Rattle.store_reads.specs.Heads.{counters_of}
use Rattle.store_reads.specs.Known.{AreCountersOf, IsAllKnownIn, IsKnownIn, IsStandingIn, known_counters, known_records, standing_record}
use Rattle.store_reads.proofs.Found.{found_some}
use Rattle.store_reads.proofs.KnownRows.{found_there, id_with_name}

-- ---- after a write

abbrev HasThese : BatchCounters → StoredBatch → Type 0
HasThese counters b = b.id ≡ counters.batch → totals_of b ≡ counters.totals

closed_has : (counters : BatchCounters) (name : List ℕ) (b : StoredBatch) → HasThese counters b → HasThese counters (closed_set name b)
closed_has counters name b has = elim (cases_Bool (bytes_eq b.name name)) [ inl hit ↦ rw hit has | inr miss ↦ rw miss has ]

-- the counters of another batch
totals_has : (counters : BatchCounters) (id : ℕ) (totals : BatchTotals) → not (id == counters.batch) ≡ true → (b : StoredBatch) → HasThese counters b → HasThese counters (totals_set id totals b)
totals_has counters id totals other b has = elim (cases_Bool (b.id == id)) [
  | inl hit ↦ rw hit (λ same. absurd (grind (arith, nat_tests, hit, same, other)))
  | inr miss ↦ rw miss has
]

after : (counters : BatchCounters) (p : RecordPlace) (state : RecordState) (spoiled remakes : ℕ) (totals : BatchTotals) (t : Tables) → not (p.batch == counters.batch) ≡ true → AreCountersIn t counters
    → AreCountersIn (record_after p state spoiled remakes totals t) counters
after counters p state spoiled remakes totals t other has =
    All-map (HasThese counters) (totals_set p.batch totals) t.batches
    (All-weaker (HasThese counters) (λ b. HasThese counters (totals_set p.batch totals b)) (totals_has counters p.batch totals other) t.batches has)

stops : (counters : BatchCounters) (p : RecordPlace) (stands : SessionState) (t : Tables) → not (p.batch == counters.batch) ≡ true → AreCountersIn t counters → AreCountersIn (stopped p stands t) counters
stops counters p session.Running t other has = has
stops counters p session.Good t other has = after counters p rec.Good p.spoiled p.remakes (more rec.Good (less rec.Running p.totals)) t other has
stops counters p session.Spoiled t other has = after counters p rec.Failed (p.spoiled + 1) p.remakes (one_spoiled (more rec.Failed (less rec.Running p.totals))) t other has

counters_after : (w : Writing) (entry : Entry) (t : Tables) (counters : BatchCounters) → leaves_counters w counters.batch ≡ true → AreCountersIn t counters → AreCountersIn (rows_written w entry t) counters
counters_after writing.Nothing entry t counters leaves has = has
counters_after (writing.AddsProduct p) entry t counters leaves has = has
counters_after (writing.AddsLot l) entry t counters leaves has = has
counters_after (writing.AddsBatch b) entry t counters leaves has = absurd (cc)
counters_after (writing.Opens s p) entry t counters leaves has = after counters p rec.Running p.spoiled p.remakes (one_opened (more rec.Running (less rec.Waiting p.totals))) t leaves has
counters_after (writing.AddsWord w) entry t counters leaves has = has
counters_after (writing.AddsLastWord w stands p) entry t counters leaves has = stops counters p stands (word_rows_after w stands t) leaves has
counters_after (writing.Ends s p) entry t counters leaves has = stops counters p session.Spoiled t leaves has
counters_after (writing.Discards blank lot discarded) entry t counters leaves has = has
counters_after (writing.Remakes p) entry t counters leaves has = after counters p rec.Waiting p.spoiled (p.remakes + 1) (more rec.Waiting (less rec.Failed p.totals)) t leaves has
counters_after (writing.Withdraws was p) entry t counters leaves has = after counters p rec.Withdrawn p.spoiled p.remakes (more rec.Withdrawn (less was p.totals)) t leaves has
counters_after (writing.Closes b) entry t counters leaves has =
    All-map (HasThese counters) (closed_set b) t.batches (All-weaker (HasThese counters) (λ x. HasThese counters (closed_set b x)) (closed_has counters b) t.batches has)
counters_after (writing.Releases client upto) entry t counters leaves has = has

-- the remaining counters
pub left_after : (w : Writing) (entry : Entry) (t : Tables) (xs : List BatchCounters) → All (AreCountersIn t) xs → All (AreCountersIn (rows_written w entry t)) (filter (λ s. leaves_counters w s.batch) xs)
left_after w entry t xs has = λ k d low.
    counters_after w entry t _ (filter_passes (λ s. leaves_counters w s.batch) xs k d low) (All-filter (λ s. leaves_counters w s.batch) (AreCountersIn t) xs has k d low)

-- ---- adding counters

pub known_with_counters : (t : Tables) (old new : Known) (counters : BatchCounters) → IsAllKnownIn t old → AreCountersIn t counters → known_records new ≡ known_records old → standing_record new ≡ standing_record old
    → ((s : BatchCounters) → Contains (known_counters new) s → (s ≡ counters) ⊎ Contains (known_counters old) s) → IsAllKnownIn t new
known_with_counters t old new counters all has records standing each = record {
  records = λ apart. subst (All (IsKnownIn (fixed t))) (sym records) (all.records apart);
  standing = λ apart. subst (λ o. IfSome o (IsStandingIn t)) (sym standing) (all.standing apart);
  counted = All-weaker (Contains (known_counters new)) (AreCountersIn t)
      (λ s there. elim (each s there) [
        | inl same ↦ subst (AreCountersIn t) (sym same) has
        | inr before ↦ All-contains (AreCountersIn t) (known_counters old) s all.counted before
      ])
      (known_counters new) (All-contains_itself (known_counters new));
}

-- ---- counters by the name of a batch with a cached record

pub counters_of_known : (known : Known) (b : List ℕ) (k : KnownRecord) → Contains (known_records known) k → k.batch ≡ b
    → (o : Option BatchCounters) → IfSome o (λ counters. Contains (known_counters known) counters) → IfSome o (λ counters. counters.batch ≡ k.id) → IfSome o (AreCountersOf known b)
counters_of_known known b k there named None one two = tt
counters_of_known known b k there named (Some counters) one two = (one, (k, there, named, sym two))

pub counters_told : (t : Tables) (known : Known) → AreNamedApart (fixed t) → IsAllKnownIn t known → (b : List ℕ) (counters : BatchCounters) → AreCountersOf known b counters
    → Some counters ≡ option_map counters_of (find (is_batch_named b) t.batches)
counters_told t known apart all b counters is =
    let k = is.1.0 in
    let it : IsKnownIn (fixed t) k = All-contains (IsKnownIn (fixed t)) (known_records known) k (all.records apart) is.1.1 in
    let row = found_some (λ (x : StoredBatch). x.id) (find (is_batch_named b) t.batches) k.id
    (subst (λ n. Some k.id ≡ option_map (λ (x : StoredBatch). x.id) (find (is_batch_named n) t.batches)) is.1.2 (id_with_name t k it apart)) in
    let id : row.0.id ≡ counters.batch = sym row.2 ∙ is.1.3 in
    let has : AreCountersIn t counters = All-contains (AreCountersIn t) (known_counters known) counters all.counted is.0 in
    let totals : totals_of row.0 ≡ counters.totals = All-contains (HasThese counters) t.batches row.0 has (found_there (is_batch_named b) t.batches row.0 row.1) id in
    rw (row.1, id, totals) refl
