-- The counters of a batch in the rows after a write.
use Rattle.std.proofs.Common.{◌≡◌, ◌==◌, ℕ, refl, sym, subst, inl, inr, arith}
use Rattle.std.proofs.lemmas.Bool.{cases_Bool}
use Rattle.std.proofs.lemmas.Bool.Decides.{nat_tests}
use Rattle.std.proofs.lemmas.List.Elements.{All-map}
use Rattle.job_facts.specs.declared.facts.RecordState.{RecordState}
use Rattle.job_facts.specs.declared.rows.BatchTotals.{BatchTotals}
use Rattle.table_rows.specs.After.{record_after}
use Rattle.table_rows.specs.Tables.{HasTotals, StoredBatch, Tables, totals_of, totals_set}
use Rattle.table_rows.specs.declared.writing.RecordPlace.{RecordPlace}
use Rattle.change_writes.specs.Counters.{summed}

module _ (id : ℕ) (totals : BatchTotals) where
  abbrev HasThese : StoredBatch → Type 0
  HasThese b = b.id ≡ id → totals_of b ≡ summed totals

  set_has : (b : StoredBatch) → HasThese (totals_set id totals b)
  set_has b = elim (cases_Bool (b.id == id)) [
    | inl hit ↦ rw hit (λ same. refl)
    | inr miss ↦ rw miss (λ same. absurd (grind (arith, nat_tests, miss, same)))
  ]

-- the counters that are written with the state and the counts of a record
pub after_has : (p : RecordPlace) (state : RecordState) (spoiled remakes : ℕ) (totals : BatchTotals) (t : Tables) → HasTotals p.batch (summed totals) (record_after p state spoiled remakes totals t)
after_has p state spoiled remakes totals t = All-map (HasThese p.batch totals) (totals_set p.batch totals) t.batches (λ k d low. set_has p.batch totals _)

-- the same counters, given by another term
pub given_has : (p : RecordPlace) (state : RecordState) (spoiled remakes : ℕ) (totals given : BatchTotals) → given ≡ totals → (t : Tables)
    → HasTotals p.batch (summed given) (record_after p state spoiled remakes totals t)
given_has p state spoiled remakes totals given same t = subst (λ n. HasTotals p.batch (summed n) (record_after p state spoiled remakes totals t)) (sym same) (after_has p state spoiled remakes totals t)
