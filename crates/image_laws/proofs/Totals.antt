-- The counters of a batch after one of its records or sessions changes.
use Rattle.std.proofs.Common.{◌≡◌, ℕ, ◌+◌, ◌-◌, Bool, true, false, cond, List, ◌∷◌, ◌++◌, length, refl, sym, ap, ◌∙◌, arith}
use Rattle.std.specs.Prelude.{count_by}
use Rattle.std.proofs.lemmas.List.{length-append}
use Rattle.std.proofs.lemmas.List.Sums.{sum_by-append}
use Rattle.job_facts.specs.declared.facts.RecordState.{RecordState}
use Rattle.job_facts.specs.declared.facts.RecordState.TheVariants as rec
use Rattle.job_facts.specs.declared.facts.SessionState.{SessionState}
use Rattle.job_facts.specs.declared.facts.SessionState.TheVariants as session
use Rattle.job_facts.specs.declared.rows.BatchTotals.{BatchTotals}
use Rattle.job_facts.specs.Accounts.{count_records, totals_by}
use Rattle.job_facts.specs.States.{is_spoiled, same_record_state}
use Rattle.job_facts.proofs.Lists.{count_by-at}
use Rattle.table_rows.specs.After.{less, more, one_opened, one_spoiled}

-- ---- one element in a list

module _ {X : Type 0} (before after : List X) (x : X) where
  more_by_one : length (before ++ x ∷ after) ≡ length (before ++ after) + 1
  more_by_one = let then = length-append before after in let now = length-append before (x ∷ after) in omega arith

  module _ (p : X → Bool) where
    without : count_by p (before ++ after) ≡ count_by p before + count_by p after
    without = sum_by-append (λ y. cond (p y) 1 0) before after

    counted : p x ≡ true → count_by p (before ++ x ∷ after) ≡ count_by p (before ++ after) + 1
    counted hit =
        let one : cond {A = ℕ} (p x) 1 0 ≡ 1 = ap (λ t. cond {A = ℕ} t 1 0) hit in
        omega (arith, count_by-at p before after x, without, one)

    uncounted : p x ≡ false → count_by p (before ++ x ∷ after) ≡ count_by p (before ++ after)
    uncounted miss =
        let none : cond {A = ℕ} (p x) 1 0 ≡ 0 = ap (λ t. cond {A = ℕ} t 1 0) miss in
        omega (arith, count_by-at p before after x, without, none)

-- ---- records

-- Counters with the same values are equal.
alike : (m n : BatchTotals) → m.records ≡ n.records → m.waiting ≡ n.waiting → m.running ≡ n.running → m.failed ≡ n.failed → m.withdrawn ≡ n.withdrawn
    → m.good ≡ n.good → m.sessions ≡ n.sessions → m.spoiled ≡ n.spoiled → m ≡ n
alike m n records waiting running failed withdrawn good sessions spoiled =
    ap (λ k. record m { records = k }) records
    ∙ ap (λ k. record m { records = n.records; waiting = k }) waiting
    ∙ ap (λ k. record n { running = k; failed = m.failed; withdrawn = m.withdrawn; good = m.good; sessions = m.sessions; spoiled = m.spoiled }) running
    ∙ ap (λ k. record n { failed = k; withdrawn = m.withdrawn; good = m.good; sessions = m.sessions; spoiled = m.spoiled }) failed
    ∙ ap (λ k. record n { withdrawn = k; good = m.good; sessions = m.sessions; spoiled = m.spoiled }) withdrawn
    ∙ ap (λ k. record n { good = k; sessions = m.sessions; spoiled = m.spoiled }) good
    ∙ ap (λ k. record n { sessions = k; spoiled = m.spoiled }) sessions
    ∙ ap (λ k. record n { spoiled = k }) spoiled

module _ (before after : List RecordState) (states : List SessionState) where
  -- the counters of the other records. Only the total includes the record that changes
  abbrev others : BatchTotals
  others = record (totals_by (before ++ after) states) { records = length (before ++ after) + 1 }

  counts : (t s : RecordState) → same_record_state s t ≡ true → count_records (before ++ t ∷ after) s ≡ count_records (before ++ after) s + 1
  counts t s = counted before after t (same_record_state s)

  other : (t s : RecordState) → same_record_state s t ≡ false → count_records (before ++ t ∷ after) s ≡ count_records (before ++ after) s
  other t s = uncounted before after t (same_record_state s)

  beside : (t : RecordState) → totals_by (before ++ t ∷ after) states ≡ more t others
  beside rec.Waiting = let t = rec.Waiting in alike (totals_by (before ++ t ∷ after) states) (more t others) (more_by_one before after t)
      (counts t rec.Waiting refl) (other t rec.Running refl) (other t rec.Failed refl) (other t rec.Withdrawn refl) (other t rec.Good refl) refl refl
  beside rec.Running = let t = rec.Running in alike (totals_by (before ++ t ∷ after) states) (more t others) (more_by_one before after t)
      (other t rec.Waiting refl) (counts t rec.Running refl) (other t rec.Failed refl) (other t rec.Withdrawn refl) (other t rec.Good refl) refl refl
  beside rec.Failed = let t = rec.Failed in alike (totals_by (before ++ t ∷ after) states) (more t others) (more_by_one before after t)
      (other t rec.Waiting refl) (other t rec.Running refl) (counts t rec.Failed refl) (other t rec.Withdrawn refl) (other t rec.Good refl) refl refl
  beside rec.Withdrawn = let t = rec.Withdrawn in alike (totals_by (before ++ t ∷ after) states) (more t others) (more_by_one before after t)
      (other t rec.Waiting refl) (other t rec.Running refl) (other t rec.Failed refl) (counts t rec.Withdrawn refl) (other t rec.Good refl) refl refl
  beside rec.Good = let t = rec.Good in alike (totals_by (before ++ t ∷ after) states) (more t others) (more_by_one before after t)
      (other t rec.Waiting refl) (other t rec.Running refl) (other t rec.Failed refl) (other t rec.Withdrawn refl) (counts t rec.Good refl) refl refl

back : (n : ℕ) → (n + 1) - 1 ≡ n
back n = omega arith

less_more : (t : RecordState) (n : BatchTotals) → less t (more t n) ≡ n
less_more rec.Waiting n = ap (λ k. record n { waiting = k }) (back n.waiting)
less_more rec.Running n = ap (λ k. record n { running = k }) (back n.running)
less_more rec.Failed n = ap (λ k. record n { failed = k }) (back n.failed)
less_more rec.Withdrawn n = ap (λ k. record n { withdrawn = k }) (back n.withdrawn)
less_more rec.Good n = ap (λ k. record n { good = k }) (back n.good)

-- A record changes from the state `was` to the state `now`.
pub passes_to : (before after : List RecordState) (was now : RecordState) (states : List SessionState)
    → totals_by (before ++ now ∷ after) states ≡ more now (less was (totals_by (before ++ was ∷ after) states))
passes_to before after was now states =
    beside before after states now ∙ ap (more now) (sym (less_more was (others before after states)))
    ∙ ap (λ n. more now (less was n)) (sym (beside before after states was))

-- ---- sessions

module _ (records : List RecordState) (before after : List SessionState) where
  pub session_opened : totals_by records (before ++ session.Running ∷ after) ≡ one_opened (totals_by records (before ++ after))
  session_opened =
      let t = session.Running in
      alike (totals_by records (before ++ t ∷ after)) (one_opened (totals_by records (before ++ after))) refl refl refl refl refl refl (more_by_one before after t) (uncounted before after t is_spoiled refl)

  pub session_good : totals_by records (before ++ session.Good ∷ after) ≡ totals_by records (before ++ session.Running ∷ after)
  session_good =
      let good = session.Good in
      let runs = session.Running in
      alike (totals_by records (before ++ good ∷ after)) (totals_by records (before ++ runs ∷ after)) refl refl refl refl refl refl
      (more_by_one before after good ∙ sym (more_by_one before after runs)) (uncounted before after good is_spoiled refl ∙ sym (uncounted before after runs is_spoiled refl))

  pub session_spoiled : totals_by records (before ++ session.Spoiled ∷ after) ≡ one_spoiled (totals_by records (before ++ session.Running ∷ after))
  session_spoiled =
      let over = session.Spoiled in
      let runs = session.Running in
      alike (totals_by records (before ++ over ∷ after)) (one_spoiled (totals_by records (before ++ runs ∷ after))) refl refl refl refl refl refl
      (more_by_one before after over ∙ sym (more_by_one before after runs))
      (counted before after over is_spoiled refl ∙ ap (λ n. n + 1) (sym (uncounted before after runs is_spoiled refl)))
