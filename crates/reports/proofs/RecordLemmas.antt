-- Proves that each record of a batch is in exactly one of five states.
use Rattle.std.proofs.Common.{◌≡◌, ℕ, ◌+◌, cond, List, [], ◌∷◌, length, refl, arith}
use Rattle.std.proofs.lemmas.List.Sums.{sum_by-cons}
use Rattle.job_facts.specs.declared.facts.RecordState.{RecordState}
use Rattle.job_facts.specs.declared.facts.RecordState.TheVariants.{Waiting, Running, Failed, Withdrawn, Good}
use Rattle.job_facts.specs.Accounts.{batch_totals, count_records, record_states}
use Rattle.job_facts.specs.Facts.{Facts}
use Rattle.job_facts.specs.States.{same_record_state}
use Rattle.reports.specs.Accounts.{AreAllStanding}

-- 1 if a record is in this state, otherwise 0
abbrev one : RecordState → RecordState → ℕ
one state s = cond (same_record_state state s) 1 0

one_state : (s : RecordState) → one Waiting s + one Running s + one Failed s + one Withdrawn s + one Good s ≡ 1
one_state Waiting = refl
one_state _ = refl

each_state : (states : List RecordState)
    → count_records states Waiting + count_records states Running + count_records states Failed + count_records states Withdrawn + count_records states Good ≡ length states
each_state [] = refl
each_state (s ∷ states) = omega (
  arith,
  each_state states,
  one_state s,
  sum_by-cons (one Waiting) s states,
  sum_by-cons (one Running) s states,
  sum_by-cons (one Failed) s states,
  sum_by-cons (one Withdrawn) s states,
  sum_by-cons (one Good) s states,
)

pub all_standing : (f : Facts) (b : List ℕ) → AreAllStanding (batch_totals f b)
unfolding batch_totals
all_standing f b = each_state (record_states f b)
