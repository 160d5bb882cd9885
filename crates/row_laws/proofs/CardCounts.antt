-- The number of spoiled sessions of a record, and of sessions that are good or running.
use Rattle.std.proofs.Common.{◌≡◌, ℕ, ◌+◌, ◌≤◌, Bool, true, false, cond, List, [], ◌∷◌, length, inl, inr, refl, sym, ap, ◌∙◌, arith}
use Rattle.std.specs.Prelude.{count_by}
use Rattle.std.specs.List.{list_any}
use Rattle.std.proofs.lemmas.Bool.{cases_Bool, false_from_ne_true}
use Rattle.std.proofs.lemmas.List.Sums.{sum_by-cons}
use Rattle.job_facts.specs.declared.facts.RecordState.{RecordState}
use Rattle.job_facts.specs.declared.facts.RecordState.TheVariants as rec
use Rattle.job_facts.specs.declared.facts.SessionState.{SessionState}
use Rattle.job_facts.specs.declared.facts.SessionState.TheVariants as session
use Rattle.job_facts.specs.Sound.{IsSoundRecord, has_card}
use Rattle.job_facts.specs.States.{is_good, is_running, is_spoiled, same_record_state, same_session_state, state_by}
use Rattle.job_facts.proofs.Lists.{count_by_any, count_by_none}
use Rattle.step_laws.proofs.BlankSums.{one}
use Rattle.row_laws.specs.RowValues.{cards}

card_or_not : (t : SessionState) → cond {A = ℕ} (is_spoiled t) 1 0 + cond {A = ℕ} (has_card t) 1 0 ≡ 1
card_or_not session.Running = refl
card_or_not session.Good = refl
card_or_not session.Spoiled = refl

pub spoiled_or_card : (states : List SessionState) → length states ≡ count_by is_spoiled states + count_by has_card states
spoiled_or_card [] = refl
spoiled_or_card (t ∷ states) =
    omega (arith, spoiled_or_card states, card_or_not t, sum_by-cons (λ s. cond {A = ℕ} (is_spoiled s) 1 0) t states, sum_by-cons (λ s. cond {A = ℕ} (has_card s) 1 0) t states)

good_or_running : (t : SessionState) → cond {A = ℕ} (has_card t) 1 0 ≡ cond {A = ℕ} (is_good t) 1 0 + cond {A = ℕ} (is_running t) 1 0
good_or_running session.Running = refl
good_or_running session.Good = refl
good_or_running session.Spoiled = refl

two_cards : (states : List SessionState) → count_by has_card states ≡ count_by is_good states + count_by is_running states
two_cards [] = refl
two_cards (t ∷ states) = omega (
  arith,
  two_cards states,
  good_or_running t,
  sum_by-cons (λ s. cond {A = ℕ} (has_card s) 1 0) t states,
  sum_by-cons (λ s. cond {A = ℕ} (is_good s) 1 0) t states,
  sum_by-cons (λ s. cond {A = ℕ} (is_running s) 1 0) t states,
)

-- ---- the good or running session of a record

-- A sound record has one session with the state `state` if it has the state `stands`, and otherwise
-- no such session.
abbrev pub IsCardOf : SessionState → RecordState → Type 0
IsCardOf state stands = (states : List SessionState) (withdrawn : Bool) (remakes : ℕ) → IsSoundRecord states withdrawn remakes
    → count_by (same_session_state state) states ≡ one (same_record_state stands (state_by states withdrawn remakes))

-- If at most one session satisfies `q`, the number of such sessions is 1 or 0.
counted_once : (q : SessionState → Bool) (states : List SessionState) → count_by q states ≤ 1 → count_by q states ≡ one (list_any q states)
counted_once q states most = elim (cases_Bool (list_any q states)) [
  | inl some ↦
      let single : count_by q states ≡ 1 = omega (arith, most, count_by_any q states some) in
      single ∙ sym (ap one some)
  | inr none ↦ count_by_none q states none ∙ sym (ap one none)
]

-- the state of a record: whether it has a good session, whether it has a running one, whether it is
-- withdrawn, and whether it failed
abbrev state_where : Bool → Bool → Bool → Bool → RecordState
state_where good runs withdrawn failed = cond good rec.Good (cond runs rec.Running (cond withdrawn rec.Withdrawn (cond failed rec.Failed rec.Waiting)))

good_where : (good runs withdrawn failed : Bool) → one good ≡ one (same_record_state rec.Good (state_where good runs withdrawn failed))
good_where true runs withdrawn failed = refl
good_where false true withdrawn failed = refl
good_where false false true failed = refl
good_where false false false true = refl
good_where false false false false = refl

running_where : (good runs withdrawn failed : Bool) → (good ≡ true → runs ≡ false) → one runs ≡ one (same_record_state rec.Running (state_where good runs withdrawn failed))
running_where true runs withdrawn failed apart = ap one (apart refl)
running_where false true withdrawn failed apart = refl
running_where false false true failed apart = refl
running_where false false false true apart = refl
running_where false false false false apart = refl

pub good_counted : IsCardOf session.Good rec.Good
good_counted states withdrawn remakes is =
    counted_once is_good states (omega (arith, two_cards states, is.one_card)) ∙ good_where (list_any is_good states) (list_any is_running states) withdrawn _

pub running_counted : IsCardOf session.Running rec.Running
running_counted states withdrawn remakes is =
    counted_once is_running states (omega (arith, two_cards states, is.one_card))
    ∙ running_where (list_any is_good states) (list_any is_running states) withdrawn _
    (λ good. false_from_ne_true (list_any is_running states) (λ runs.
    omega (arith, two_cards states, is.one_card, count_by_any is_good states good, count_by_any is_running states runs)))

-- ---- both

each_card : (s : RecordState) → cards s ≡ one (same_record_state rec.Good s) + one (same_record_state rec.Running s)
each_card rec.Waiting = refl
each_card rec.Running = refl
each_card rec.Failed = refl
each_card rec.Withdrawn = refl
each_card rec.Good = refl

pub cards_counted : (states : List SessionState) (withdrawn : Bool) (remakes : ℕ) → IsSoundRecord states withdrawn remakes → count_by has_card states ≡ cards (state_by states withdrawn remakes)
cards_counted states withdrawn remakes is =
    let stands : RecordState = state_by states withdrawn remakes in
    let good : count_by is_good states ≡ one (same_record_state rec.Good stands) = good_counted states withdrawn remakes is in
    let running : count_by is_running states ≡ one (same_record_state rec.Running stands) = running_counted states withdrawn remakes is in
    omega (arith, two_cards states, good, running, each_card stands)
