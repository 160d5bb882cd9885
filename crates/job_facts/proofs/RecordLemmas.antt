-- The state of a record from the states of its sessions, and the effect of a new session or a new
-- state.
use Rattle.std.proofs.Common.{◌≡◌, ℕ, ◌+◌, ◌≤◌, Bool, true, false, cond, ltb, List, [], ◌∷◌, ◌++◌, refl, arith}
use Rattle.std.specs.Prelude.{count_by}
use Rattle.std.specs.List.{list_any}
use Rattle.std.proofs.lemmas.Bool.{both_ways, false_from_ne_true, ltb-false, or_from}
use Rattle.std.proofs.lemmas.List.Folds.{list_any_none}
use Rattle.std.proofs.lemmas.List.Sums.{sum_by-le-sum_by}
use Rattle.store_data.proofs.IsPlanLemmas.{All-from_list_any}
use Rattle.job_facts.specs.declared.facts.SessionState.{SessionState}
use Rattle.job_facts.specs.declared.facts.SessionState.TheVariants as session
use Rattle.job_facts.specs.declared.facts.RecordState.TheVariants as rec
use Rattle.job_facts.specs.Sound.{IsSoundRecord, has_card}
use Rattle.job_facts.specs.States.{is_finished, is_good, is_running, is_spoiled, state_by}
use Rattle.job_facts.proofs.Lists.{count_by-at, count_by_any, count_by_none, list_any-there}

-- A session is good or running, or it is spoiled.
card_or_spoiled : (t : SessionState) → cond (has_card t) 1 0 + cond (is_spoiled t) 1 0 ≡ 1
card_or_spoiled session.Good = refl
card_or_spoiled session.Running = refl
card_or_spoiled session.Spoiled = refl

-- A good session is counted as good or running.
good-le-card : (t : SessionState) → cond (is_good t) 1 0 ≤ cond (has_card t) 1 0
good-le-card session.Good = omega arith
good-le-card session.Running = omega arith
good-le-card session.Spoiled = omega arith

-- the tests in the state of a record that is failed or waiting
open_tests : (good running withdrawn more failed : Bool)
    → cond good rec.Good (cond running rec.Running (cond withdrawn rec.Withdrawn (cond more rec.Failed rec.Waiting))) ≡ cond failed rec.Failed rec.Waiting
    → (good ≡ false) × (running ≡ false) × (withdrawn ≡ false) × (more ≡ failed)
open_tests true running withdrawn more true e = absurd (cc)
open_tests true running withdrawn more false e = absurd (cc)
open_tests false true withdrawn more true e = absurd (cc)
open_tests false true withdrawn more false e = absurd (cc)
open_tests false false true more true e = absurd (cc)
open_tests false false true more false e = absurd (cc)
open_tests false false false true true e = (refl, refl, refl, refl)
open_tests false false false false false e = (refl, refl, refl, refl)
open_tests false false false true false e = absurd (cc)
open_tests false false false false true e = absurd (cc)

-- the sessions, withdrawal and remakes of a record that is failed or waiting
pub open_parts : (states : List SessionState) (withdrawn : Bool) (remakes : ℕ) (failed : Bool)
    → state_by states withdrawn remakes ≡ cond failed rec.Failed rec.Waiting
    → (list_any has_card states ≡ false) × (withdrawn ≡ false) × (ltb remakes (count_by is_spoiled states) ≡ failed)
open_parts states withdrawn remakes failed stands =
    let parts = open_tests (list_any is_good states) (list_any is_running states) withdrawn (ltb remakes (count_by is_spoiled states)) failed stands in
    (list_any_none has_card states (λ k d within. or_from _ _ (All-from_list_any is_good states parts.0 k d within) (All-from_list_any is_running states parts.1 k d within)), parts.2, parts.3)

-- The running session of a record may change to any state.
pub record_kept : (before after : List SessionState) (t : SessionState) (withdrawn : Bool) (remakes : ℕ)
    → IsSoundRecord (before ++ session.Running ∷ after) withdrawn remakes → IsSoundRecord (before ++ t ∷ after) withdrawn remakes
record_kept before after t withdrawn remakes is =
    let card_there : list_any has_card (before ++ session.Running ∷ after) ≡ true = list_any-there has_card before after session.Running refl in
    let remade = is.remade_all card_there in
    let one = card_or_spoiled t in
    let cards_then = count_by-at has_card before after session.Running in
    let cards_now = count_by-at has_card before after t in
    let spoiled_then = count_by-at is_spoiled before after session.Running in
    let spoiled_now = count_by-at is_spoiled before after t in
    let one_then = is.one_card in
    record {
      one_card = omega arith;
      remade_least = omega arith;
      remade_most = omega arith;
      remade_all = λ some. let least = count_by_any has_card (before ++ t ∷ after) some in omega arith;
      withdrawn_none = λ gone. absurd (both_ways (list_any has_card (before ++ session.Running ∷ after)) (is.withdrawn_none gone) card_there);
    }

-- A waiting record may get a new session.
pub record_opened : (states : List SessionState) (t : SessionState) (withdrawn : Bool) (remakes : ℕ)
    → IsSoundRecord states withdrawn remakes → state_by states withdrawn remakes ≡ rec.Waiting → IsSoundRecord (states ++ t ∷ []) withdrawn remakes
record_opened states t withdrawn remakes is waits =
    let parts = open_parts states withdrawn remakes false waits in
    let cards : count_by has_card states ≡ 0 = count_by_none has_card states parts.0 in
    let spoiled = ltb-false remakes (count_by is_spoiled states) parts.2 in
    let least = is.remade_least in
    let most = is.remade_most in
    let one = card_or_spoiled t in
    let cards_now : count_by has_card (states ++ t ∷ []) ≡ count_by has_card states + (cond (has_card t) 1 0 + 0) = count_by-at has_card states [] t in
    let spoiled_now : count_by is_spoiled (states ++ t ∷ []) ≡ count_by is_spoiled states + (cond (is_spoiled t) 1 0 + 0) = count_by-at is_spoiled states [] t in
    record {
      one_card = omega arith;
      remade_least = omega arith;
      remade_most = omega arith;
      remade_all = λ some. let least = count_by_any has_card (states ++ t ∷ []) some in omega arith;
      withdrawn_none = λ gone. absurd (both_ways withdrawn parts.1 gone);
    }

-- A record with a running session isn't finished.
pub running_unfinished : (before after : List SessionState) (withdrawn : Bool) (remakes : ℕ)
    → IsSoundRecord (before ++ session.Running ∷ after) withdrawn remakes → is_finished (state_by (before ++ session.Running ∷ after) withdrawn remakes) ≡ false
running_unfinished before after withdrawn remakes is =
    let runs : list_any is_running (before ++ session.Running ∷ after) ≡ true = list_any-there is_running before after session.Running refl in
    let good : list_any is_good (before ++ session.Running ∷ after) ≡ false = false_from_ne_true (list_any is_good (before ++ session.Running ∷ after)) (λ some.
    let least = count_by_any is_good (before ++ session.Running ∷ after) some in
    let goods = count_by-at is_good before after session.Running in
    let cards = count_by-at has_card before after session.Running in
    let more_before = sum_by-le-sum_by (λ t. cond (is_good t) 1 0) (λ t. cond (has_card t) 1 0) before good-le-card in
    let more_after = sum_by-le-sum_by (λ t. cond (is_good t) 1 0) (λ t. cond (has_card t) 1 0) after good-le-card in
    let one = is.one_card in
    omega arith) in
    rw (good, runs)
