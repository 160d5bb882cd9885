-- Defines the effect of a list of arrivals on a store.
use Rattle.std.specs.Prelude.{◌≡◌, ◌⊎◌, ◌≤◌, ℕ, List, [], ◌∷◌, ◌++◌, map, filter, take, slice_get, Option, Some, Result, IfOk, is_ok, Bool, false, true}
use Rattle.job_facts.specs.declared.request.Arrival.{Arrival}
use Rattle.job_facts.specs.declared.store.StoreFault.{StoreFault}
use Rattle.job_facts.specs.Contents.{AreSame, Contents, Entry}
use Rattle.job_facts.specs.Store.{IsFound, IsHonest, Log, State, Stays, failed_after, full_after}
use Rattle.arrivals.specs.declared.kept.Kept.{Kept}
use Rattle.arrivals.specs.HttpReplies.{http_reply}
use Rattle.arrivals.specs.Laws.{AreAbove}
use Rattle.arrivals.specs.Meaning.{Arrived, contents_after, http_reply_on, reply_to, told}
use Rattle.arrivals.specs.Commands.{HandsOutNext}
use Rattle.reply_store.specs.Handled.{Handles, IsFirst}

abbrev pub arrived : Arrival → Arrived
arrived a = record { client = a.client; number = a.number; ask = a.ask; request = a.request }

-- an arrival, and `true` if it was decided, that is, no fault of the store ended it
abbrev pub Tried : Type 0
Tried = Arrived × Bool

abbrev pub decided : List Tried → List Arrived
decided tried = map (λ (t : Tried). t.0) (filter (λ (t : Tried). t.1) tried)

-- `d` is the contents after the decided arrivals and a further one, which a fault of the store
-- ended; nothing was committed since this fault
abbrev pub IsPending : Contents → List Tried → Option Contents → Type 0
IsPending c tried d =
    (i : ℕ) × (a : Arrived) × (slice_get tried i ≡ Some (a, false)) × (contents_after c (decided (take i tried)) ≡ contents_after c (decided tried))
    × IsFound d (contents_after (contents_after c (decided tried)) (a ∷ []))

-- `d` may be left by a crash after the arrivals `tried`
abbrev pub MayBeLeft : (Option Contents → Type 0) → Contents → List Tried → Option Contents → Type 0
MayBeLeft before c tried d = IsFound d (contents_after c (decided tried)) ⊎ (IsPending c tried d ⊎ ((contents_after c (decided tried) ≡ c) × before d))

-- The request log `m` has the lines of `l` and of the decided arrivals. If it is shut, it may also
-- have the line of an arrival that a fault of the store ended.
abbrev pub AreTold : Contents → List Tried → Log → Log → Type 0
AreTold c tried l m =
    (m.lines ≡ l.lines ++ told c (decided tried)) ⊎ ((m.shut ≡ true) × ((e : Entry) × (m.lines ≡ (l.lines ++ told c (decided tried)) ++ e ∷ [])))

-- the store has the contents after the decided arrivals
pub record Leaves (old new : State) (tried : List Tried) : Type 0 where
  pub doubts : old.doubts ≤ new.doubts
  pub contents : IsHonest new → (c : Contents) → old.holds c → new.holds (contents_after c (decided tried))
  pub crash : IsHonest new → (c : Contents) (d : Option Contents) → old.holds c → new.may_leave d → MayBeLeft old.may_leave c tried d
  -- for contents that differ only in the order of sets and maps, the contents after the decided
  -- arrivals again differ only in this order
  pub alike : IsHonest new → (c d : Contents) → old.holds c → AreAbove d → AreSame c d → AreSame (contents_after c (decided tried)) (contents_after d (decided tried))
  -- the request log has the lines of the decided arrivals
  pub logged : IsHonest new → (c : Contents) → old.holds c → (l : Log) → old.log l → (m : Log) × new.log m × AreTold c tried l m

-- `Leaves` can be proved in steps: for no arrival, after one more arrival that is handled, and
-- after a call that changes nothing
pub record AreLeftInTurn {S : Type 0} (state : S → State) : Type 0 where
  pub none : (s : S) → Leaves (state s) (state s) []
  pub more : (first before after : S) (tried : List Tried) (a : Arrived) (result : Result Kept StoreFault)
      → Leaves (state first) (state before) tried → Handles (state before) (state after) a result → Leaves (state first) (state after) (tried ++ (a, is_ok result) ∷ [])
  pub stays : (first before after : S) (tried : List Tried) → Leaves (state first) (state before) tried → Stays (state before) (state after) → Leaves (state first) (state after) tried

-- an arrival with its outcome
abbrev pub Served : Type 0
Served = Arrived × Result Kept StoreFault

abbrev pub tried : List Served → List Tried
tried served = map (λ (s : Served). (s.0, is_ok s.1)) served

-- the contents after the decided arrivals among the first `i`
abbrev pub contents_before : Contents → List Served → ℕ → Contents
contents_before c served i = contents_after c (decided (tried (take i served)))

-- each decided arrival got the response for the contents after the decided arrivals before it
abbrev pub AreAnswered : Contents → List Served → Type 0
AreAnswered c served = (i : ℕ) (s : Served) → slice_get served i ≡ Some s → IfOk s.1 (λ k. http_reply_on (contents_before c served i) s.0 ≡ http_reply k)

-- the counters of device faults and of a full device after these outcomes
abbrev pub failed_through : List Served → ℕ → ℕ
failed_through [] n = n
failed_through (s ∷ served) n = failed_through served (failed_after s.1 n)

abbrev pub full_through : List Served → ℕ → ℕ
full_through [] n = n
full_through (s ∷ served) n = full_through served (full_after s.1 n)

pub record Runs (old new : State) (served : List Served) : Type 0 where
  pub leaves : Leaves old new (tried served)
  pub answered_then : IsHonest new → (c : Contents) → old.holds c → AreAnswered c served
  -- a fault of the device is reported if and only if its counter increases
  pub failed : new.failed ≡ failed_through served old.failed
  pub full : new.full ≡ full_through served old.full

-- a command in the reply to an arrival with a new number is the next one of its record's sequence
abbrev pub AreNext : Contents → List Served → Type 0
AreNext c served = (i : ℕ) (s : Served) → slice_get served i ≡ Some s →
    let before = contents_before c served i in
    IsFirst before s.0 → HandsOutNext before.facts (reply_to before.facts before.marks s.0)
