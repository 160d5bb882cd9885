-- Defines the contents after a crash of the server during an arrival, and after a list of arrivals
-- with such crashes.
use Rattle.std.specs.Prelude.{◌≡◌, ◌⊎◌, List, [], ◌∷◌, Bool, true, false, Result, Ok}
use Rattle.job_facts.specs.declared.store.StoreFault.{StoreFault}
use Rattle.job_facts.specs.Contents.{AreSame, Contents}
use Rattle.job_facts.specs.Reopening.{FindsEither, OpensAfter, OpensWith, OpensWithEither}
use Rattle.job_facts.specs.Store.{IsHonest, State}
use Rattle.arrivals.specs.declared.kept.Kept.{Kept}
use Rattle.arrivals.specs.Meaning.{Arrived, contents_after}
use Rattle.reply_store.specs.Handled.{Handles}

-- the server crashes at any point while it handles the arrival `a`, which may have any result by
-- then
pub record StopsAt {S : Type 0} (state : S → State) (opened stopped : S) (a : Arrived) : Type 0 where
  pub result : Result Kept StoreFault
  pub handles : Handles (state opened) (state stopped) a result
  pub honest : IsHonest (state stopped)

-- Opening the store after the crash succeeds, and finds the contents before the arrival or after
-- it. The store that is opened has these contents, and the next crash leaves only these.
pub record AreFoundWhole {S : Type 0} (state : S → State) : Type 0 where
  pub finds : (opened stopped : S) (c : Contents) (a : Arrived) → OpensWith (state opened) c → StopsAt state opened stopped a
      → FindsEither (state stopped).may_leave c (contents_after c (a ∷ []))
  pub opens : (opened stopped again : S) (c : Contents) (a : Arrived) → OpensWith (state opened) c → StopsAt state opened stopped a → OpensAfter (state stopped) (state again)
      → OpensWithEither (state again) c (contents_after c (a ∷ []))

-- ---- lists with crashes

-- an arrival, `stops` if the server crashes during it, and the store after it
pub record Step (S : Type 0) : Type 0 where
  pub arrival : Arrived
  pub stops : Bool
  pub store : S

-- the arrival gets a reply; or, if `stops` is true, the server crashes and a store is opened over
-- the contents that the crash left
abbrev pub Goes : {S : Type 0} → (S → State) → S → Arrived → Bool → S → Type 0
Goes state before a false after = (kept : Kept) × Handles (state before) (state after) a (Ok kept) × IsHonest (state after)
Goes {S} state before a true after = (stopped : S) × StopsAt state before stopped a × OpensAfter (state stopped) (state after)

-- the steps lead from the store `first` to the store `last`, one after the other
abbrev pub AreSteps : {S : Type 0} → (S → State) → S → List (Step S) → S → Type 0
AreSteps state first [] last = first ≡ last
AreSteps state first (t ∷ steps) last = Goes state first t.arrival t.stops t.store × AreSteps state t.store steps last

-- `decided` has all arrivals that got a reply, and some of those during which the server crashed,
-- in their order
abbrev pub AreDecidedIn : {S : Type 0} → List (Step S) → List Arrived → Type 0
AreDecidedIn [] decided = decided ≡ []
AreDecidedIn (t ∷ steps) decided = (rest : List Arrived) × AreDecidedIn steps rest × ((decided ≡ t.arrival ∷ rest) ⊎ ((t.stops ≡ true) × (decided ≡ rest)))

-- after arrivals with any number of crashes, the contents are those after the decided arrivals,
-- except for the order of sets
abbrev pub AreLeftWithStops : {S : Type 0} → (S → State) → Type 0
AreLeftWithStops {S} state = (first last : S) (steps : List (Step S)) (c : Contents) → OpensWith (state first) c → AreSteps state first steps last
    → (decided : List Arrived) × AreDecidedIn steps decided × ((d : Contents) × OpensWith (state last) d × AreSame d (contents_after c decided))
