-- Defines the contents after several runs of a server, each of which ends at any point.
use Rattle.std.specs.Prelude.{◌≡◌, ◌⊎◌, ℕ, List, [], ◌∷◌, ◌++◌, map, false, slice_get, Some}
use Rattle.job_facts.specs.Contents.{AreSame, Contents}
use Rattle.job_facts.specs.Reopening.{OpensAfter, OpensWith}
use Rattle.job_facts.specs.Store.{IsHonest, State}
use Rattle.arrivals.specs.Meaning.{Arrived, contents_after}
use Rattle.reply_store.specs.Runs.{Leaves, Tried, decided}

-- a run of a server: the arrivals that it tried, and its store when it ended
pub record Run (S : Type 0) : Type 0 where
  pub tried : List Tried
  pub last : S

-- The first run starts with the store `first`. After each run, a store is opened over the contents
-- that the end of the run left: the next run starts with it, and after all runs it is `last`.
abbrev pub AreRuns : {S : Type 0} → (S → State) → S → List (Run S) → S → Type 0
AreRuns state first [] last = first ≡ last
AreRuns {S} state first (r ∷ runs) last =
    Leaves (state first) (state r.last) r.tried × IsHonest (state r.last) × ((next : S) × OpensAfter (state r.last) (state next) × AreRuns state next runs last)

-- `took` has the arrivals of a run that took effect: all that were decided, and at most one that a
-- fault of the store or the end of the run ended
abbrev pub TookEffect : List Tried → List Arrived → Type 0
TookEffect tried took =
    (took ≡ decided tried) ⊎ ((i : ℕ) × (a : Arrived) × (slice_get tried i ≡ Some (a, false)) × (took ≡ decided tried ++ a ∷ []))

-- `took` has the arrivals of these runs that took effect, in their order. A run is the list of the
-- arrivals that it tried.
abbrev pub TookInRuns : List (List Tried) → List Arrived → Type 0
TookInRuns [] took = took ≡ []
TookInRuns (tried ∷ runs) took = (own : List Arrived) × (rest : List Arrived) × TookEffect tried own × TookInRuns runs rest × (took ≡ own ++ rest)

-- the arrivals that each run tried
abbrev pub all_tried : {S : Type 0} → List (Run S) → List (List Tried)
all_tried {S} runs = map (λ (r : Run S). r.tried) runs

-- After any runs, the store that is opened has the contents after the arrivals that took effect,
-- except for the order of sets.
abbrev pub AreLeftByRuns : {S : Type 0} → (S → State) → Type 0
AreLeftByRuns {S} state = (first last : S) (runs : List (Run S)) (c : Contents) → OpensWith (state first) c → AreRuns state first runs last
    → (took : List Arrived) × TookInRuns (all_tried runs) took × ((d : Contents) × OpensWith (state last) d × AreSame d (contents_after c took))
