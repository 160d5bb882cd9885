-- The contents that are possible after several runs of a server, each of which ends at any point.
use Rattle.std.specs.Prelude.{List, [], ◌∷◌, ◌++◌, Option}
use Rattle.job_facts.specs.Contents.{AreSame, AreSound, Contents}
use Rattle.job_facts.specs.Reopening.{OpensWith}
use Rattle.job_facts.specs.Store.{IsFound, IsHonest, State}
use Rattle.arrivals.specs.Meaning.{Arrived, contents_after}
use Rattle.reply_store.specs.Days.{TookInRuns}
use Rattle.reply_store.specs.Runs.{Leaves, Tried}

-- The contents `e` are possible after the runs `runs`. The first run began with the contents `c`.
abbrev pub IsAfterRuns : Contents → List (List Tried) → Contents → Type 0
IsAfterRuns c runs e = (took : List Arrived) × TookInRuns runs took × AreSame e (contents_after c took)

-- The store was opened with contents that are possible after these runs.
abbrev pub StartsAfterRuns : State → Contents → List (List Tried) → Type 0
StartsAfterRuns s c runs = (d : Contents) × OpensWith s d × IsAfterRuns c runs d

-- Runs can be followed one at a time, from the contents `c` with which the first one starts.
pub record RunsGoOn {S : Type 0} (state : S → State) : Type 0 where
  pub first : (store : S) (c : Contents) → OpensWith (state store) c → StartsAfterRuns (state store) c []
  -- If a run starts with contents that are possible after the runs before it, then an open after a
  -- crash at its end isn't refused, and finds contents that are possible after all these runs.
  pub more : (store last : S) (c : Contents) (runs : List (List Tried)) (tried : List Tried) → AreSound c → StartsAfterRuns (state store) c runs
      → Leaves (state store) (state last) tried → IsHonest (state last)
      → (d : Option Contents) → (state last).may_leave d → (e : Contents) × IsAfterRuns c (runs ++ tried ∷ []) e × IsFound d e
