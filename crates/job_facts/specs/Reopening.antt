-- Opening a store again, after it was closed or after a crash.
use Rattle.std.specs.Prelude.{◌≡◌, ◌⊎◌, Option, Some}
use Rattle.job_facts.specs.Contents.{AreSame, Contents}
use Rattle.job_facts.specs.Store.{IsFound, IsHonest, State}
use Rattle.job_facts.specs.declared.server_store.FaultCounts.{FaultCounts}

-- The store has returned no fault.
abbrev pub IsAnew : State → Type 0
IsAnew new = (new.failed ≡ 0) × (new.full ≡ 0)

-- the numbers of `Device` and `Full` faults that the store has returned
abbrev pub counts_of : State → FaultCounts
counts_of s = record { failed = s.failed; full = s.full }

-- ---- the contents of an opened store

-- Opening the store after a crash succeeds and finds exactly the contents `c`.
abbrev pub LeavesOnly : State → Contents → Type 0
LeavesOnly s c = (d : Option Contents) → s.may_leave d → IsFound d c

-- The store was opened with the contents `c`: it represents them, and an open after a crash finds
-- exactly them. A statement about the first crash is therefore also true of the next one.
pub record OpensWith (new : State) (c : Contents) : Type 0 where
  pub holds : new.holds c
  pub crash : LeavesOnly new c

-- The store `old` was closed, and `new` is opened with the same contents.
abbrev pub Reopens : State → State → Type 0
Reopens old new = IsHonest new → (c : Contents) → old.holds c → OpensWith new c

-- After a crash of the store `stopped`, the store `new` is opened with contents that the crash may
-- have left.
abbrev pub OpensAfter : State → State → Type 0
OpensAfter stopped new = (c : Contents) × stopped.may_leave (Some c) × OpensWith new c

-- ---- the contents before or after a call

-- No open with a result in `Found` is refused, and it finds the contents `before` or `after`.
abbrev pub FindsEither : (Option Contents → Type 0) → Contents → Contents → Type 0
FindsEither Found before after = (d : Option Contents) → Found d → IsFound d before ⊎ IsFound d after

-- The store `new` is opened with the contents `before` or `after`.
abbrev pub OpensWithEither : State → Contents → Contents → Type 0
OpensWithEither new before after = (c : Contents) × OpensWith new c × (AreSame c before ⊎ AreSame c after)
