-- The state of a store, and the effect of its calls on this state.
use Rattle.std.specs.Prelude.{◌≡◌, ◌⊎◌, ◌≤◌, ◌+◌, ◌-◌, ◌^◌, ℕ, Bool, false, true, List, [], ◌∷◌, ◌++◌, min, Option, None, Some, Result, Ok, Err, IfOk, IfErr, OnOk, OnErr}
use Rattle.job_facts.specs.declared.failed.Failed.{Failed}
use Rattle.job_facts.specs.declared.store.StoreFault.{StoreFault}
use Rattle.job_facts.specs.declared.store.StoreFault.TheVariants.{Memory, Device, Full}
use Rattle.job_facts.specs.Contents.{AreSame, Contents, Entry}

-- the request log of a store: a line for each reply that it has committed, in order
pub record Log : Type 0 where
  pub lines : List Entry
  -- A shut request log gets no line before the next start.
  pub shut : Bool

-- the request log `l` with the lines `es` at its end
abbrev pub with_lines : List Entry → Log → Log
with_lines es l = record l { lines = l.lines ++ es }

-- the state of a store
pub record State : Type 1 where
  -- The store represents the contents. After a fault has made it unusable, it represents any sound
  -- contents.
  pub holds : Contents → Type 0
  -- the number of times that the device didn't return what was written
  pub doubts : ℕ
  -- the number of `Device` faults returned: the device failed or returned data that can't have been
  -- written, or a call violated its precondition. A store of lists has no device.
  pub failed : ℕ
  -- the number of `Full` faults returned
  pub full : ℕ
  -- the possible results of opening the store after a crash now: contents, or `None` if the open is
  -- refused
  pub may_leave : Option Contents → Type 0
  -- A start now reads this request log. If the store keeps no request log, it reads none.
  pub log : Log → Type 0

-- `d` is the result of an open that isn't refused and finds the contents `c`, with sets in any
-- order.
abbrev pub IsFound : Option Contents → Contents → Type 0
IsFound None c = ⊥
IsFound (Some d) c = AreSame d c

-- The device is correct: so far it has returned what was written.
abbrev pub IsHonest : State → Type 0
IsHonest s = s.doubts ≡ 0

-- ---- the effect of calls

-- The call doesn't change the contents or the request log, and adds no possible result of an open
-- after a crash, whether it succeeds or fails.
pub record Stays (old new : State) : Type 0 where
  pub doubts : old.doubts ≤ new.doubts
  pub contents : IsHonest new → (c : Contents) → old.holds c → new.holds c
  pub crash : IsHonest new → (d : Option Contents) → new.may_leave d → old.may_leave d
  pub log : (l : Log) → old.log l → new.log l

-- If the device is correct and the call succeeds, `P` is true of the contents and the result.
abbrev pub Reads : {T : Type 0} → State → State → Result T StoreFault → (Contents → T → Type 0) → Type 0
Reads old new result P = IsHonest new → (c : Contents) → old.holds c → IfOk result (λ answer. P c answer)

-- `n` plus 1; a count of 64 bits doesn't increase at its maximum
abbrev pub one_more : ℕ → ℕ
one_more n = min (n + 1) (2 ^ 64 - 1)

abbrev pub failed_by : StoreFault → ℕ → ℕ
failed_by Memory n = n
failed_by Device n = one_more n
failed_by Full n = n

abbrev pub full_by : StoreFault → ℕ → ℕ
full_by Memory n = n
full_by Device n = n
full_by Full n = one_more n

abbrev pub failed_after : {T : Type 0} → Result T StoreFault → ℕ → ℕ
failed_after (Ok x) n = n
failed_after (Err fault) n = failed_by fault n

abbrev pub full_after : {T : Type 0} → Result T StoreFault → ℕ → ℕ
full_after (Ok x) n = n
full_after (Err fault) n = full_by fault n

-- A count of faults increases by one if the call returns this fault, and doesn't change otherwise.
pub record CountsFaults {T : Type 0} (old new : State) (result : Result T StoreFault) : Type 0 where
  pub failed : new.failed ≡ failed_after result old.failed
  pub full : new.full ≡ full_after result old.full

-- The contents are unchanged, and a count of faults increases by one if the call returns this
-- fault.
pub record LeavesContents {T : Type 0} (old new : State) (result : Result T StoreFault) : Type 0 where
  pub stays : Stays old new
  pub faults : CountsFaults old new result

-- If the commit of the reply `e` fails, the request log `l` becomes `m`: it is unchanged, or it is
-- shut and may have the further line `e`.
abbrev pub MayWrite : Entry → Log → Log → Type 0
MayWrite e l m = (m ≡ l) ⊎ ((l.shut ≡ false) × (m.shut ≡ true) × ((m.lines ≡ l.lines) ⊎ (m.lines ≡ l.lines ++ e ∷ [])))

-- The call commits the reply `e`. If it succeeds, the contents become `after` of the old contents.
-- If it fails, they are unchanged.
pub record Commits (old new : State) (result : Result (Unit {0}) StoreFault) (e : Entry) (Owed : Contents → Type 0) (after : Contents → Contents) : Type 0 where
  pub doubts : old.doubts ≤ new.doubts
  pub ok : OnOk result (IsHonest new → (c : Contents) → old.holds c → Owed c → new.holds (after c))
  pub err : OnErr result (IsHonest new → (c : Contents) → old.holds c → Owed c → new.holds c)
  -- An open after a crash finds what it could find before the call, or the complete new contents.
  pub crash : IsHonest new → (c : Contents) (d : Option Contents) → old.holds c → Owed c → new.may_leave d → old.may_leave d ⊎ IsFound d (after c)
  -- If the call succeeds, an open after a crash finds the new contents.
  pub settled : OnOk result (IsHonest new → (c : Contents) (d : Option Contents) → old.holds c → Owed c → new.may_leave d → IsFound d (after c))
  -- If the call succeeds, the request log wasn't shut, and its new last line is `e`.
  pub logged : OnOk result ((l : Log) → old.log l → (l.shut ≡ false) × new.log (with_lines (e ∷ []) l))
  pub unlogged : OnErr result ((l : Log) → old.log l → (m : Log) × new.log m × MayWrite e l m)
  -- If an open after a crash finds what it couldn't find before the call, the request log has the
  -- line `e`.
  pub covered : IsHonest new → (c : Contents) (d : Option Contents) → old.holds c → Owed c → new.may_leave d → (l : Log) → old.log l
      → old.may_leave d ⊎ (IsFound d (after c) × ((m : Log) × new.log m × (m.lines ≡ l.lines ++ e ∷ [])))

-- the result of a commit or a release, with only the reason of a failure
abbrev pub with_fault : {E : Type 0} → Result (Unit {0}) (Failed E) → Result (Unit {0}) E
with_fault (Ok x) = Ok x
with_fault (Err failed) = Err failed.fault

-- After a failure that is undone, the call has added no possible result of an open after a crash.
abbrev pub AddsNoneIfUndone : State → State → Result (Unit {0}) (Failed StoreFault) → Type 0
AddsNoneIfUndone old new result = IfErr result (λ (failed : Failed StoreFault). failed.undone ≡ true → IsHonest new → (d : Option Contents) → new.may_leave d → old.may_leave d)
