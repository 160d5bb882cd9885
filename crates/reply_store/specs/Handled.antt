-- Defines the effect of handling an arrival on a store.
use Rattle.std.specs.Prelude.{◌≡◌, ◌⊎◌, ◌≤◌, false, [], ◌∷◌, ◌++◌, Option, None, Result, IfOk, OnOk, OnErr}
use Rattle.job_facts.specs.declared.store.StoreFault.{StoreFault}
use Rattle.job_facts.specs.Contents.{Contents, entry_of}
use Rattle.job_facts.specs.Store.{IsFound, IsHonest, Log, MayWrite, State, with_lines}
use Rattle.arrivals.specs.declared.kept.Kept.{Kept}
use Rattle.arrivals.specs.HttpReplies.{http_reply}
use Rattle.arrivals.specs.Meaning.{Arrived, contents_after, entry_with, http_reply_on, is_released, reply_to, told}

-- the number of the arrival is new: it isn't released, and no entry has it
abbrev pub IsFirst : Contents → Arrived → Type 0
IsFirst c a = (is_released c.marks a ≡ false) × (entry_of c.kept a.client a.number ≡ None)

-- the store in state `old` handles the arrival `a` with this `result`, and is then in state `new`
pub record Handles (old new : State) (a : Arrived) (result : Result Kept StoreFault) : Type 0 where
  pub doubts : old.doubts ≤ new.doubts
  -- the result is the response to the arrival for the contents before it
  pub reply_is : IsHonest new → (c : Contents) → old.holds c → IfOk result (λ kept. http_reply_on c a ≡ http_reply kept)
  pub ok : OnOk result (IsHonest new → (c : Contents) → old.holds c → new.holds (contents_after c (a ∷ [])))
  pub err : OnErr result (IsHonest new → (c : Contents) → old.holds c → new.holds c)
  -- a crash leaves a state possible before the call, or the contents after the arrival with its
  -- kept reply
  pub crash : IsHonest new → (c : Contents) (d : Option Contents) → old.holds c → new.may_leave d → old.may_leave d ⊎ IsFound d (contents_after c (a ∷ []))
  -- if the arrival has a new number and gets a reply, a crash leaves only the latter
  pub settled : OnOk result (IsHonest new → (c : Contents) (d : Option Contents) → old.holds c → IsFirst c a → new.may_leave d → IsFound d (contents_after c (a ∷ [])))
  -- if the arrival has a new number, the request log wasn't shut and gets its line; otherwise the
  -- request log is unchanged
  pub logged : OnOk result (IsHonest new → (c : Contents) → old.holds c → (l : Log) → old.log l → ((l.shut ≡ false) ⊎ (told c (a ∷ []) ≡ [])) × new.log (with_lines (told c (a ∷ [])) l))
  pub unlogged : OnErr result (IsHonest new → (c : Contents) → old.holds c → (l : Log) → old.log l → (m : Log) × new.log m × MayWrite (entry_with a (reply_to c.facts c.marks a)) l m)
  -- if a crash leaves a state that wasn't possible before the call, the request log has the line of
  -- the arrival
  pub covered : IsHonest new → (c : Contents) (d : Option Contents) → old.holds c → new.may_leave d → (l : Log) → old.log l
      → old.may_leave d ⊎ (IsFound d (contents_after c (a ∷ [])) × ((m : Log) × new.log m × (m.lines ≡ l.lines ++ told c (a ∷ []))))
