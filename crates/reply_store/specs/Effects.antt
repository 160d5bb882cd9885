-- Defines the effect of a request with a new number on a store: a change of the facts, or a new
-- release mark of its client.
use Rattle.std.specs.Prelude.{◌≡◌, ◌≤◌, ◌<◌, ℕ, List, Result, Ok, Err}
use Rattle.job_facts.specs.declared.change.Change.TheVariants.{Nothing}
use Rattle.job_facts.specs.declared.refusal.Refusal.TheVariants.{ReleaseTooFar}
use Rattle.job_facts.specs.declared.reply.Reply.{Reply}
use Rattle.job_facts.specs.declared.reply.Reply.TheVariants.{Refused, Released}
use Rattle.job_facts.specs.declared.request.Call.{Call}
use Rattle.job_facts.specs.declared.request.Call.TheVariants.{Job, Release}
use Rattle.job_facts.specs.declared.store.StoreFault.{StoreFault}
use Rattle.job_facts.specs.Contents.{Contents, Entry, IsOwed, IsOwedRelease, committed, released}
use Rattle.job_facts.specs.Sound.{Decides}
use Rattle.arrivals.specs.Meaning.{mark_by}
use Rattle.reply_store.specs.declared.deciding.Effect.{Effect}
use Rattle.reply_store.specs.declared.deciding.Effect.TheVariants.{Changes, Marks}

-- success, or the fault of the result
abbrev pub done : {T : Type 0} → Result T StoreFault → Result (Unit {0}) StoreFault
done (Ok x) = Ok tt
done (Err fault) = Err fault

-- `reply` and the effect result from a call with a new number: the decision of the reference model,
-- or a release mark that is below the number and not below the previous mark
abbrev pub Decided : Contents → List ℕ → ℕ → Call → Reply → Effect → Type 0
Decided c client number (Job r) reply (Changes change) = Decides c.facts client r reply change
Decided c client number (Job r) reply (Marks mark) = ⊥
Decided c client number (Release upto) reply (Changes change) = (number ≤ upto) × (reply ≡ Refused ReleaseTooFar) × (change ≡ Nothing)
Decided c client number (Release upto) reply (Marks mark) = (upto < number) × (1 ≤ upto) × (reply ≡ Released mark) × (mark ≡ mark_by c.marks client upto)

-- the precondition of the store's call for an effect, and the contents after this call
abbrev pub IsOwedBy : Effect → Entry → Contents → Type 0
IsOwedBy (Changes change) entry = IsOwed change entry
IsOwedBy (Marks mark) entry = IsOwedRelease mark entry

abbrev pub after_effect : Effect → Entry → Contents → Contents
after_effect (Changes change) entry = λ c. committed c change entry
after_effect (Marks mark) entry = λ c. released c mark entry
