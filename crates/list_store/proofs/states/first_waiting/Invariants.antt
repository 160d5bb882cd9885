use Rattle.std.proofs.Common.{◌≡◌, drop}
use Rattle.std.specs.Prelude.{find}
use Rattle.job_facts.specs.States.{is_waiting, record_state}
use Rattle.list_store.proofs.states.first_waiting.Given as goal

-- No record before this one is waiting.
abbrev pub invariant-loop-rec : goal.invariant-loop-rec
invariant-loop-rec l =
    find (λ r. is_waiting (record_state l.facts l.batch r)) (drop l.rec-index l.rec-items)
    ≡ find (λ r. is_waiting (record_state l.facts l.batch r)) l.rec-items
