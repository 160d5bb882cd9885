use Rattle.std.proofs.Common.{◌≡◌, drop}
use Rattle.std.specs.List.{list_all}
use Rattle.job_facts.specs.States.{is_finished, record_state}
use Rattle.list_store.proofs.states.is_batch_finished.Given as goal

-- All records before this one are good or withdrawn.
abbrev pub invariant-loop-rec : goal.invariant-loop-rec
invariant-loop-rec l =
    list_all (λ r. is_finished (record_state l.facts l.batch r)) (drop l.rec-index l.rec-items)
    ≡ list_all (λ r. is_finished (record_state l.facts l.batch r)) l.rec-items
