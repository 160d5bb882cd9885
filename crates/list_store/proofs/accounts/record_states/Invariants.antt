use Rattle.std.proofs.Common.{◌≡◌, map, take}
use Rattle.job_facts.specs.States.{record_state}
use Rattle.list_store.proofs.accounts.record_states.Given as goal

abbrev pub invariant-loop-rec : goal.invariant-loop-rec
invariant-loop-rec l = l.states.items ≡ map (record_state l.facts l.batch) (take l.rec-index l.names)
