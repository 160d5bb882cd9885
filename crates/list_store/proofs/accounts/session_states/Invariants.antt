use Rattle.std.proofs.Common.{◌≡◌, map, take}
use Rattle.std.specs.Prelude.{bytes_eq, filter}
use Rattle.job_facts.specs.Facts.{Session}
use Rattle.job_facts.specs.States.{session_state}
use Rattle.list_store.proofs.accounts.session_states.Given as goal

abbrev pub invariant-loop-session : goal.invariant-loop-session
invariant-loop-session l = l.states.items ≡ map (session_state l.facts) (filter (λ (s : Session). bytes_eq s.batch l.batch) (take l.session-index l.sessions))
