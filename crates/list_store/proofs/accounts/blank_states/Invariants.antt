use Rattle.std.proofs.Common.{◌≡◌, map, take}
use Rattle.std.specs.Prelude.{filter}
use Rattle.job_facts.specs.Accounts.{is_blank_of}
use Rattle.job_facts.specs.Facts.{Session}
use Rattle.job_facts.specs.States.{session_state}
use Rattle.list_store.proofs.accounts.blank_states.Given as goal

abbrev pub invariant-loop-session : goal.invariant-loop-session
invariant-loop-session l = l.states.items ≡ map (session_state l.facts) (filter (λ (s : Session). is_blank_of l.facts l.product s.blank) (take l.session-index l.sessions))
