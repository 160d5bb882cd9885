use Rattle.std.proofs.Common.{◌≡◌, map, take}
use Rattle.job_facts.specs.States.{session_state}
use Rattle.list_store.specs.Sessions.{sessions_of_record}
use Rattle.list_store.proofs.states.states_among.Given as goal

abbrev pub invariant-loop-session : goal.invariant-loop-session
invariant-loop-session l = l.states.items ≡ map (session_state l.facts) (sessions_of_record (take l.session-index l.sessions) l.batch l.rec)
