use Rattle.std.proofs.Common.{◌≡◌, drop}
use Rattle.std.specs.Prelude.{find}
use Rattle.job_facts.specs.States.{is_good, session_state}
use Rattle.list_store.specs.Sessions.{sessions_of_record}
use Rattle.list_store.proofs.accounts.good_blank.Given as goal

-- No session of the record before this one is good.
abbrev pub invariant-loop-session : goal.invariant-loop-session
invariant-loop-session l =
    find (λ s. is_good (session_state l.facts s)) (sessions_of_record (drop l.session-index l.sessions) l.batch l.rec)
    ≡ find (λ s. is_good (session_state l.facts s)) (sessions_of_record l.sessions l.batch l.rec)
