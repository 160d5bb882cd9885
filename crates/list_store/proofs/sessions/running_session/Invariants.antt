use Rattle.std.proofs.Common.{◌≡◌, ◌+◌, drop}
use Rattle.list_store.specs.Sessions.{running_from}
use Rattle.list_store.proofs.sessions.running_session.Given as goal

-- No session before this one is running on the machine.
abbrev pub invariant-loop-place : goal.invariant-loop-place
invariant-loop-place l = running_from l.facts l.machine (l.place + 1) (drop l.place l.facts.sessions) ≡ running_from l.facts l.machine 1 l.facts.sessions
