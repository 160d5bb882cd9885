use Rattle.std.proofs.Common.{arith}
use Rattle.job_facts.specs.Facts.{ended}
use Rattle.list_store.proofs.ChangeLemmas.{changed_session, no_session}
use Rattle.list_store.proofs.changes.end.Goals as goal

pub returns-then-session-sessions : goal.returns-then-session-sessions
returns-then-session-sessions c = changed_session ended c.args.sessions.now c.args.session c.index-sessions-session.result c.end.new.self c.if-session-gt0.true c.if-session-sessions.true c.end.ensures

pub returns-else-session-gt0 : goal.returns-else-session-gt0
returns-else-session-gt0 c = no_session ended c.args.sessions.now c.args.session (λ some. omega arith)
