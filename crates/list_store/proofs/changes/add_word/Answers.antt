use Rattle.std.proofs.Common.{arith}
use Rattle.job_facts.specs.Facts.{worded}
use Rattle.list_store.proofs.ChangeLemmas.{changed_session, no_session}
use Rattle.list_store.proofs.changes.add_word.Goals as goal

pub returns-in_ok-add_word-clause-ok : goal.returns-in_ok-add_word-clause-ok
returns-in_ok-add_word-clause-ok c = changed_session (worded c.args.sw) c.args.sessions.now c.args.session c.index-sessions-session.result c.add_word.new.self c.if-session-gt0.true c.if-session-sessions.true c.in_ok-add_word.ensures.ok

pub returns-else-session-gt0-clause-ok : goal.returns-else-session-gt0-clause-ok
returns-else-session-gt0-clause-ok c = no_session (worded c.args.sw) c.args.sessions.now c.args.session (λ some. omega arith)
