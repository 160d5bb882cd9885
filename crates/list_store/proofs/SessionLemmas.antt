-- A session without a plan has the same state and cursor as a session with a plan without commands.
use Rattle.std.proofs.Common.{◌≡◌, ℕ, zero, suc, Option, Some, None, refl, ap}
use Rattle.std.specs.Prelude.{option_and_then, unwrap_or}
use Rattle.store_data.specs.Cursor.{cursor_at, cursors_of, select_cursor}
use Rattle.store_data.specs.Sequence.{Plan, commands_of, no_plan}
use Rattle.job_facts.specs.Facts.{Facts, Session}
use Rattle.job_facts.specs.States.{commands_under, going, plan_for, session_cursor, session_state, state_with}
use Rattle.list_store.specs.Sessions.{cursor_after, plan_of_session}

commands_or_none : (o : Option Plan) → commands_of (unwrap_or o no_plan) ≡ commands_under o
unfolding commands_of
commands_or_none None = refl
commands_or_none (Some plan) = refl

pub state_under_plan : (f : Facts) (s : Session) → state_with (commands_of (plan_of_session f s)) s ≡ session_state f s
unfolding session_state
state_under_plan f s = ap (λ commands. state_with commands s) (commands_or_none (plan_for f s.batch s.rec))

first_or_none : (k : ℕ) → unwrap_or (cursor_at no_plan k) (select_cursor 0) ≡ select_cursor 0
unfolding cursors_of
first_or_none zero = refl
first_or_none (suc k) = refl

cursor_or_none : (o : Option Plan) (s : Session) → cursor_after (unwrap_or o no_plan) s
    ≡ unwrap_or (option_and_then (λ (plan : Plan). cursor_at plan (going (commands_of plan) s.words)) o) (select_cursor 0)
cursor_or_none None s = first_or_none (going (commands_of no_plan) s.words)
cursor_or_none (Some plan) s = refl

pub cursor_under_plan : (f : Facts) (s : Session) → cursor_after (plan_of_session f s) s ≡ session_cursor f s
unfolding session_cursor
cursor_under_plan f s = cursor_or_none (plan_for f s.batch s.rec) s
