-- The plan of the record of a session, and sublists of the facts.
use Rattle.std.specs.Prelude.{◌&&◌, ℕ, List, Option, bytes_eq, filter, find, option_map, unwrap_or}
use Rattle.store_data.specs.declared.cursor.Cursor.{Cursor}
use Rattle.store_data.specs.Cursor.{cursor_at, select_cursor}
use Rattle.store_data.specs.Sequence.{Plan, commands_of, no_plan}
use Rattle.job_facts.specs.declared.facts.Lot.{Lot}
use Rattle.job_facts.specs.Facts.{Facts, Session}
use Rattle.job_facts.specs.States.{going, is_running, numbered, plan_for, session_state}

-- the plan of the record of session `s`, or a plan without commands if its batch or product doesn't
-- exist
abbrev pub plan_of_session : Facts → Session → Plan
plan_of_session f s = unwrap_or (plan_for f s.batch s.rec) no_plan

-- the cursor after the status words that let session `s` continue
abbrev pub cursor_after : Plan → Session → Cursor
cursor_after plan s = unwrap_or (cursor_at plan (going (commands_of plan) s.words)) (select_cursor 0)

-- the number of the first running session of `machine` in `sessions`, whose numbers start at `n`
abbrev pub running_from : Facts → List ℕ → ℕ → List Session → Option ℕ
running_from f machine n sessions =
    option_map (λ (e : ℕ × Session). e.0) (find (λ (e : ℕ × Session). bytes_eq e.1.machine machine && is_running (session_state f e.1)) (numbered n sessions))

-- the sessions of record `r` of batch `b`
abbrev pub sessions_of_record : List Session → List ℕ → List ℕ → List Session
sessions_of_record sessions b r = filter (λ (s : Session). bytes_eq s.batch b && bytes_eq s.rec r) sessions

-- the lots of the product `p`
abbrev pub lots_for : List Lot → List ℕ → List Lot
lots_for lots p = filter (λ (l : Lot). bytes_eq l.product p) lots
