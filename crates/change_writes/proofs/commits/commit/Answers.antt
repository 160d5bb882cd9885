use Rattle.std.proofs.Common.{◌≡◌, Result, Ok, Err, OnOk, OnErr, is_ok, subst, rules, arith}
use Rattle.sqlite.specs.State.{HasCleanDisk, State, Survives}
use Rattle.sqlite.specs.Held.{state}
use Rattle.sqlite.specs.declared.error.Error.{Error}
use Rattle.sqlite.proofs.Callers.{survives_begin}
use Rattle.sql_base.specs.Ends.{Ends, IsKept, IsLeft}
use Rattle.sql_rows.specs.Image.{Moves}
use Rattle.table_rows.specs.After.{rows_written}
use Rattle.sql_base.proofs.Ending.{crash_of, ok_of, err_of, dropped, crash_undone}
use Rattle.sql_base.proofs.Lasting.{outlives}
use Rattle.job_facts.specs.declared.failed.Failed.{Failed}
use Rattle.job_facts.specs.Kept.{kept_reply}
use Rattle.change_writes.specs.Undone.{LeavesNoTraceIfUndone}
use Rattle.change_writes.proofs.commits.commit.Goals as goal

-- ---- from the result of a step to the result of the call

module _ {X Y E F : Type 0} (P : Type 0) where
  same_ok : (r : Result X E) (q : Result Y F) → is_ok q ≡ is_ok r → OnOk r P → OnOk q P
  same_ok (Ok x) (Ok y) is it = it
  same_ok (Ok x) (Err f) is it = tt
  same_ok (Err e) (Ok y) is it = absurd (cc)
  same_ok (Err e) (Err f) is it = tt

  same_err : (r : Result X E) (q : Result Y F) → is_ok q ≡ is_ok r → OnErr r P → OnErr q P
  same_err (Ok x) (Ok y) is it = tt
  same_err (Ok x) (Err f) is it = absurd (cc)
  same_err (Err e) (Ok y) is it = tt
  same_err (Err e) (Err f) is it = it

leaves_no_trace : (old new : State) (r : Result (Unit {0}) (Failed Error)) → Survives old new (λ _. ⊥) → LeavesNoTraceIfUndone old new r
leaves_no_trace old new (Ok x) survives = tt
leaves_no_trace old new (Err e) survives = λ undone. survives

-- ---- the call

pub returns-clause-ok : goal.returns-clause-ok
returns-clause-ok g c clean =
    let taken = Moves (rows_written c.args.writing.now (kept_reply c.args.entry.now)) in
    let old = c.args.conn.now in
    let mid = c.write_all.new.tx.conn.now in
    let end = c.commit.new.self.0 in
    let same : end ≡ c.conn-2-1.given.0 = search rules in
    let late : HasCleanDisk (state g.S.Store end) = search rules in
    let wrote = rw c.transaction-tx.ensures.begun at (c.in_ok-write_all.ensures.wrote (omega (arith, c.commit.ensures.survives.clean))) in
    subst (λ h. OnOk c.map_err.result (Ends taken (state g.S.Store old) (state g.S.Store h))) same
    (same_ok _ c.commit.result c.map_err.result c.map_err.ensures.variant (ok_of g.S.Store g.met.S.Store.settled taken old mid end c.commit.result wrote.well (c.commit.ensures.ok late)))

pub returns-clause-err : goal.returns-clause-err
returns-clause-err g c clean =
    let taken = Moves (rows_written c.args.writing.now (kept_reply c.args.entry.now)) in
    let old = c.args.conn.now in
    let mid = c.write_all.new.tx.conn.now in
    let end = c.commit.new.self.0 in
    let same : end ≡ c.conn-2-1.given.0 = search rules in
    let late : HasCleanDisk (state g.S.Store end) = search rules in
    let wrote = rw c.transaction-tx.ensures.begun at (c.in_ok-write_all.ensures.wrote (omega (arith, c.commit.ensures.survives.clean))) in
    let settled = c.is_committed.ensures in
    subst (λ h. OnErr c.map_err.result (IsKept (state g.S.Store old) (state g.S.Store h))) same
    (same_err _ c.commit.result c.map_err.result c.map_err.ensures.variant (err_of g.S.Store g.met.S.Store.settled taken old mid end c.commit.result settled wrote.well wrote.kept (c.commit.ensures.err late)))

pub returns-clause-crash : goal.returns-clause-crash
returns-clause-crash g c =
    let taken = Moves (rows_written c.args.writing.now (kept_reply c.args.entry.now)) in
    let old = c.args.conn.now in
    let mid = c.write_all.new.tx.conn.now in
    let end = c.commit.new.self.0 in
    let same : end ≡ c.conn-2-1.given.0 = search rules in
    subst (λ h. Survives (state g.S.Store old) (state g.S.Store h) (IsLeft taken (state g.S.Store old))) same
    (crash_of g.S.Store g.met.S.Store.settled taken old mid end (λ clean. (rw c.transaction-tx.ensures.begun at (c.in_ok-write_all.ensures.wrote clean)).well) (rw c.transaction-tx.ensures.begun at c.write_all.ensures.survives) c.commit.ensures.survives)

pub returns-in_err-write_all-clause-err : goal.returns-in_err-write_all-clause-err
returns-in_err-write_all-clause-err g c clean =
    let taken = Moves (rows_written c.args.writing.now (kept_reply c.args.entry.now)) in
    let old = c.args.conn.now in
    let mid = c.write_all.new.tx.conn.now in
    let end = c.drop-tx.new.self.0 in
    let same : end ≡ c.conn-1.given.0 = search rules in
    let late : HasCleanDisk (state g.S.Store end) = search rules in
    let wrote = rw c.transaction-tx.ensures.begun at (c.in_err-write_all.ensures.wrote (omega (arith, c.drop-tx.ensures.survives.clean))) in
    let settled = c.is_committed.ensures in
    subst (λ h. OnErr c.from_residual.result (IsKept (state g.S.Store old) (state g.S.Store h))) same
    (same_err _ c.write_all.result c.from_residual.result (search rules) (dropped g.S.Store g.met.S.Store.settled taken old mid end c.write_all.result settled wrote.kept (c.drop-tx.ensures.undone late)))

pub returns-in_err-write_all-clause-crash : goal.returns-in_err-write_all-clause-crash
returns-in_err-write_all-clause-crash g c =
    let taken = Moves (rows_written c.args.writing.now (kept_reply c.args.entry.now)) in
    let old = c.args.conn.now in
    let mid = c.write_all.new.tx.conn.now in
    let end = c.drop-tx.new.self.0 in
    let same : end ≡ c.conn-1.given.0 = search rules in
    subst (λ h. Survives (state g.S.Store old) (state g.S.Store h) (IsLeft taken (state g.S.Store old))) same
    (crash_undone g.S.Store g.met.S.Store.settled taken old mid end (rw c.transaction-tx.ensures.begun at c.write_all.ensures.survives) c.drop-tx.ensures.survives)

pub returns-in_err-write_all-clause-undone : goal.returns-in_err-write_all-clause-undone
returns-in_err-write_all-clause-undone g c =
    let old = c.args.conn.now in
    let mid = c.write_all.new.tx.conn.now in
    let end = c.drop-tx.new.self.0 in
    let same : end ≡ c.conn-1.given.0 = search rules in
    let before = survives_begin g.S.Store old (state g.S.Store mid) (λ _. ⊥) (rw c.transaction-tx.ensures.begun at c.write_all.ensures.survives) in
    subst (λ h. LeavesNoTraceIfUndone (state g.S.Store old) (state g.S.Store h) c.from_residual.result) same
    (leaves_no_trace (state g.S.Store old) (state g.S.Store end) c.from_residual.result (outlives before c.drop-tx.ensures.survives))
