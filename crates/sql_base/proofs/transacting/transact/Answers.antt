use Rattle.std.proofs.Common.{rules, arith}
use Rattle.sqlite.specs.State.{HasCleanDisk}
use Rattle.sqlite.specs.Held.{state}
use Rattle.sql_base.proofs.Causing.{ended_had, had}
use Rattle.sql_base.proofs.Ending.{crash_of, ok_of, err_of, dropped, crash_undone}
use Rattle.sql_base.proofs.transacting.transact.Goals as goal

pub returns-clause-ok : goal.returns-clause-ok
returns-clause-ok g c clean =
    let mid = c.run.new.tx.conn.now in
    let end = c.commit.new.self.0 in
    let late : HasCleanDisk (state g.S.Store end) = search rules in
    let wrote = rw c.transaction-tx.ensures.begun at (c.in_ok-run.ensures.made (omega (arith, c.commit.ensures.survives.clean))) in
    let it = ok_of g.S.Store g.met.S.Store.settled (g.W.UnitOfWork.makes c.args.work.now) c.args.conn.now mid end c.commit.result wrote.well (c.commit.ensures.ok late) in
    search (rules, it)

pub returns-clause-err : goal.returns-clause-err
returns-clause-err g c clean =
    let old = c.args.conn.now in
    let mid = c.run.new.tx.conn.now in
    let end = c.commit.new.self.0 in
    let late : HasCleanDisk (state g.S.Store end) = search rules in
    let wrote = rw c.transaction-tx.ensures.begun at (c.in_ok-run.ensures.made (omega (arith, c.commit.ensures.survives.clean))) in
    let settled = c.is_committed.ensures in
    let it = err_of g.S.Store g.met.S.Store.settled (g.W.UnitOfWork.makes c.args.work.now) old mid end c.commit.result settled wrote.well wrote.kept (c.commit.ensures.err late) in
    search (rules, it)

pub returns-clause-crash : goal.returns-clause-crash
returns-clause-crash g c =
    let mid = c.run.new.tx.conn.now in
    let made = λ (clean : HasCleanDisk (state g.S.Store mid)). (rw c.transaction-tx.ensures.begun at (c.in_ok-run.ensures.made clean)).well in
    let it =
    crash_of g.S.Store g.met.S.Store.settled (g.W.UnitOfWork.makes c.args.work.now) c.args.conn.now mid c.commit.new.self.0 made (rw c.transaction-tx.ensures.begun at c.run.ensures.survives) c.commit.ensures.survives
    in
    search (rules, it)

pub returns-in_err-run-clause-err : goal.returns-in_err-run-clause-err
returns-in_err-run-clause-err g c clean =
    let old = c.args.conn.now in
    let mid = c.run.new.tx.conn.now in
    let end = c.drop-tx.new.self.0 in
    let late : HasCleanDisk (state g.S.Store end) = search rules in
    let wrote = rw c.transaction-tx.ensures.begun at (c.in_err-run.ensures.made (omega (arith, c.drop-tx.ensures.survives.clean))) in
    let settled = c.is_committed.ensures in
    let it = dropped g.S.Store g.met.S.Store.settled (g.W.UnitOfWork.makes c.args.work.now) old mid end c.from_residual.result settled wrote.kept (c.drop-tx.ensures.undone late) in
    search (rules, it)

pub returns-in_err-run-clause-crash : goal.returns-in_err-run-clause-crash
returns-in_err-run-clause-crash g c =
    let mid = c.run.new.tx.conn.now in
    let before = rw c.transaction-tx.ensures.begun at c.run.ensures.survives in
    let it = crash_undone g.S.Store g.met.S.Store.settled (g.W.UnitOfWork.makes c.args.work.now) c.args.conn.now mid c.drop-tx.new.self.0 before c.drop-tx.ensures.survives in
    search (rules, it)

pub returns-clause-cause : goal.returns-clause-cause
returns-clause-cause g c explains clean =
    let old = c.args.conn.now in
    let mid = c.run.new.tx.conn.now in
    let end = c.commit.new.self.0 in
    let late : HasCleanDisk (state g.S.Store end) = search rules in
    let before = rw c.transaction-tx.ensures.begun at c.run.ensures.survives in
    let it = ended_had g.S.Store old mid end c.commit.result before.counts (c.commit.ensures.err late) in
    search (rules, it)

pub returns-in_err-run-clause-cause : goal.returns-in_err-run-clause-cause
returns-in_err-run-clause-cause g c explains clean =
    let old = c.args.conn.now in
    let mid = c.run.new.tx.conn.now in
    let end = c.drop-tx.new.self.0 in
    let late : HasCleanDisk (state g.S.Store end) = search rules in
    let early : HasCleanDisk (state g.S.Store mid) = omega (arith, c.drop-tx.ensures.survives.clean) in
    let has = rw c.transaction-tx.ensures.begun at (c.in_err-run.ensures.cause explains early) in
    let it = had g.S.Store old mid end c.in_err-run.field-0.0 c.from_residual.result c.from_residual.ensures.1 has c.drop-tx.ensures.survives.counts in
    search (rules, it)
