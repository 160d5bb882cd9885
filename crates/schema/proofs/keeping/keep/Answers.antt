use Rattle.std.proofs.Common.{Result, Ok, arith}
use Rattle.sqlite.specs.Held.{state}
use Rattle.sqlite.specs.declared.error.Error.{Error}
use Rattle.job_facts.specs.Kept.{kept_reply}
use Rattle.store_reads.proofs.Knowing.{knows_after}
use Rattle.schema.proofs.Knowing.{knows_made, knows_unmade}
use Rattle.schema.proofs.Taking.{change_ends, change_left}
use Rattle.schema.proofs.keeping.keep.Goals as goal

-- ---- the commit succeeds

pub returns-in_ok-commit-in-Ok-clause-ok : goal.returns-in_ok-commit-in-Ok-clause-ok
returns-in_ok-commit-in-Ok-clause-ok g c clean =
    let looks = c.writing_of.ensures.looks in
    let done : Result (Unit {0}) Error = Ok tt in
    change_ends c.rows_with_reply.ensures c.rows_after_change.ensures c.args.change.now c.in-Ok.writing (kept_reply c.args.entry.now)
    (state g.S.Store c.args.conn.now) (state g.S.Store c.writing_of.new.conn) (state g.S.Store c.commit.new.conn) looks.kept looks.survives
    (λ early live d sound owed holds. c.in-Ok.ensures.value early live d sound holds owed.keeps) done (omega (arith, c.commit.ensures.crash.clean)) (c.in_ok-commit-in-Ok.ensures.ok clean)

pub returns-in_ok-commit-in-Ok-clause-crash : goal.returns-in_ok-commit-in-Ok-clause-crash
returns-in_ok-commit-in-Ok-clause-crash g c =
    let looks = c.writing_of.ensures.looks in
    change_left c.rows_with_reply.ensures c.rows_after_change.ensures c.args.change.now c.in-Ok.writing (kept_reply c.args.entry.now)
    (state g.S.Store c.args.conn.now) (state g.S.Store c.writing_of.new.conn) (state g.S.Store c.commit.new.conn) looks.kept looks.survives
    (λ early live d sound owed holds. c.in-Ok.ensures.value early live d sound holds owed.keeps) c.commit.ensures.crash

pub returns-in_ok-commit-in-Ok-clause-knows : goal.returns-in_ok-commit-in-Ok-clause-knows
returns-in_ok-commit-in-Ok-clause-knows g c =
    let kept = kept_reply c.args.entry.now in
    let old = state g.S.Store c.args.conn.now in
    let mid = state g.S.Store c.writing_of.new.conn in
    knows_made c.in-Ok.writing kept mid (state g.S.Store c.commit.new.conn) c.args.known.now c.note_counters.new.known (knows_after old mid c.args.known.now c.writing_of.ensures.looks c.requires.knows)
    (λ clean. omega (arith, clean, c.commit.ensures.crash.clean)) (λ t known. c.note_counters.ensures t kept (c.forget_for.ensures.after t kept known)) c.in_ok-commit-in-Ok.ensures.ok

-- ---- the commit fails

pub returns-in_err-commit-in-Ok-clause-crash : goal.returns-in_err-commit-in-Ok-clause-crash
returns-in_err-commit-in-Ok-clause-crash g c =
    let looks = c.writing_of.ensures.looks in
    change_left c.rows_with_reply.ensures c.rows_after_change.ensures c.args.change.now c.in-Ok.writing (kept_reply c.args.entry.now)
    (state g.S.Store c.args.conn.now) (state g.S.Store c.writing_of.new.conn) (state g.S.Store c.commit.new.conn) looks.kept looks.survives
    (λ early live d sound owed holds. c.in-Ok.ensures.value early live d sound holds owed.keeps) c.commit.ensures.crash

pub returns-in_err-commit-in-Ok-clause-knows : goal.returns-in_err-commit-in-Ok-clause-knows
returns-in_err-commit-in-Ok-clause-knows g c =
    let kept = kept_reply c.args.entry.now in
    let old = state g.S.Store c.args.conn.now in
    let mid = state g.S.Store c.writing_of.new.conn in
    knows_unmade c.in-Ok.writing kept mid (state g.S.Store c.commit.new.conn) c.args.known.now c.forget_for.new.self (knows_after old mid c.args.known.now c.writing_of.ensures.looks c.requires.knows)
    (λ clean. omega (arith, clean, c.commit.ensures.crash.clean)) c.forget_for.ensures.before c.in_err-commit-in-Ok.ensures.err

pub returns-in-Err-clause-knows : goal.returns-in-Err-clause-knows
returns-in-Err-clause-knows g c =
    knows_after (state g.S.Store c.args.conn.now) (state g.S.Store c.writing_of.new.conn) c.args.known.now c.writing_of.ensures.looks c.requires.knows
