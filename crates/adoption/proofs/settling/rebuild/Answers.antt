use Rattle.std.proofs.Common.{arith, refl}
use Rattle.sqlite.specs.Held.{state}
use Rattle.sqlite.specs.State.{HasCleanDisk}
use Rattle.adoption.proofs.Settled.{kept_remade, left_remade, read_whole, remade}
use Rattle.table_reads.proofs.Causes.{reports_had, plain_had}
use Rattle.adoption.proofs.settling.rebuild.Goals as goal

pub returns-clause-ok : goal.returns-clause-ok
returns-clause-ok g c clean =
    let old = state g.S.Store c.args.conn.now in
    let mid = state g.S.Store c.with_reply_bytes.new.conn in
    let early : HasCleanDisk mid = omega (arith, c.remake.ensures.crash.clean) in
    remade c.args.rows c.in-Some.whole old mid (state g.S.Store c.remake.new.conn) c.in_ok-whole.ensures.looks.kept c.is_live.ensures
    (λ read. read_whole c.args.rows old.now c.in_ok-whole.field-0 c.in-Some.whole c.in-Some.is (c.in_ok-whole.ensures.value read).1) c.remake.result early (c.remake.ensures.ok clean)

pub returns-clause-kept : goal.returns-clause-kept
returns-clause-kept g c clean =
    let old = state g.S.Store c.args.conn.now in
    let mid = state g.S.Store c.with_reply_bytes.new.conn in
    let early : HasCleanDisk mid = omega (arith, c.remake.ensures.crash.clean) in
    kept_remade c.args.rows c.in-Some.whole old mid (state g.S.Store c.remake.new.conn) c.in_ok-whole.ensures.looks.kept c.is_live.ensures
    (λ read. read_whole c.args.rows old.now c.in_ok-whole.field-0 c.in-Some.whole c.in-Some.is (c.in_ok-whole.ensures.value read).1) c.remake.result early (c.remake.ensures.err clean)

pub returns-clause-crash : goal.returns-clause-crash
returns-clause-crash g c =
    let old = state g.S.Store c.args.conn.now in
    left_remade c.args.rows c.in-Some.whole old (state g.S.Store c.with_reply_bytes.new.conn) (state g.S.Store c.remake.new.conn) c.in_ok-whole.ensures.looks.kept c.is_live.ensures
    (λ read. read_whole c.args.rows old.now c.in_ok-whole.field-0 c.in-Some.whole c.in-Some.is (c.in_ok-whole.ensures.value read).1) c.in_ok-whole.ensures.looks.survives c.remake.ensures.crash

pub returns-in_default-clause-cause : goal.returns-in_default-clause-cause
returns-in_default-clause-cause g c clean = plain_had g.S.Store (state g.S.Store c.args.conn.now) c.with_reply_bytes.new.conn _ refl

pub returns-clause-cause : goal.returns-clause-cause
returns-clause-cause g c clean =
    reports_had g.S.Store (state g.S.Store c.args.conn.now) (state g.S.Store c.with_reply_bytes.new.conn) (state g.S.Store c.remake.new.conn) c.with_reply_bytes.ensures.looks.survives.counts c.remake.result (c.remake.ensures.cause clean)
