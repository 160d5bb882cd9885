use Rattle.std.proofs.Common.{◌≡◌, IfErr, [], arith, rules, subst}
use Rattle.sqlite.specs.Given.{IsRefused}
use Rattle.sqlite.specs.Held.{state}
use Rattle.sqlite.specs.State.{CommitsShowing, HasCleanDisk, Survives}
use Rattle.sql_base.specs.Causes.{HadCause}
use Rattle.table_reads.proofs.Causes.{passed_had, passed_plain}
use Rattle.table_reads.proofs.OneByOne.{commits_nothing, had_failed, kept_at, typed_end, undone_or_same}
use Rattle.table_reads.proofs.streaming.rising.Goals as goal

pub returns-in_err-rows-clause-survives : goal.returns-in_err-rows-clause-survives
returns-in_err-rows-clause-survives g c =
    let old = state g.S.Store c.args.conn.now in
    let new = state g.S.Store c.query.follows.lender-at-none in
    let held = c.query.follows.holds-at-none in
    let kept : Survives old new (CommitsShowing c.args.sql.now [] old) = search rules in
    commits_nothing c.args.sql.now [] c.requires.query old new kept

pub returns-in_err-rows-clause-kept : goal.returns-in_err-rows-clause-kept
returns-in_err-rows-clause-kept g c clean =
    let old = state g.S.Store c.args.conn.now in
    let new = state g.S.Store c.query.follows.lender-at-none in
    let held = c.query.follows.holds-at-none in
    let refused : IsRefused g.S.Store c.args.sql.now [] c.args.conn.now c.query.result c.query.follows.lender-at-none = search rules in
    let fails = rw c.in_err-rows.was at (refused.err clean) in
    kept_at old new c.is_committed.ensures (undone_or_same c.args.sql.now [] c.requires.query old new _ fails)

pub returns-in_err-rows-clause-cause : goal.returns-in_err-rows-clause-cause
returns-in_err-rows-clause-cause g c clean =
    let old = state g.S.Store c.args.conn.now in
    let new = c.query.follows.lender-at-none in
    let held = c.query.follows.holds-at-none in
    let refused : IsRefused g.S.Store c.args.sql.now [] c.args.conn.now c.query.result new = search rules in
    let fails = rw c.in_err-rows.was at (refused.err clean) in
    let r = c.from_residual in
    passed_had g.S.Store old old (state g.S.Store new) (omega arith) r.result _ r.ensures.1 (had_failed g.S.Store c.args.sql.now [] c.args.conn.now c.args.conn.now new _ (omega arith) fails)

pub returns-in_err-row-clause-cause : goal.returns-in_err-row-clause-cause
returns-in_err-row-clause-cause g c clean =
    let old = state g.S.Store c.args.conn.now in
    let moved = c.next.follows.holds-at-none in
    let end = c.next.follows.lender-at-none.conn.now in
    let same : end ≡ c.conn-in_err-row-1.given.0 = search rules in
    let late : HasCleanDisk (state g.S.Store end) = search rules in
    let was = c.rows.invariant.given (omega (arith, moved.survives.clean)) in
    let fails = (rw c.in_err-row.was at (moved.err late)) c.args.sql.now [] was.0 was.1 in
    let r = c.from_residual-in_err-row in
    subst (λ h. IfErr r.result (HadCause g.S.Store old (state g.S.Store h))) same
    (passed_had g.S.Store old old (state g.S.Store end) (omega arith) r.result _ r.ensures.1 (had_failed g.S.Store c.args.sql.now [] c.args.conn.now c.rows.rows.conn.now end _ c.rows.invariant.survives.counts fails))

pub returns-in_default-clause-value : goal.returns-in_default-clause-value
returns-in_default-clause-value g c clean =
    let moved = c.next.follows.holds-at-none in
    let now = c.next.follows.lender-at-none.conn.now in
    let late : HasCleanDisk (state g.S.Store now) = search rules in
    let was = c.rows.invariant.given (omega (arith, moved.survives.clean)) in
    let shown = (rw (c.in_ok-row.was, c.in_default.is) at (moved.ok late)) c.args.sql.now [] was.0 was.1 in
    let live = was.2.0.was_open in
    (live, (c.is_live.ensures live).0, typed_end g.C.Conversion.gives (state g.S.Store c.args.conn.now) _ _ c.args.sql.now was.0 c.rows.so_far.values.items c.rows.so_far.last_rowid was.2 shown was.3)

pub returns-in_err-take-clause-cause : goal.returns-in_err-take-clause-cause
returns-in_err-take-clause-cause g c clean =
    let r = c.from_residual-in_err-take in
    passed_plain g.S.Store (state g.S.Store c.args.conn.now) c.conn-in_err-take-1.given.0 r.result c.in_err-take.field-0.0 r.ensures.1 c.in_err-take.ensures
