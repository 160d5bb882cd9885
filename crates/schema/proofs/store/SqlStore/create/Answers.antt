use Rattle.std.proofs.Common.{sym, ◌∙◌}
use Rattle.sqlite.specs.Held.{state}
use Rattle.adoption.proofs.Causes.{caused}
use Rattle.schema.proofs.Founding.{before_or_nothing, holds_nothing, left_made, only_nothing}
use Rattle.schema.proofs.Knowing.{knows_created}
use Rattle.schema.proofs.Left.{created_at, failed_create}
use Rattle.schema.proofs.store.SqlStore.create.Goals as goal

pub invariant_of-result : goal.invariant_of-result
invariant_of-result g c =
    let none = sym c.schema.ensures.value ∙ c.is_empty.ensures.0 c.if-not-is_empty.false in
    record {
      idle = c.make_tables.ensures.idle;
      knows = knows_created (state g.S.Store c.args.conn) (state g.S.Store c.make_tables.new.conn) c.new.result c.new.ensures none c.in-Ok.ensures.ok;
    }

pub returns-in-Ok-clause-holds : goal.returns-in-Ok-clause-holds
returns-in-Ok-clause-holds g c clean =
    let none = sym c.schema.ensures.value ∙ c.is_empty.ensures.0 c.if-not-is_empty.false in
    holds_nothing (state g.S.Store c.args.conn) (state g.S.Store c.make_tables.new.conn) (none, c.in-Ok.ensures.ok clean)

pub returns-in-Ok-clause-crash : goal.returns-in-Ok-clause-crash
returns-in-Ok-clause-crash g c clean d left =
    let none = sym c.schema.ensures.value ∙ c.is_empty.ensures.0 c.if-not-is_empty.false in
    only_nothing c.same_rows_same_contents.ensures (state g.S.Store c.args.conn) (state g.S.Store c.make_tables.new.conn) d left (none, c.in-Ok.ensures.ok clean)

pub returns-in-Err-clause-late : goal.returns-in-Err-clause-late
returns-in-Err-clause-late g c clean d left =
    let old = state g.S.Store c.args.conn in
    let new = state g.S.Store c.make_tables.new.conn in
    let none = sym c.schema.ensures.value ∙ c.is_empty.ensures.0 c.if-not-is_empty.false in
    before_or_nothing c.same_rows_same_contents.ensures old new d left (left_made old new none c.make_tables.ensures.crash clean left.0 left.1)

pub returns-in-Ok-clause-open : goal.returns-in-Ok-clause-open
returns-in-Ok-clause-open g c clean = (c.in-Ok.ensures.ok clean).is_open

pub returns-in-Ok-clause-takes : goal.returns-in-Ok-clause-takes
returns-in-Ok-clause-takes g c clean =
    let old = state g.S.Store c.args.conn in
    let new = state g.S.Store c.make_tables.new.conn in
    let none = sym c.schema.ensures.value ∙ c.is_empty.ensures.0 c.if-not-is_empty.false in
    created_at old new c.is_live.ensures (c.in-Ok.ensures.ok clean).was_open none
    (record { holds = holds_nothing old new (none, c.in-Ok.ensures.ok clean); crash = returns-in-Ok-clause-crash g c clean })

pub returns-in-Err-clause-leaves : goal.returns-in-Err-clause-leaves
returns-in-Err-clause-leaves g c clean is_open empty d left =
    failed_create g.S.Store g.met.S.Store.settled c.args.conn is_open c.is_committed.ensures c.is_live.ensures empty d (returns-in-Err-clause-late g c clean d left)

pub returns-in-Err-clause-cause : goal.returns-in-Err-clause-cause
returns-in-Err-clause-cause g c clean own reported =
    caused g.S.Store (state g.S.Store c.args.conn) (state g.S.Store c.make_tables.new.conn) c.in-Err.error c.from.result own c.from.ensures reported (c.in-Err.ensures.cause clean)

pub returns-in-Err-clause-no_difference : goal.returns-in-Err-clause-no_difference
returns-in-Err-clause-no_difference g c d is = absurd (cc (c.from.ensures, is))

pub returns-in-Err-clause-unread : goal.returns-in-Err-clause-unread
returns-in-Err-clause-unread g c d is = absurd (cc (c.from.ensures, is))
