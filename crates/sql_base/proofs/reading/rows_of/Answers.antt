use Rattle.std.proofs.Common.{◌≡◌, true, Err, IfErr, subst, refl, rules, arith}
use Rattle.sqlite.specs.State.{HasCleanDisk}
use Rattle.sqlite.specs.declared.error.Error.{Error}
use Rattle.sqlite.specs.declared.error.Error.TheVariants.{InvalidQuery}
use Rattle.sqlite.specs.Held.{state}
use Rattle.sqlite.specs.Values.{bound}
use Rattle.sql_base.specs.Causes.{HadCause}
use Rattle.sql_base.specs.Ends.{IsKept}
use Rattle.sql_base.proofs.Causing.{queried_had}
use Rattle.sql_base.proofs.Ending.{dropped}
use Rattle.sql_base.proofs.Selecting.{if_ok}
use Rattle.sql_base.proofs.Querying.{queried_keeps}
use Rattle.sql_base.proofs.reading.rows_of.Goals as goal

pub returns-clause-shown : goal.returns-clause-shown
returns-clause-shown g c clean =
    let mid = c.query_all.new.self.conn.now in
    let end = c.drop-tx.new.self.0 in
    let same : end ≡ c.conn-1.given.0 = search rules in
    let late : HasCleanDisk (state g.S.Store end) = search rules in
    let ok = rw c.transaction-tx.ensures.begun at (c.query_all.ensures.ok (omega (arith, c.drop-tx.ensures.survives.clean))) in
    if_ok c.query_all.result _ _ (λ rows h. (mid, h)) ok

pub returns-clause-kept : goal.returns-clause-kept
returns-clause-kept g c clean =
    let old = c.args.conn.now in
    let mid = c.query_all.new.self.conn.now in
    let end = c.drop-tx.new.self.0 in
    let same : end ≡ c.conn-1.given.0 = search rules in
    let late : HasCleanDisk (state g.S.Store end) = search rules in
    let early : HasCleanDisk (state g.S.Store mid) = omega (arith, c.drop-tx.ensures.survives.clean) in
    let ok = rw c.transaction-tx.ensures.begun at (c.query_all.ensures.ok early) in
    let err = rw c.transaction-tx.ensures.begun at (c.query_all.ensures.err early) in
    let keeps = queried_keeps (state g.S.Store (record old { in_transaction = true })) (state g.S.Store mid) refl c.args.sql.now (bound c.args.params.now) c.query_all.result ok err in
    let settled = c.is_committed.ensures in
    let none : Rattle.std.proofs.Common.Result (Unit {0}) Error = Err InvalidQuery in
    subst (λ h. IsKept (state g.S.Store old) (state g.S.Store h)) same
    (dropped g.S.Store g.met.S.Store.settled (λ a b. a ≡ b) old mid end none settled keeps (c.drop-tx.ensures.undone late))

pub returns-clause-cause : goal.returns-clause-cause
returns-clause-cause g c clean =
    let old = c.args.conn.now in
    let mid = c.query_all.new.self.conn.now in
    let end = c.drop-tx.new.self.0 in
    let same : end ≡ c.conn-1.given.0 = search rules in
    let late : HasCleanDisk (state g.S.Store end) = search rules in
    let early : HasCleanDisk (state g.S.Store mid) = omega (arith, c.drop-tx.ensures.survives.clean) in
    let begun = record old { in_transaction = true } in
    let err = rw c.transaction-tx.ensures.begun at (c.query_all.ensures.err early) in
    let it = queried_had g.S.Store begun mid end c.args.sql.now (bound c.args.params.now) c.query_all.result err c.drop-tx.ensures.survives.counts in
    subst (λ h. IfErr c.query_all.result (HadCause g.S.Store (state g.S.Store old) (state g.S.Store h))) same it
