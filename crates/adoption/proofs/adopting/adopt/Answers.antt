use Rattle.std.proofs.Common.{◌≡◌, ◌≢◌, arith, sym}
use Rattle.sqlite.specs.Held.{state}
use Rattle.sqlite.specs.State.{HasCleanDisk}
use Rattle.job_facts.specs.declared.store.StoreFault.{StoreFault}
use Rattle.adoption.specs.Adopts.{Settles}
use Rattle.adoption.specs.Causes.{IsCaused}
use Rattle.examination.specs.declared.damage.Damage.{Damage}
use Rattle.examination.specs.declared.difference.Difference.{Difference}
use Rattle.adoption.specs.Faults.{fault_for}
use Rattle.adoption.specs.declared.faults.OpenFault.TheVariants.{Damaged, NotEmpty, NotOurs, Store}
use Rattle.adoption.proofs.Answered.{AreDamaged, AreOthers, found_caused, found_damaged, found_existing, found_not_ours, found_sound, passed}
use Rattle.adoption.proofs.Taken.{leaves_as_read, left_taken, taken}
use Rattle.adoption.proofs.Unwritten.{leaves_then}
use Rattle.table_reads.proofs.Causes.{had_since}
use Rattle.adoption.proofs.Causes.{passed_fault}
use Rattle.adoption.proofs.adopting.adopt.Goals as goal

pub returns-in_err-rows-clause-cause : goal.returns-in_err-rows-clause-cause
returns-in_err-rows-clause-cause g c clean =
    let old = state g.S.Store c.args.conn.now in
    let mid = state g.S.Store c.examine.new.conn in
    let f = c.in_err-rows.field-0.0 in
    let r = c.from_residual in
    passed (λ f. (own : StoreFault) → f ≡ Store own → IsCaused g.S.Store old mid own) r.result f r.ensures.1
    (found_caused g.S.Store old mid c.examine.result f (sym c.in_err-rows.ensures) (c.examine.ensures.looks.cause clean))

pub returns-in_err-rows-clause-not_ours : goal.returns-in_err-rows-clause-not_ours
returns-in_err-rows-clause-not_ours g c clean =
    let db = (state g.S.Store c.args.conn.now).now in
    let f = c.in_err-rows.field-0.0 in
    let r = c.from_residual in
    passed (λ f. (d : Difference) → f ≡ NotOurs d → AreOthers db d) r.result f r.ensures.1 (found_not_ours db c.examine.result f (sym c.in_err-rows.ensures) (c.examine.ensures.value clean))

pub returns-in_err-rows-clause-damaged : goal.returns-in_err-rows-clause-damaged
returns-in_err-rows-clause-damaged g c clean =
    let db = (state g.S.Store c.args.conn.now).now in
    let f = c.in_err-rows.field-0.0 in
    let r = c.from_residual in
    passed (λ f. (d : Damage) → f ≡ Damaged d → AreDamaged db d) r.result f r.ensures.1 (found_damaged db c.examine.result f (sym c.in_err-rows.ensures) (c.examine.ensures.value clean))

pub returns-in_err-rows-clause-existing : goal.returns-in_err-rows-clause-existing
returns-in_err-rows-clause-existing g c =
    let f = c.in_err-rows.field-0.0 in
    let r = c.from_residual in
    passed (λ f. f ≢ NotEmpty) r.result f r.ensures.1 (found_existing c.examine.result f (sym c.in_err-rows.ensures))

pub returns-in_err-settle-clause-not_ours : goal.returns-in_err-settle-clause-not_ours
returns-in_err-settle-clause-not_ours g c clean =
    let db = (state g.S.Store c.args.conn.now).now in
    let r = c.from_residual-in_err-settle in
    passed (λ f. (d : Difference) → f ≡ NotOurs d → AreOthers db d) r.result (Store (fault_for c.in_err-settle.field-0.0)) r.ensures.1 (λ d same. absurd (cc same))

pub returns-in_err-settle-clause-damaged : goal.returns-in_err-settle-clause-damaged
returns-in_err-settle-clause-damaged g c clean =
    let db = (state g.S.Store c.args.conn.now).now in
    let r = c.from_residual-in_err-settle in
    passed (λ f. (d : Damage) → f ≡ Damaged d → AreDamaged db d) r.result (Store (fault_for c.in_err-settle.field-0.0)) r.ensures.1 (λ d same. absurd (cc same))

pub returns-in_err-settle-clause-existing : goal.returns-in_err-settle-clause-existing
returns-in_err-settle-clause-existing g c =
    let r = c.from_residual-in_err-settle in
    passed (λ f. f ≢ NotEmpty) r.result (Store (fault_for c.in_err-settle.field-0.0)) r.ensures.1 (λ same. absurd (cc same))

pub returns-in_err-settle-clause-unchanged : goal.returns-in_err-settle-clause-unchanged
returns-in_err-settle-clause-unchanged g c =
    let rows = c.in_ok-rows.rows in
    let old = state g.S.Store c.args.conn.now in
    let mid = state g.S.Store c.examine.new.conn in
    let new = state g.S.Store c.settle.new.conn in
    leaves_then (Settles rows) old mid new c.examine.ensures.looks.kept c.examine.ensures.looks.survives c.settle.result c.settle.ensures.ok c.settle.ensures.kept c.settle.ensures.crash
    (leaves_as_read c.rows_are_held_in_any_order.ensures rows old mid new c.examine.ensures.looks.kept (λ read. found_sound old.now c.examine.result rows (sym c.in_ok-rows.ensures) (c.examine.ensures.value read))
    c.settle.ensures.unchanged)

pub returns-in_err-settle-clause-crash : goal.returns-in_err-settle-clause-crash
returns-in_err-settle-clause-crash g c =
    let rows = c.in_ok-rows.rows in
    let old = state g.S.Store c.args.conn.now in
    left_taken c.rows_are_held_in_any_order.ensures rows old (state g.S.Store c.examine.new.conn) (state g.S.Store c.settle.new.conn) c.examine.ensures.looks.kept
    (λ read. found_sound old.now c.examine.result rows (sym c.in_ok-rows.ensures) (c.examine.ensures.value read)) c.examine.ensures.looks.survives c.settle.ensures.crash

pub returns-in_err-settle-clause-cause : goal.returns-in_err-settle-clause-cause
returns-in_err-settle-clause-cause g c clean =
    let old = state g.S.Store c.args.conn.now in
    let mid = state g.S.Store c.examine.new.conn in
    let new = state g.S.Store c.settle.new.conn in
    let e = c.in_err-settle.field-0.0 in
    let r = c.from_residual-in_err-settle in
    passed_fault g.S.Store old new r.result e r.ensures.1 (had_since g.S.Store old mid new c.examine.ensures.looks.survives.counts e (c.in_err-settle.ensures.cause clean))

pub returns-clause-ok : goal.returns-clause-ok
returns-clause-ok g c clean =
    let rows = c.in_ok-rows.rows in
    let old = state g.S.Store c.args.conn.now in
    let mid = state g.S.Store c.examine.new.conn in
    let early : HasCleanDisk mid = omega (arith, c.settle.ensures.crash.clean) in
    taken c.rows_are_held_in_any_order.ensures rows old mid (state g.S.Store c.settle.new.conn) c.examine.ensures.looks.kept
    (λ read. found_sound old.now c.examine.result rows (sym c.in_ok-rows.ensures) (c.examine.ensures.value read)) early (c.in_ok-settle.ensures.ok clean)

pub returns-clause-unchanged : goal.returns-clause-unchanged
returns-clause-unchanged g c =
    let rows = c.in_ok-rows.rows in
    let old = state g.S.Store c.args.conn.now in
    let mid = state g.S.Store c.examine.new.conn in
    let new = state g.S.Store c.settle.new.conn in
    leaves_then (Settles rows) old mid new c.examine.ensures.looks.kept c.examine.ensures.looks.survives c.settle.result c.settle.ensures.ok c.settle.ensures.kept c.settle.ensures.crash
    (leaves_as_read c.rows_are_held_in_any_order.ensures rows old mid new c.examine.ensures.looks.kept (λ read. found_sound old.now c.examine.result rows (sym c.in_ok-rows.ensures) (c.examine.ensures.value read))
    c.settle.ensures.unchanged)

pub returns-clause-crash : goal.returns-clause-crash
returns-clause-crash g c =
    let rows = c.in_ok-rows.rows in
    let old = state g.S.Store c.args.conn.now in
    left_taken c.rows_are_held_in_any_order.ensures rows old (state g.S.Store c.examine.new.conn) (state g.S.Store c.settle.new.conn) c.examine.ensures.looks.kept
    (λ read. found_sound old.now c.examine.result rows (sym c.in_ok-rows.ensures) (c.examine.ensures.value read)) c.examine.ensures.looks.survives c.settle.ensures.crash
