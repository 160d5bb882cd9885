use Rattle.std.proofs.Common.{[], arith}
use Rattle.sqlite.specs.Held.{state}
use Rattle.adoption.proofs.Settled.{not_run_kept, unchanged_kept}
use Rattle.table_reads.proofs.Causes.{passed_had}
use Rattle.adoption.proofs.Causes.{unprepared_had}
use Rattle.adoption.proofs.settling.stay_open.Goals as goal

pub returns-clause-open : goal.returns-clause-open
returns-clause-open g c clean = (c.in_ok-prepare.ensures.ok clean).1.0.is_open

pub returns-clause-looks : goal.returns-clause-looks
returns-clause-looks g c = record {
  kept = λ clean. unchanged_kept (state g.S.Store c.args.conn.now) (state g.S.Store c.prepare.new.self) c.is_committed.ensures (c.in_ok-prepare.ensures.ok clean).1;
  idle = c.prepare.ensures.mode c.requires;
  survives = c.prepare.ensures.survives;
  cause = λ clean. tt;
}

pub returns-in_err-prepare-clause-looks : goal.returns-in_err-prepare-clause-looks
returns-in_err-prepare-clause-looks g c =
    let old = state g.S.Store c.args.conn.now in
    let new = state g.S.Store c.prepare.new.self in
    let e = c.in_err-prepare.field-0.0 in
    let r = c.from_residual in
    record {
      kept = λ clean. not_run_kept old new c.is_committed.ensures _ _ (c.in_err-prepare.ensures.err clean []);
      idle = c.prepare.ensures.mode c.requires;
      survives = c.prepare.ensures.survives;
      cause = λ clean. passed_had g.S.Store old old new (omega arith) r.result e r.ensures.1 (unprepared_had g.S.Store c.args.conn.now c.prepare.new.self _ e (c.in_err-prepare.ensures.err clean []));
    }
