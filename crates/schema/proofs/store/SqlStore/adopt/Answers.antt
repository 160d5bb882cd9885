use Rattle.std.proofs.Common.{rules}
use Rattle.sqlite.specs.Held.{state}
use Rattle.schema.proofs.Adopting.{held_before, holds_them, leaves_them, left_late}
use Rattle.schema.proofs.Left.{adopted_at, failed_adopt, none_at}
use Rattle.schema.proofs.store.SqlStore.adopt.Goals as goal

pub returns-in-Ok : goal.returns-in-Ok
returns-in-Ok g c = record {
  taken = λ clean. held_before (state g.S.Store c.args.conn) (state g.S.Store c.adopt.new.conn) (c.in-Ok.ensures.ok clean);
  holds = λ clean. holds_them c.held_rows_are_one.ensures (state g.S.Store c.args.conn) (state g.S.Store c.adopt.new.conn) (c.in-Ok.ensures.ok clean);
  crash = λ clean. leaves_them c.same_rows_same_contents.ensures c.held_rows_are_one.ensures (state g.S.Store c.args.conn) (state g.S.Store c.adopt.new.conn) (c.in-Ok.ensures.ok clean);
  counts = search rules;
  opened = λ clean. (c.in-Ok.ensures.ok clean).is_open;
  takes = λ clean. adopted_at c.same_rows_same_contents.ensures c.held_rows_are_one.ensures (state g.S.Store c.args.conn) (state g.S.Store c.adopt.new.conn) c.is_live.ensures (c.in-Ok.ensures.ok clean);
  not_ours = tt;
  damaged = tt;
  existing = tt;
  refuses = tt;
  cause = tt;
  kept = tt;
  idle = tt;
  late = tt;
  leaves = tt;
  unchanged = c.adopt.ensures.unchanged;
  survives = c.adopt.ensures.crash;
}

pub returns-in-Err : goal.returns-in-Err
returns-in-Err g c = record {
  taken = tt;
  holds = tt;
  crash = tt;
  counts = tt;
  opened = tt;
  takes = tt;
  not_ours = λ clean. c.in-Err.ensures.not_ours clean;
  damaged = λ clean. c.in-Err.ensures.damaged clean;
  existing = c.in-Err.ensures.existing;
  refuses = λ clean is_open refusal some.
      none_at (state g.S.Store c.args.conn) _ c.is_live.ensures is_open c.in-Err.ensures.existing (λ d same. (c.in-Err.ensures.not_ours clean d same).0) (λ d same. (c.in-Err.ensures.damaged clean d same).1) refusal some;
  cause = λ clean own reported. c.in-Err.ensures.cause clean own reported;
  kept = λ clean. c.in-Err.ensures.kept clean;
  idle = c.adopt.ensures.idle;
  late = λ clean. left_late c.rows_are_held_in_any_order.ensures (state g.S.Store c.args.conn) (state g.S.Store c.adopt.new.conn) c.adopt.ensures.crash clean;
  leaves = λ clean is_open.
      failed_adopt g.S.Store g.met.S.Store.settled c.args.conn is_open c.is_committed.ensures c.is_live.ensures c.same_rows_same_contents.ensures c.held_rows_are_one.ensures
      c.rows_are_held_in_any_order.ensures (state g.S.Store c.adopt.new.conn) c.adopt.ensures.crash clean;
  unchanged = c.adopt.ensures.unchanged;
  survives = c.adopt.ensures.crash;
}
