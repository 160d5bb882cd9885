use Rattle.std.proofs.Common.{subst}
use Rattle.sqlite.specs.Held.{state}
use Rattle.sql_base.specs.Ends.{Wrote}
use Rattle.sql_rows.specs.Image.{Moves}
use Rattle.table_rows.specs.Tables.{with_remake}
use Rattle.remaking.proofs.replies.StoredRemakePut.put.Goals as goal

pub returns-clause-wrote : goal.returns-clause-wrote
returns-clause-wrote g c clean =
    subst (λ y. Wrote (Moves (with_remake y)) (state g.S.Store c.args.tx.now.conn.now) (state g.S.Store c.add_remake.new.tx.conn.now) c.add_remake.result) c.self.view_is (c.add_remake.ensures.wrote clean)

pub returns-clause-no_trace : goal.returns-clause-no_trace
returns-clause-no_trace g c = record {
  same_reference = c.add_remake.ensures.same_reference;
  survives = c.add_remake.ensures.survives;
  cause = c.add_remake.ensures.cause;
}
