use Rattle.sqlite.specs.Held.{state}
use Rattle.sql_tables.proofs.EachLemmas.{all_wrote}
use Rattle.remaking.specs.Anew.{DropsAll}
use Rattle.remaking.specs.Drop.{DropsTable}
use Rattle.remaking.proofs.DropAll.{all_dropped, some_dropped}
use Rattle.remaking.proofs.anew.drop_all.Goals as goal

pub returns-clause-made : goal.returns-clause-made
returns-clause-made g c clean =
    let v = c.args.version in
    let a = state g.S.Store c.args.tx.now.conn.now in
    let b = state g.S.Store c.run_both.new.tx.conn.now in
    all_wrote (λ text. text.now) DropsTable (DropsAll v) _ _ a b c.run_both.result c.drops_of.ensures (some_dropped v) (all_dropped v a.now b.now) (c.run_both.ensures.made clean)

pub returns-clause-no_trace : goal.returns-clause-no_trace
returns-clause-no_trace g c = record {
  same_reference = c.run_both.ensures.same_reference;
  survives = c.run_both.ensures.survives;
  cause = c.run_both.ensures.cause tt;
}
