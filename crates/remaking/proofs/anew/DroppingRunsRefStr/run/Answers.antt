use Rattle.sql_base.proofs.Causing.{reports}
use Rattle.sql_base.proofs.Ending.{wrote}
use Rattle.remaking.specs.Drop.{DropsTable}
use Rattle.remaking.proofs.Drop.{drops}
use Rattle.remaking.proofs.anew.DroppingRunsRefStr.run.Goals as goal

pub returns-clause-made : goal.returns-clause-made
returns-clause-made g c clean =
    wrote g.S.Store (DropsTable c.args.text.now.now) c.args.tx.now.conn.now c.execute.new.self.conn.now c.args.text.now.now _ _ (λ count ran. drops c.args.text.now.now _ _ count ran) c.execute.result c.execute.ensures.ended
    (c.execute.ensures.runs clean)

pub returns-clause-cause : goal.returns-clause-cause
returns-clause-cause g c explains clean = reports g.S.Store c.args.tx.now.conn.now c.execute.new.self.conn.now c.args.text.now.now _ c.execute.result c.execute.ensures.ended (c.execute.ensures.runs clean)
