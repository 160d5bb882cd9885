use Rattle.sql_base.specs.Making.{MakesIndex, MakesTable}
use Rattle.sql_base.proofs.Causing.{reports}
use Rattle.sql_base.proofs.Creating.{creates, indexes}
use Rattle.sql_base.proofs.Ending.{wrote}
use Rattle.sql_base.proofs.making.make.Goals as goal

pub returns-clause-made : goal.returns-clause-made
returns-clause-made g c clean = wrote g.S.Store (MakesTable c.args.sql.now) c.args.tx.now.conn.now c.execute.new.self.conn.now c.args.sql.now _ _ (λ count ran. creates c.args.sql.now _ _ count ran) c.execute.result c.execute.ensures.ended (c.execute.ensures.runs clean)

pub returns-clause-indexed : goal.returns-clause-indexed
returns-clause-indexed g c clean = wrote g.S.Store (MakesIndex c.args.sql.now) c.args.tx.now.conn.now c.execute.new.self.conn.now c.args.sql.now _ _ (λ count ran. indexes c.args.sql.now _ _ count ran) c.execute.result c.execute.ensures.ended (c.execute.ensures.runs clean)

pub returns-clause-cause : goal.returns-clause-cause
returns-clause-cause g c clean = reports g.S.Store c.args.tx.now.conn.now c.execute.new.self.conn.now c.args.sql.now _ c.execute.result c.execute.ensures.ended (c.execute.ensures.runs clean)
