use Rattle.sql_base.proofs.Causing.{reports}
use Rattle.sql_base.proofs.Ending.{wrote}
use Rattle.sql_tables.specs.Opening.{AddsVersion}
use Rattle.sql_tables.specs.Texts.{add_version_text}
use Rattle.sql_tables.proofs.VersionRow.{adds_version}
use Rattle.sql_tables.proofs.opening.add_version.Goals as goal

pub returns-clause-made : goal.returns-clause-made
returns-clause-made g c clean = wrote g.S.Store AddsVersion c.args.tx.now.conn.now c.execute.new.self.conn.now add_version_text _ _ (λ count ran. adds_version _ _ count ran) c.execute.result c.execute.ensures.ended (c.execute.ensures.runs clean)

pub returns-clause-no_trace : goal.returns-clause-no_trace
returns-clause-no_trace g c = record {
  same_reference = c.execute.ensures.same_reference;
  survives = c.execute.ensures.survives;
  cause = λ clean. reports g.S.Store c.args.tx.now.conn.now c.execute.new.self.conn.now add_version_text _ c.execute.result c.execute.ensures.ended (c.execute.ensures.runs clean);
}
