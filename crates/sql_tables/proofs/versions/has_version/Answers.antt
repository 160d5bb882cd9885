use Rattle.std.proofs.Common.{◌↔◌, IsTrue, subst}
use Rattle.sqlite.specs.Held.{state}
use Rattle.sql_tables.specs.Alike.{HasExactly}
use Rattle.sql_tables.specs.Ours.{AreThere}
use Rattle.sql_tables.proofs.versions.has_version.Goals as goal

pub returns-clause-exact : goal.returns-clause-exact
returns-clause-exact g c =
    let s = (state g.S.Store c.args.conn.now).now.schema in
    subst (λ ours. IsTrue c.has_tables.result ↔ HasExactly s ours) c.in_ok-ours.ensures c.has_tables.ensures.exact

pub returns-clause-there : goal.returns-clause-there
returns-clause-there g c live is =
    let s = (state g.S.Store c.args.conn.now).now.schema in
    subst (λ ours. AreThere s ours.tables) c.in_ok-ours.ensures (c.has_tables.ensures.there live is)
