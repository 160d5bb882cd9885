use Rattle.std.proofs.Common.{subst}
use Rattle.sqlite.specs.Held.{state}
use Rattle.sql_tables.specs.Alike.{HasExactly}
use Rattle.sql_tables.proofs.Standing.{ours_in}
use Rattle.sql_tables.proofs.versions.has_tables.Goals as goal

pub returns-clause-there : goal.returns-clause-there
returns-clause-there g c live is =
    let db = (state g.S.Store c.args.conn.now).now in
    let ours = c.args.ours.now in
    let just : HasExactly c.schema.result.now ours = c.has_exactly.ensures.0 is in
    ours_in db ours (c.schema.ensures.live live).0 (subst (λ s. HasExactly s ours) c.schema.ensures.value just)
