use Rattle.std.proofs.Common.{Option, Some, None, subst, sym}
use Rattle.std.specs.Prelude.{MatchOption, option_map}
use Rattle.sqlite.specs.Effect.{Database}
use Rattle.sqlite.specs.Held.{state}
use Rattle.sql_tables.specs.Alike.{HasExactly}
use Rattle.sql_tables.specs.Versions.{schema_of}
use Rattle.sql_tables.specs.declared.versions.Version.{Version}
use Rattle.sql_tables.specs.declared.versions.VersionMatch.{VersionMatch}
use Rattle.over_tables.specs.Opens.{HasTablesOf}
use Rattle.over_tables.proofs.opening.older_version.Goals as goal

tables_of :
    (db : Database) (found : Option VersionMatch) → MatchOption found ((v : Version) → ¬ HasExactly db.schema (schema_of v)) (λ (m : VersionMatch). HasExactly db.schema (schema_of m.version)) → HasTablesOf db (option_map (λ (m : VersionMatch). m.version) found)
tables_of db None is = is
tables_of db (Some m) is = is

pub returns-in-Ok-clause-exact : goal.returns-in-Ok-clause-exact
returns-in-Ok-clause-exact g c =
    let db = (state g.S.Store c.args.conn.now).now in
    (c.version_of.result, subst (HasTablesOf db) (sym c.version_of.ensures) (tables_of db c.in-Ok.found c.in-Ok.ensures.exact), c.older_number.ensures)

pub returns-in-Err-clause-failed : goal.returns-in-Err-clause-failed
returns-in-Err-clause-failed g c = (c.fault_of.result, c.from.ensures)
