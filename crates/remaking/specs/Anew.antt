-- The tables of any schema version are dropped, and the tables of the current schema are created.
use Rattle.std.specs.Prelude.{◌≡◌}
use Rattle.sqlite.specs.Effect.{Database, IsDatabase}
use Rattle.sql_base.specs.Columns.{no_schema}
use Rattle.sql_tables.specs.Alike.{HasExactly}
use Rattle.sql_tables.specs.Versions.{schema_of}
use Rattle.sql_tables.specs.declared.versions.Version.{Version}
use Rattle.sql_tables.specs.Opening.{IsNewlyMade}

-- All tables of the version are dropped.
abbrev pub DropsAll : Version → Database → Database → Type 0
DropsAll version old new = IsDatabase old → HasExactly old.schema (schema_of version) → new.schema ≡ no_schema

-- The database has the tables of the current schema, which are empty except for the row of
-- `version`.
abbrev pub MakesAnew : Version → Database → Database → Type 0
MakesAnew version old new = IsDatabase old → HasExactly old.schema (schema_of version) → IsNewlyMade new
