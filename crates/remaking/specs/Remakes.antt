-- The effect of rebuilding a database.
use Rattle.sqlite.specs.Effect.{Database, IsDatabase}
use Rattle.sql_tables.specs.Alike.{HasExactly}
use Rattle.sql_tables.specs.Versions.{schema_of}
use Rattle.sql_tables.specs.declared.versions.Version.{Version}
use Rattle.sql_rows.specs.Image.{IsImage}
use Rattle.table_rows.specs.Tables.{Tables}

-- A database that has exactly the tables of `version` gets the tables of the current schema, with
-- the rows `t`.
abbrev pub Remakes : Version → Tables → Database → Database → Type 0
Remakes version t old new = IsDatabase old → HasExactly old.schema (schema_of version) → IsImage t new
