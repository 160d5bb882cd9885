-- The tables of the current schema are found in that schema.
use Rattle.std.specs.List.{AllByRecursion}
use Rattle.sqlite_schema.specs.Names.{same_name}
use Rattle.sql_tables.specs.Finds.{Finds}
use Rattle.sql_tables.specs.Tables.{our_schema}

pub all_found : AllByRecursion (Finds our_schema) our_schema.tables
unfolding same_name
all_found = assumption
