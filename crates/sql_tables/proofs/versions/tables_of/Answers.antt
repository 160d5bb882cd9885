use Rattle.std.proofs.Common.{◌∙◌}
use Rattle.sql_tables.proofs.versions.tables_of.Goals as goal

pub returns : goal.returns
returns c = c.in_ok-copy.ensures ∙ c.schema.ensures.value ∙ (c.in_ok-make_in_memory.ensures.made c.in_ok-conn.ensures.empty.2).schema_is
