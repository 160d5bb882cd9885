-- The version of a database.
use Rattle.std.specs.Prelude.{◌≡◌, ◌↔◌, IsTrue}
use Rattle.sqlite.specs.Effect.{Database}
use Rattle.sql_tables.specs.Ours.{AreThere}
use Rattle.sql_tables.specs.Tables.{our_schema}
use Rattle.sql_tables.specs.Versions.{schema_of}
use Rattle.table_reads.specs.Holding.{IsOfVersion}
use Rattle.examination.specs.Causes.{IsNotOurs, SaysHow}
use Rattle.examination.specs.declared.finding.SchemaMatch.{SchemaMatch}
use Rattle.examination.specs.declared.finding.SchemaMatch.TheVariants.{NotOurs, Ours}

abbrev pub IsSchemaMatch : Database → SchemaMatch → Type 0
IsSchemaMatch db (Ours m) = IsOfVersion m.version db × AreThere db.schema (schema_of m.version).tables × (IsTrue m.is_exact ↔ (db.schema ≡ our_schema))
IsSchemaMatch db (NotOurs difference) = IsNotOurs db × SaysHow db difference
