-- The databases that are opened, and the result.
use Rattle.sqlite.specs.Effect.{Database}
use Rattle.job_facts.specs.Contents.{AreSound, Contents}
use Rattle.table_rows.specs.Tables.{Tables}
use Rattle.image_laws.specs.Image.{image}
use Rattle.sql_tables.specs.declared.versions.Version.{Version}
use Rattle.sql_rows.specs.Image.{IsImage}
use Rattle.table_reads.specs.Holding.{HoldsRows}
use Rattle.examination.specs.declared.finding.ExaminedRows.{ExaminedRows}
use Rattle.adoption.specs.Reading.{IsReading}

-- The rows that were read are in the tables of the current schema.
abbrev pub Settles : ExaminedRows → Database → Database → Type 0
Settles read old new = (t : Tables) → IsReading t old read → IsImage t new

-- The rows of sound contents, in the tables of some schema version, are in the tables of the
-- current schema.
pub record Adopts (old new : Database) : Type 0 where
  pub version : Version
  pub contents : Contents
  pub sound : AreSound contents
  pub held : HoldsRows version (image contents) old
  pub stands : IsImage (image contents) new
