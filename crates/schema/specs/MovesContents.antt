-- The effect of a commit on a database that has the rows of some contents.
use Rattle.sqlite.specs.Effect.{Database}
use Rattle.job_facts.specs.Contents.{AreSound, Contents}
use Rattle.image_laws.specs.Image.{image}
use Rattle.sql_rows.specs.Image.{IsImage}

-- If the old database has the rows of any sound contents `c` that satisfy `Owed`, the new database
-- has the rows of `after c`.
abbrev pub MovesContents : (Contents → Type 0) → (Contents → Contents) → Database → Database → Type 0
MovesContents Owed after old new = (c : Contents) → AreSound c → Owed c → IsImage (image c) old → IsImage (image (after c)) new
