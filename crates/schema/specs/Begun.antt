-- The databases that a crash may leave while a store is created or opened.
use Rattle.std.specs.Prelude.{◌≡◌, ◌⊎◌, Option, None, Some}
use Rattle.sqlite.specs.Effect.{Database}
use Rattle.sqlite.specs.State.{HasCleanDisk, State}
use Rattle.sqlite.specs.Tree.{Trees}
use Rattle.job_facts.specs.Contents.{Contents}
use Rattle.image_laws.specs.Image.{image}
use Rattle.sql_base.specs.Columns.{no_schema}
use Rattle.sql_base.specs.Ends.{IsLeft}
use Rattle.sql_tables.specs.declared.versions.Version.{Version}
use Rattle.table_reads.specs.Holding.{HoldsRows}
use Rattle.sql_tables.specs.Opening.{MakesAll}

-- On a correct device, a crash leaves trees that it could leave before, or, if the database was
-- empty, the trees of the newly created tables without rows.
abbrev pub LeavesNoOther : State → State → Type 0
LeavesNoOther old new = HasCleanDisk new → (trees : Trees) → new.may_leave trees → old.may_leave trees ⊎ ((old.now.schema ≡ no_schema) × IsLeft MakesAll old trees)

-- An open found contents, and the database had their rows in the tables of some schema version.
abbrev pub WasHeld : Option Contents → Database → Type 0
WasHeld None db = ⊥
WasHeld (Some c) db = (v : Version) × HoldsRows v (image c) db
