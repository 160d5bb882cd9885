-- The causes for refusing a database.
use Rattle.sqlite.specs.Effect.{Database}
use Rattle.table_rows.specs.Tables.{Tables}
use Rattle.audit_order.specs.Order.{AreSorted}
use Rattle.audit_rows.specs.Rules.{FailsFirst, rules}
use Rattle.sql_tables.specs.Alike.{HasExactly}
use Rattle.sql_tables.specs.Versions.{schema_of}
use Rattle.sql_tables.specs.declared.versions.Version.{Version}
use Rattle.table_reads.specs.Holding.{HoldsRows, IsOfVersion, SaysVersion}
use Rattle.table_reads.specs.Reading.{HoldsNoneOf}
use Rattle.examination.specs.Differences.{Differs, nearest}
use Rattle.examination.specs.declared.damage.Damage.{Damage}
use Rattle.examination.specs.declared.damage.Damage.TheVariants.{Broken, UnreadableRow}
use Rattle.examination.specs.declared.difference.Difference.{Difference}
use Rattle.examination.specs.declared.difference.Difference.TheVariants.{OtherVersion}

-- ---- the tables aren't the tables of any schema version

abbrev pub IsNotOurs : Database → Type 0
IsNotOurs db = (v : Version) → ¬ IsOfVersion v db

-- Only the row of `version` is wrong, or `difference` is a difference from the tables of the
-- nearest version.
abbrev pub SaysHow : Database → Difference → Type 0
SaysHow db OtherVersion = (v : Version) × HasExactly db.schema (schema_of v) × ¬ SaysVersion v db
SaysHow db difference = Differs (schema_of (nearest db.schema)) db.schema difference

-- ---- the rows aren't the rows of sound contents

-- A row doesn't have the shape of its table, or `rule` is the first audit rule that the rows break.
abbrev pub SaysWhat : Database → Damage → Type 0
SaysWhat db UnreadableRow = (v : Version) × IsOfVersion v db × HoldsNoneOf v db
SaysWhat db (Broken rule) = (v : Version) × ((t : Tables) × HoldsRows v t db × AreSorted t × FailsFirst rules t rule)
