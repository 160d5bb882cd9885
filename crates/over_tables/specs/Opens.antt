-- When a new store is created, and the contents of an opened store (this project's profile).
use Rattle.std.specs.Prelude.{◌≡◌, ◌⊎◌, ℕ, Option, Some, None}
use Rattle.sqlite.specs.Effect.{Database}
use Rattle.job_facts.specs.Contents.{AreSound, Contents, no_contents}
use Rattle.job_facts.specs.Reopening.{OpensWith}
use Rattle.job_facts.specs.Store.{State}
use Rattle.image_laws.specs.Image.{image}
use Rattle.sql_base.specs.Columns.{no_schema}
use Rattle.sql_tables.specs.Alike.{HasExactly}
use Rattle.sql_tables.specs.Versions.{schema_of}
use Rattle.sql_tables.specs.declared.versions.Version.{Version}
use Rattle.sql_tables.specs.declared.versions.Version.TheVariants.{One, Two, Three}
use Rattle.table_reads.specs.Holding.{HoldsRows}
use Rattle.over_tables.specs.declared.opening.Wanted.{Wanted}
use Rattle.over_tables.specs.declared.opening.Wanted.TheVariants.{Any, Ours}

-- The database is empty, and `wanted` allows that.
abbrev pub Begins : Wanted → Database → Type 0
Begins Any db = db.schema ≡ no_schema
Begins Ours db = ⊥

-- The contents `c` are sound, and the database contains their rows in the tables of some schema
-- version.
abbrev pub StandsIn : Database → Contents → Type 0
StandsIn db c = AreSound c × ((v : Version) × HoldsRows v (image c) db)

-- A store over the database is opened with the contents `c`: empty contents for a new store,
-- otherwise contents whose rows the database contains.
abbrev pub IsOpenedWith : Wanted → Database → Contents → Type 0
IsOpenedWith wanted db c = (Begins wanted db × (c ≡ no_contents)) ⊎ ((¬ Begins wanted db) × StandsIn db c)

-- There are such contents, and the store is opened with them.
pub record IsOpened (wanted : Wanted) (db : Database) (store : State) : Type 0 where
  pub some : (c : Contents) × IsOpenedWith wanted db c
  pub opens : (c : Contents) → IsOpenedWith wanted db c → OpensWith store c

-- ---- older versions

-- the number of a schema version that is older than the current one
abbrev pub older_number : Option Version → Option ℕ
older_number None = None
older_number (Some One) = Some 1
older_number (Some Two) = Some 2
older_number (Some Three) = None

-- The database has the tables of this version, or of no version.
abbrev pub HasTablesOf : Database → Option Version → Type 0
HasTablesOf db None = (v : Version) → ¬ HasExactly db.schema (schema_of v)
HasTablesOf db (Some v) = HasExactly db.schema (schema_of v)

-- `older` is the number of the schema version of the database if it is older than the current one,
-- and `None` if it is the current one or if the database has the tables of no version
abbrev pub IsOlder : Database → Option ℕ → Type 0
IsOlder db older = (found : Option Version) × HasTablesOf db found × (older ≡ older_number found)
