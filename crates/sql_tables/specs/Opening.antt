-- The creation of the tables, one after the other, in the order of their texts.
use Rattle.std.specs.Prelude.{◌≡◌, ℕ, List, [], ◌∷◌, drop, pos}
use Rattle.std.specs.List.{AllByRecursion}
use Rattle.sqlite.specs.Effect.{Database, IsDatabase}
use Rattle.sqlite.specs.Order.{Row}
use Rattle.sqlite.specs.Schema.{Schema}
use Rattle.sqlite.specs.declared.types.Value.TheVariants.{Int, Null}
use Rattle.sql_base.specs.Columns.{no_schema}
use Rattle.sql_base.specs.Making.{MakesIndex, MakesTable}
use Rattle.sql_tables.specs.Tables.{our_schema}
use Rattle.sql_tables.specs.Versions.{schema_of}
use Rattle.sql_tables.specs.declared.versions.Version.{Version}

-- If the text defines a table or an index, it is created.
abbrev pub Makes : List ℕ → Database → Database → Type 0
Makes sql old new = MakesTable sql old new × MakesIndex sql old new

-- The database has the schema `schema`, and all its tables are empty.
pub record IsEmptyAt (schema : Schema) (db : Database) : Type 0 where
  pub schema_is : db.schema ≡ schema
  pub empty : AllByRecursion (λ t. db.trees t.tree ≡ []) schema.tables

-- An empty database gets the tables of `version`, without rows.
abbrev pub MakesVersion : Version → Database → Database → Type 0
MakesVersion version old new = old.schema ≡ no_schema → IsEmptyAt (schema_of version) new

-- the row of `version`, preceded by its rowid. The column `id` is an alias of the rowid, so its own
-- value is NULL.
abbrev pub version_row : Row
version_row = Int (pos 1) ∷ Null ∷ Int (pos 3) ∷ []

-- The database has the tables of the current schema, which are empty except for the row of
-- `version`.
pub record IsNewlyMade (db : Database) : Type 0 where
  pub schema_is : db.schema ≡ our_schema
  pub is_database : IsDatabase db
  pub version : db.trees 0 ≡ version_row ∷ []
  pub empty : AllByRecursion (λ t. db.trees t.tree ≡ []) (drop 1 our_schema.tables)

-- The row of `version` is added to empty tables.
abbrev pub AddsVersion : Database → Database → Type 0
AddsVersion old new = IsEmptyAt our_schema old → IsNewlyMade new

-- An empty database gets the tables of the current schema and the row of `version`.
abbrev pub MakesAll : Database → Database → Type 0
MakesAll old new = old.schema ≡ no_schema → IsNewlyMade new
