-- The differences between the tables of a database and the tables of a schema version
-- (docs/TABLES.md, "Accepted tables").
use Rattle.std.specs.Prelude.{◌≡◌, ◌≢◌, ◌<◌, ◌∷◌, ◌&&◌, ◌||◌, ℕ, Bool, true, false, not, if◌then◌else◌, List, [], codes, length, slice_index_or}
use Rattle.std.specs.List.{AllWithin, list_any}
use Rattle.sqlite_schema.specs.Names.{same_name}
use Rattle.sqlite_schema.specs.declared.schema.Index.{Index}
use Rattle.sqlite_schema.specs.declared.schema.Schema.{Schema}
use Rattle.sqlite_schema.specs.declared.schema.Table.{Table}
use Rattle.sqlite_schema.specs.declared.schema.View.{View as Stored}
use Rattle.sql_base.specs.Columns.{no_schema}
use Rattle.sql_tables.specs.Alike.{AreAmong, AreApart, HasNoFurtherKey, IsOneOf, is_no_further_key}
use Rattle.sql_tables.specs.declared.versions.Version.{Version}
use Rattle.sql_tables.specs.declared.versions.Version.TheVariants.{One, Two, Three}
use Rattle.examination.specs.declared.difference.Difference.{Difference}
use Rattle.examination.specs.declared.difference.Difference.TheVariants.{Empty, Missing, Other, Foreign, FurtherKey, View, SharedPage, OtherVersion}

-- The schema has a table with this name. Case doesn't matter.
abbrev pub has_table : Schema → List ℕ → Bool
has_table s name = list_any (λ t. same_name t.name name) s.tables

-- The schema has a view with this name, or a table that is kept unchanged because it isn't
-- understood, has a trigger, or has an index that isn't understood.
abbrev pub has_view : Schema → List ℕ → Bool
has_view s name = list_any (λ v. same_name v.name name) s.views

abbrev pub is_taken : Schema → List ℕ → Bool
is_taken s name = has_table s name || has_view s name

-- the version with which a schema is compared: version 3, unless only the earlier table for
-- groupings exists
abbrev pub nearest : Schema → Version
nearest s = if has_table s (codes "grouping") && not (has_table s (codes "grouping2"))
    then (if has_table s (codes "mark") then Two else One) else Three

-- The element `x` is the first of `xs` without the property `P`.
pub record IsFirstWithout {X : Type 0} (P : X → Type 0) (xs : List X) (x : X) : Type 0 where
  pub place : ℕ
  pub within : place < length xs
  pub there : x ≡ slice_index_or xs place x
  pub before : AllWithin P xs 0 place
  pub lacks : ¬ P x

-- The schema has the tables of `ours`, and no other table.
abbrev pub HasOurs : Schema → Schema → Type 0
HasOurs ours s = AreAmong ours.tables s.tables × AreAmong s.tables ours.tables

-- the difference for a table that the schema, which isn't empty, doesn't have, depending on whether
-- something else has its name
abbrev pub Lacks : Schema → Table → Difference → Type 0
Lacks s t (Missing name) = (s ≢ no_schema) × (name.items ≡ t.name) × (is_taken s t.name ≡ false)
Lacks s t (Other name) = (s ≢ no_schema) × (name.items ≡ t.name) × (is_taken s t.name ≡ true)
Lacks s t _ = ⊥

-- the difference between a schema and `ours`; the first that applies, in this order, is reported
abbrev pub Differs : Schema → Schema → Difference → Type 0
Differs ours s Empty = s ≡ no_schema
Differs ours s (Missing name) = (t : Table) × IsFirstWithout (IsOneOf s.tables) ours.tables t × Lacks s t (Missing name)
Differs ours s (Other name) = (t : Table) × IsFirstWithout (IsOneOf s.tables) ours.tables t × Lacks s t (Other name)
Differs ours s (Foreign name) = (t : Table) × AreAmong ours.tables s.tables × IsFirstWithout (IsOneOf ours.tables) s.tables t × (name.items ≡ t.name)
Differs ours s (FurtherKey name) = (i : Index) × HasOurs ours s × IsFirstWithout is_no_further_key s.indexes i × (name.items ≡ i.name)
Differs ours s (View name) = (v : Stored) × ((more : List Stored) × HasOurs ours s × HasNoFurtherKey s.indexes × (s.views ≡ v ∷ more) × (name.items ≡ v.name))
Differs ours s SharedPage = HasOurs ours s × HasNoFurtherKey s.indexes × (s.views ≡ []) × ¬ AreApart s.tables
Differs ours s OtherVersion = ⊥
