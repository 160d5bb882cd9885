-- Defines when a schema has just the given tables, in any order and with any tree numbers.
use Rattle.std.specs.Prelude.{◌≡◌, ◌==◌, ◌||◌, not, false, List, [], All, Any, IsTrue}
use Rattle.std.specs.List.{AllByRecursion}
use Rattle.sqlite_catalog.specs.Change.{is_reserved}
use Rattle.sqlite_schema.specs.declared.schema.Index.{Index}
use Rattle.sqlite_schema.specs.declared.schema.Schema.{Schema}
use Rattle.sqlite_schema.specs.declared.schema.Table.{Table}
use Rattle.sqlite_trees.specs.Tree.{IsAscending}
use Rattle.sql_tables.specs.Bare.{bare}

-- The table `t` is equal to one of `others`, except for its tree number.
unfoldable pub IsOneOf : List Table → Table → Type 0
IsOneOf others t = Any (λ o. bare t ≡ bare o) others

-- Every table of `tables` is one of `others`, except for its tree number.
unfoldable pub AreAmong : List Table → List Table → Type 0
AreAmong tables others = All (IsOneOf others) tables

-- The tree number of `t` is different from the tree numbers of all `others`.
abbrev pub IsApart : Table → List Table → Type 0
IsApart t others = AllByRecursion (λ u. (t.tree == u.tree) ≡ false) others

-- All tree numbers are different.
abbrev pub AreApart : List Table → Type 0
AreApart tables = IsAscending (λ t u. (t.tree == u.tree) ≡ false) tables

-- The index isn't unique, or it belongs to a key that its table declares. SQLite reserves the names
-- of such indexes.
abbrev pub is_no_further_key : Index → Type 0
is_no_further_key i = IsTrue (not i.is_unique || is_reserved i.name)

unfoldable pub HasNoFurtherKey : List Index → Type 0
HasNoFurtherKey indexes = All is_no_further_key indexes

-- The schema `s` has exactly the tables of `ours`, in any order and with different tree numbers. It
-- has no additional key, no view and no trigger.
pub record HasExactly (s ours : Schema) : Type 0 where
  pub each : AreAmong s.tables ours.tables
  pub all : AreAmong ours.tables s.tables
  pub apart : AreApart s.tables
  pub keys : HasNoFurtherKey s.indexes
  pub views : s.views ≡ []
