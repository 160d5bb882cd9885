-- Tables in a schema, under any tree numbers.
use Rattle.std.specs.Prelude.{ℕ, List}
use Rattle.std.specs.List.{AllByRecursion}
use Rattle.sqlite.specs.Schema.{Schema}
use Rattle.sqlite.specs.Table.{Table}
use Rattle.sql_tables.specs.Finds.{Finds}

-- The schema `s` has the table `t` under some tree number.
pub record HasTable (s : Schema) (t : Table) : Type 0 where
  pub number : ℕ
  pub finds : Finds s (record t { tree = number })

-- The schema `s` has all these tables.
abbrev pub AreThere : Schema → List Table → Type 0
AreThere s tables = AllByRecursion (HasTable s) tables
