-- A schema in which a table is found by its name and by its tree number.
use Rattle.std.specs.Prelude.{◌≡◌, ◌==◌, ◌^◌, nat_le, false, None, Some, find}
use Rattle.sqlite.specs.Schema.{Schema}
use Rattle.sqlite.specs.Table.{Table}
use Rattle.sqlite_schema.specs.Names.{same_name, view_named}

pub record Finds (s : Schema) (t : Table) : Type 0 where
  pub named : find (λ u. same_name u.name t.name) s.tables ≡ Some t
  pub numbered : find (λ u. u.tree == t.tree) s.tables ≡ Some t
  pub low : nat_le (2 ^ 31) t.tree ≡ false
  -- No view has this name.
  pub stored : view_named s t.name ≡ None
