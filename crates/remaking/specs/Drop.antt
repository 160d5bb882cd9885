-- The effect of DROP TABLE on a database.
use Rattle.std.specs.Prelude.{◌≡◌, ℕ, List, [], false, Ok}
use Rattle.sqlite.specs.Change.{KeepsRows, without_table}
use Rattle.sqlite.specs.Does.{is_acted_on}
use Rattle.sqlite.specs.Effect.{Database}
use Rattle.sqlite.specs.Table.{Table}
use Rattle.sqlite_ast.specs.declared.Statement.TheVariants.{DropTable}
use Rattle.sqlite_resolve.specs.Compile.{first, is_reserved}
use Rattle.sqlite_schema.specs.declared.schema.Keys.TheVariants.{Enforced}
use Rattle.sqlite_syntax.specs.declared.statement.Parsed.{Parsed}
use Rattle.sql_tables.specs.Finds.{Finds}

-- The text is a DROP TABLE statement for the table `name`.
pub record IsDrop (sql name : List ℕ) : Type 0 where
  pub parsed : Parsed
  pub is : first sql ≡ Ok parsed
  pub statement : parsed.statement ≡ DropTable false name
  pub timeless : parsed.formats ≡ []
  pub free : is_reserved name ≡ false

-- The table and its indexes are dropped, and every other table keeps its rows.
pub record Dropped (table : Table) (old new : Database) : Type 0 where
  pub gone : new.schema ≡ without_table old.schema table.tree
  pub others : KeepsRows (without_table old.schema table.tree).tables old.trees new.trees

-- The table that the text names is dropped if no foreign key acts on it.
abbrev pub DropsTable : List ℕ → Database → Database → Type 0
DropsTable sql old new = (table : Table) → Finds old.schema table → IsDrop sql table.name → is_acted_on old.schema Enforced table ≡ false → table.is_counted ≡ false → Dropped table old new
