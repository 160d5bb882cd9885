-- The effect of a call on a database that may already be as required.
use Rattle.std.specs.Prelude.{◌≡◌, IsTrue}
use Rattle.sqlite.specs.Effect.{Database}
use Rattle.sqlite.specs.State.{State}
use Rattle.sqlite.specs.Tree.{Trees}

-- The connection is open and shows the new database, and a crash leaves exactly this database. `R`
-- relates the database before to the new one.
pub record EndsCommitted (R : Database → Database → Type 0) (old new : State) : Type 0 where
  pub db : Database
  pub made : R old.now db
  pub shown : IsTrue new.is_open → new.now ≡ db
  pub only : (trees : Trees) → new.may_leave trees → trees ≡ db.trees
  pub was_open : IsTrue old.is_open
  pub is_open : IsTrue new.is_open
