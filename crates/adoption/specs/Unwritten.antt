-- Defines when a call leaves every tree unchanged.
use Rattle.sqlite.specs.State.{HasCleanDisk, State}
use Rattle.sqlite.specs.Tree.{Trees}
use Rattle.sql_base.specs.Ends.{IsKept}
use Rattle.table_reads.specs.Rowids.{StandAsMade}

-- Unless a fault has closed the connection, it shows the same database as before. A crash leaves
-- nothing that it could not leave before.
pub record LeavesTrees (old new : State) : Type 0 where
  pub kept : IsKept old new
  pub left : (trees : Trees) → new.may_leave trees → old.may_leave trees

-- If the database has exactly the tables that the store creates, with different rowids in each
-- table, every tree is unchanged.
abbrev pub LeavesOurs : State → State → Type 0
LeavesOurs old new = HasCleanDisk new → StandAsMade old.now → LeavesTrees old new
