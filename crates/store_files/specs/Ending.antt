-- The state of a store over files at the end of a task.
use Rattle.sqlite.specs.Files.{over_files}
use Rattle.sqlite.specs.declared.FileStore.{FileStore}
use Rattle.sqlite_disk.specs.declared.Disk.{Ghosts}
use Rattle.job_facts.specs.Store.{State}
use Rattle.job_facts.specs.declared.store.StoreFault.{StoreFault}
use Rattle.schema.specs.Closing.{FailsToFinish, LeavesWholeFile}
use Rattle.schema.specs.Stores.{connection, stands_for}
use Rattle.schema.specs.declared.store.SqlStore.{SqlStore}

-- The task ends with some store. `P` is true of the state of this store, of the statement that
-- closing it leaves a complete database file, and of the possible faults of the close.
abbrev pub AtEnd : {D : Type 0} → Ghosts D → (State → Type 0 → (StoreFault → Type 0) → Type 0) → Type 0
AtEnd {D} g P = (last : SqlStore (FileStore D g) over_files) × P (stands_for over_files last) (LeavesWholeFile (connection last)) (FailsToFinish (connection last))
