-- The meaning of a fault for a database that isn't opened.
use Rattle.std.specs.Prelude.{◌≡◌, ◌⊎◌, IsTrue, Option}
use Rattle.sqlite.specs.Effect.{Database}
use Rattle.sqlite.specs.State.{HasCleanDisk, State}
use Rattle.sqlite.specs.Store.{Ghosts}
use Rattle.job_facts.specs.Contents.{Contents, no_contents}
use Rattle.job_facts.specs.Store.{IsFound}
use Rattle.job_facts.specs.declared.store.StoreFault.{StoreFault}
use Rattle.sql_base.specs.Ends.{IsKept}
use Rattle.sql_tables.specs.declared.versions.Version.{Version}
use Rattle.table_reads.specs.Holding.{HoldsSoundRows, IsOfVersion}
use Rattle.examination.specs.Causes.{SaysHow, SaysWhat}
use Rattle.adoption.specs.Causes.{IsCaused}
use Rattle.schema.specs.Begun.{WasHeld}
use Rattle.schema.specs.Link.{link}
use Rattle.over_tables.specs.Faults.{of_store}
use Rattle.over_tables.specs.Opens.{Begins}
use Rattle.over_tables.specs.declared.opening.Wanted.{Wanted}
use Rattle.over_tables.specs.declared.cause.Cause.{Cause}
use Rattle.over_tables.specs.declared.cause.Cause.TheVariants.{Tables}
use Rattle.over_tables.specs.declared.fault.FileFault.{FileFault}
use Rattle.over_tables.specs.declared.fault.FileFault.TheVariants.{NotOurs, Damaged, Storage, Memory}

-- The fault is refusal 81.
abbrev pub IsNotOurs : FileFault → Type 0
IsNotOurs (NotOurs cause) = Unit {0}
IsNotOurs _ = ⊥

-- The fault is refusal 82.
abbrev pub IsDamaged : FileFault → Type 0
IsDamaged (Damaged damage) = Unit {0}
IsDamaged _ = ⊥

-- The cause is a difference of the tables, which is the only possible cause of refusal 81 after
-- SQLite has opened the database.
abbrev pub ExplainsTables : Database → Cause → Type 0
ExplainsTables db (Tables difference) = SaysHow db difference
ExplainsTables db _ = ⊥

-- If the fault is a refusal, its cause is correct for the database. Other faults state nothing
-- about the database.
abbrev pub Explains : Database → FileFault → Type 0
Explains db (NotOurs cause) = ExplainsTables db cause
Explains db (Damaged damage) = SaysWhat db damage
Explains db Storage = Unit {0}
Explains db Memory = Unit {0}

-- The fault is a fault of the store, and no refusal.
abbrev pub IsOfStore : FileFault → Type 0
IsOfStore fault = (own : StoreFault) × (fault ≡ of_store own)

-- A fault of the store was reported as `Storage`, with its cause.
abbrev pub ReportsStorage : {S : Type 0} → Ghosts S → State → State → Type 0
ReportsStorage g old new = (own : StoreFault) × (of_store own ≡ Storage) × IsCaused g old new own

-- The database isn't opened, because of `fault`. It is unchanged, and a crash leaves what it could
-- leave before, or the contents with which a store over it would have been opened.
pub record IsRefused (wanted : Wanted) (old new : State) (fault : FileFault) : Type 0 where
  pub clean : HasCleanDisk new → HasCleanDisk old
  pub not_empty : IsNotOurs fault → ¬ Begins wanted old.now
  pub not_ours : HasCleanDisk new → IsNotOurs fault → (v : Version) → ¬ IsOfVersion v old.now
  pub damaged : HasCleanDisk new → IsDamaged fault → ((v : Version) × IsOfVersion v old.now) × ((v : Version) → ¬ HoldsSoundRows v old.now)
  pub why : HasCleanDisk new → Explains old.now fault
  pub kept : HasCleanDisk new → IsTrue old.is_open → IsKept old new
  pub crash : HasCleanDisk new → (d : Option Contents) → (link new 0 0).may_leave d
      → (link old 0 0).may_leave d ⊎ ((Begins wanted old.now × IsFound d no_contents) ⊎ WasHeld d old.now)
