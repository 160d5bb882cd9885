-- The causes of a fault of the store.
use Rattle.std.specs.Prelude.{◌≡◌}
use Rattle.sqlite.specs.State.{State}
use Rattle.sqlite.specs.Store.{Ghosts}
use Rattle.sqlite.specs.declared.error.Error.{Error}
use Rattle.job_facts.specs.declared.store.StoreFault.{StoreFault}
use Rattle.sql_base.specs.Causes.{HadCause}
use Rattle.adoption.specs.Faults.{fault_for}

-- The fault is the report of an error `e` of SQLite, with its cause. A disk error, such as a full
-- disk, is reported only if, in some state, the disk had failed or refused an operation since the
-- call began. The error is the last one that the store recorded, if it records errors. No trace is
-- kept of a failed allocation or of another error that isn't a disk error, so these need no cause.
abbrev pub IsCaused : {S : Type 0} → Ghosts S → State → State → StoreFault → Type 0
IsCaused g old new own = (e : Error) × (own ≡ fault_for e) × HadCause g old new e
