-- The causes of errors.
use Rattle.std.specs.Prelude.{◌≤◌, IfErr, IsTrue, Result}
use Rattle.sqlite.specs.Held.{Held, state}
use Rattle.sqlite.specs.State.{Relays, State, is_disk_error}
use Rattle.sqlite.specs.Store.{Ghosts}
use Rattle.sqlite.specs.declared.error.Error.{Error}
use Rattle.sqlite_disk.specs.Disk.{MoreFaults}

-- If `e` is a disk error, the count of the disk's faults has risen since `old`, and `e` is the last
-- error that the store recorded, if the store records it.
abbrev pub HasCause : State → State → Error → Type 0
HasCause old new e = IsTrue (is_disk_error e) → MoreFaults old.faults new.faults × Relays new.blamed e

-- The error of a call has a cause; a successful call needs no cause.
abbrev pub ReportsCause : {X : Type 0} → State → State → Result X Error → Type 0
ReportsCause old new result = IfErr result (HasCause old new)

-- The error has a cause in some state, and no fault after that state is forgotten.
abbrev pub HadCause : {S : Type 0} → Ghosts S → State → State → Error → Type 0
HadCause {S} g old new e = (moment : Held S) × HasCause old (state g moment) e × ((state g moment).faults ≤ new.faults)
