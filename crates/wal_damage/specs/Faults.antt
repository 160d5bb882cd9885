-- The faults of examining a WAL, and the failed calls that they report (this project's profile).
use Rattle.std.specs.Prelude.{◌≡◌, ◌⊎◌}
use Rattle.std.specs.declared.io.ErrorKind.{ErrorKind}
use Rattle.std.specs.declared.io.ErrorKind.TheVariants as kind
use Rattle.sqlite_disk.specs.Disk.{MoreFaults}
use Rattle.sqlite_disk.specs.declared.Disk.{Ghosts}
use Rattle.sqlite_disk.specs.declared.Files.{Files}
use Rattle.wal_damage.specs.declared.look.LookFault.{LookFault}
use Rattle.wal_damage.specs.declared.look.LookFault.TheVariants.{Failed, Memory}

-- the fault for an error of reading a file
abbrev pub fault_of : ErrorKind → LookFault
fault_of kind.OutOfMemory = Memory
fault_of _ = Failed

-- One of the two files has counted a failed call. A failed allocation counts none.
abbrev pub HasFailed : {D : Type 0} → Ghosts D → Files D → Files D → Type 0
HasFailed g old new = MoreFaults (g.faults old.log) (g.faults new.log) ⊎ MoreFaults (g.faults old.db) (g.faults new.db)

-- Neither file has counted a failed call.
abbrev pub HasNotFailed : {D : Type 0} → Ghosts D → Files D → Files D → Type 0
HasNotFailed g old new = (g.faults new.log ≡ g.faults old.log) × (g.faults new.db ≡ g.faults old.db)
