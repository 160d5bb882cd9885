-- The refusal of two files with a damaged WAL, before SQLite opens their database.
use Rattle.std.specs.Prelude.{◌≡◌, ◌⊎◌, ◌<◌, ℕ, Bool, true, false, IsTrue, Option, None, IfSome, Result}
use Rattle.std.specs.declared.alloc.AllocError.{AllocError}
use Rattle.sqlite.specs.Files.{FailsToOpenFiles, IsCleanLeft, LeavesFiles}
use Rattle.sqlite.specs.Opening.{is_open_error}
use Rattle.sqlite.specs.Recovery.{Image}
use Rattle.sqlite.specs.WalReads.{AreClean, OnlyReads}
use Rattle.sqlite.specs.declared.error.Error.{Error}
use Rattle.sqlite.specs.declared.error.Error.TheVariants.{SqliteFailure}
use Rattle.sqlite.specs.declared.error.ErrorCode.TheVariants as code
use Rattle.sqlite.specs.declared.file.Leftover.{Leftover}
use Rattle.sqlite_disk.specs.declared.Disk.{Ghosts}
use Rattle.sqlite_disk.specs.declared.Files.{Files}
use Rattle.wal_damage.specs.Damage.{lost_commits}
use Rattle.wal_damage.specs.Faults.{HasFailed}
use Rattle.wal_damage.specs.declared.look.LookFault.{LookFault}
use Rattle.wal_damage.specs.declared.look.LookFault.TheVariants as look
use Rattle.over_tables.specs.declared.cause.Cause.TheVariants.{DamagedWal}
use Rattle.over_tables.specs.declared.fault.FileFault.{FileFault}
use Rattle.over_tables.specs.declared.fault.FileFault.TheVariants.{NotOurs, Storage, Memory}
use Rattle.store_files.specs.Unopened.{of_opening}
use Rattle.store_files.specs.declared.place.Place.{Place}

-- the error is one of those that are possible before SQLite gets the two files
abbrev pub opens_none : Error → Bool
opens_none (SqliteFailure code.CannotOpen) = true
opens_none (SqliteFailure code.OutOfMemory) = true
opens_none (SqliteFailure code.DatabaseBusy) = true
opens_none _ = false

-- the WAL of the two files has lost no durable commit
abbrev pub IsWholeWal : Image → Type 0
IsWholeWal image = lost_commits image.db image.log ≡ 0

-- the fault is that the WAL is damaged, or that it couldn't be read
abbrev pub IsOfWal : FileFault → Type 0
IsOfWal fault =
    ((commits : ℕ) × (0 < commits) × (fault ≡ NotOurs (DamagedWal commits))) ⊎ ((fault ≡ Storage) ⊎ (fault ≡ Memory))

-- the fault is the reason why two files can't be opened, given what the file system reports about
-- their path
abbrev pub IsOfOpening : FileFault → Type 0
IsOfOpening fault = (error : Error) × (place : Result Place AllocError) × IsTrue (opens_none error) × (fault ≡ of_opening error place)

-- the fault of the check of the WAL at a path
abbrev pub IsOfLook : FileFault → Type 0
IsOfLook fault = IsOfWal fault ⊎ IsOfOpening fault

-- the fault for a WAL that couldn't be examined
abbrev pub fault_of : LookFault → FileFault
fault_of look.Failed = Storage
fault_of look.Memory = Memory

-- `old` and `new` are two files before and after their WAL was examined. The fault is that the WAL
-- has lost durable commits, and their number, or that it couldn't be read: a call to one of the
-- files has failed, or an allocation.
abbrev pub RefusesWal : {D : Type 0} → Ghosts D → Files D → Files D → FileFault → Type 0
RefusesWal g old new fault =
    ((commits : ℕ) × (0 < commits) × (fault ≡ NotOurs (DamagedWal commits))
    × (AreClean g new.log new.db → commits ≡ lost_commits (g.seen old.db) (g.seen old.log)))
    ⊎ (((fault ≡ Storage) × HasFailed g old new) ⊎ (fault ≡ Memory))

-- `left` is left of the files `given` if SQLite opens no database in them
abbrev pub FailsInGiven : {D : Type 0} {g : Ghosts D} → Files D → Error → Option (Leftover D g) → Type 0
FailsInGiven given error left =
    IfSome left (λ it. IsCleanLeft it → FailsToOpenFiles given it error × LeavesFiles given it)

module _ {D : Type 0} (g : Ghosts D) (IsFresh : Bool → D → Type 0) where
  -- SQLite got two files that were just opened and only read since. It opens no database in them
  -- because of `error`, and `left` is left of them
  pub record FailsInFiles (error : Error) (left : Leftover D g) : Type 0 where
    pub first : Files D
    pub fresh : IsFresh true first.log × IsFresh false first.db
    pub given : Files D
    pub read : OnlyReads g first.log given.log × OnlyReads g first.db given.db
    pub failed : IsCleanLeft left → FailsToOpenFiles given left error × LeavesFiles given left

  -- SQLite opens no database because of `error`: it got no files, or opens none in those that it
  -- got
  pub record FailsToBegin (error : Error) (left : Option (Leftover D g)) : Type 0 where
    pub named : IsTrue (is_open_error error)
    pub none : left ≡ None → IsTrue (opens_none error)
    pub some : IfSome left (FailsInFiles error)
