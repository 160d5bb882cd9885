-- The faults for files that SQLite doesn't open. They depend on its error and on what the file
-- system reports about the path (this project's profile).
use Rattle.std.specs.Prelude.{false, Result, Ok, Err}
use Rattle.std.specs.IoError.{error_kind}
use Rattle.std.specs.declared.alloc.AllocError.{AllocError}
use Rattle.std.specs.declared.io.ErrorKind.{ErrorKind}
use Rattle.std.specs.declared.io.ErrorKind.TheVariants as kind
use Rattle.sqlite.specs.declared.error.Error.{Error}
use Rattle.sqlite.specs.declared.error.Error.TheVariants.{SqliteFailure}
use Rattle.sqlite.specs.declared.error.ErrorCode.TheVariants as code
use Rattle.sqlite_std_file.specs.declared.pair.OpenError.{OpenError}
use Rattle.sqlite_std_file.specs.declared.pair.OpenError.TheVariants as open_error
use Rattle.over_tables.specs.declared.cause.Cause.{Cause}
use Rattle.over_tables.specs.declared.cause.Cause.TheVariants as cause
use Rattle.over_tables.specs.declared.fault.FileFault.{FileFault}
use Rattle.over_tables.specs.declared.fault.FileFault.TheVariants.{NotOurs, Storage, Memory}
use Rattle.store_files.specs.declared.place.Place.{Place}
use Rattle.store_files.specs.declared.place.Place.TheVariants as place

-- the error of SQLite for an error of the file system
abbrev pub error_for : ErrorKind → Error
error_for kind.OutOfMemory = SqliteFailure code.OutOfMemory
error_for _ = SqliteFailure code.CannotOpen

-- the error of SQLite for two files that couldn't be opened (`open_from` in the `sqlite` of the
-- toolchain)
abbrev pub error_of : OpenError → Error
error_of open_error.OutOfMemory = SqliteFailure code.OutOfMemory
error_of open_error.Busy = SqliteFailure code.DatabaseBusy
error_of open_error.HotJournal = SqliteFailure code.CannotOpen
error_of (open_error.Io error) = error_for (error_kind error)

-- the fault for a file that doesn't exist and must not be created
abbrev pub absent : Place → FileFault
absent place.NoFolder = NotOurs cause.NoFolder
absent _ = NotOurs cause.NoFile

-- the reason why SQLite can't open a file at this place; a file that doesn't exist can't be
-- created, and if the file itself can be opened, its WAL can't
abbrev pub cannot_open : Place → Cause
cannot_open place.NoFile = cause.NoRight
cannot_open place.NoFolder = cause.NoFolder
cannot_open place.Folder = cause.Folder
cannot_open place.Special = cause.Special
cannot_open place.NoRight = cause.NoRight
cannot_open place.Journal = cause.Journal
cannot_open (place.File is_sqlite) = cause.NoRight
cannot_open place.Unclear = cause.CannotOpen

-- the cause for a file that isn't a valid database: `NotSqlite` if it doesn't begin like a file
-- that SQLite wrote, otherwise `other`
abbrev pub cause_of_invalid : Cause → Place → Cause
cause_of_invalid other (place.File false) = cause.NotSqlite
cause_of_invalid other _ = other

-- the fault for an error of SQLite and the place of the file, where `Err` means that an allocation
-- failed when the place was determined; only errors of memory and of the device aren't refusal 81
abbrev pub of_opening : Error → Result Place AllocError → FileFault
of_opening (SqliteFailure code.OutOfMemory) p = Memory
of_opening (SqliteFailure code.SystemIoFailure) p = Storage
of_opening (SqliteFailure code.DiskFull) p = Storage
of_opening (SqliteFailure code.Closed) p = Storage
of_opening (SqliteFailure code.DatabaseBusy) p = NotOurs cause.InUse
of_opening _ (Err _) = Memory
of_opening (SqliteFailure code.CannotOpen) (Ok p) = NotOurs (cannot_open p)
of_opening (SqliteFailure code.DatabaseCorrupt) (Ok p) = NotOurs (cause_of_invalid cause.Corrupt p)
of_opening _ (Ok p) = NotOurs (cause_of_invalid cause.Invalid p)
