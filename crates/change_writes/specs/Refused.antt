-- The error for a batch file that can't be imported.
use Rattle.sqlite.specs.declared.error.Error.{Error}
use Rattle.sqlite.specs.declared.error.Error.TheVariants.{InvalidQuery, SqliteFailure}
use Rattle.sqlite.specs.declared.error.ErrorCode.TheVariants.{OutOfMemory}
use Rattle.batch_import.specs.declared.fault.ImportFault.{ImportFault}
use Rattle.batch_import.specs.declared.fault.ImportFault.TheVariants as fault

-- A failed allocation is reported as out of memory. The file of an import is checked before it is
-- written, so it has no fault.
abbrev pub refused : ImportFault → Error
refused fault.Memory = SqliteFailure OutOfMemory
refused (fault.At f) = InvalidQuery
