-- The faults of a store for the errors of SQLite.
use Rattle.sqlite.specs.declared.error.Error.{Error}
use Rattle.sqlite.specs.declared.error.Error.TheVariants.{SqliteFailure}
use Rattle.sqlite.specs.declared.error.ErrorCode.TheVariants.{DiskFull, OutOfMemory}
use Rattle.job_facts.specs.declared.store.StoreFault.{StoreFault}
use Rattle.job_facts.specs.declared.store.StoreFault.TheVariants.{Device, Full, Memory}

-- Out of memory and a full disk are reported as such, and any other error as a fault of the device.
abbrev pub fault_for : Error → StoreFault
fault_for (SqliteFailure OutOfMemory) = Memory
fault_for (SqliteFailure DiskFull) = Full
fault_for _ = Device
