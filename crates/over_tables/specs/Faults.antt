-- The faults that are reported for a database file that isn't opened (this project's profile).
use Rattle.job_facts.specs.declared.store.StoreFault.{StoreFault}
use Rattle.job_facts.specs.declared.store.StoreFault.TheVariants as store
use Rattle.adoption.specs.declared.faults.OpenFault.{OpenFault}
use Rattle.adoption.specs.declared.faults.OpenFault.TheVariants as open_fault
use Rattle.over_tables.specs.declared.cause.Cause.TheVariants.{Tables}
use Rattle.over_tables.specs.declared.fault.FileFault.{FileFault}
use Rattle.over_tables.specs.declared.fault.FileFault.TheVariants.{NotOurs, Damaged, Storage, Memory}

abbrev pub of_store : StoreFault → FileFault
of_store store.Memory = Memory
of_store store.Device = Storage
of_store store.Full = Storage

-- the fault for a database that wasn't opened; a database that was empty and isn't any more is a
-- fault of the device
abbrev pub of_open : OpenFault → FileFault
of_open open_fault.NotEmpty = Storage
of_open (open_fault.NotOurs difference) = NotOurs (Tables difference)
of_open (open_fault.Damaged damage) = Damaged damage
of_open (open_fault.Store own) = of_store own
