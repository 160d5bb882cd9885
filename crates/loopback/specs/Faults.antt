-- The fault if there is no next connection (this project's profile).
use Rattle.std.specs.declared.io.ErrorKind.{ErrorKind}
use Rattle.std.specs.declared.io.ErrorKind.TheVariants as kind
use Rattle.server.specs.declared.connections.NextFault.{NextFault}
use Rattle.server.specs.declared.connections.NextFault.TheVariants.{Device, Memory}

-- the fault for an error of this kind
abbrev pub fault_of : ErrorKind → NextFault
fault_of kind.OutOfMemory = Memory
fault_of _ = Device
