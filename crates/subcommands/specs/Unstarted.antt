-- The event line and the end of a server that can't listen on its port (this project's profile).
use Rattle.std.specs.Prelude.{ℕ, List, ◌++◌, codes}
use Rattle.std.specs.declared.io.ErrorKind.{ErrorKind}
use Rattle.std.specs.declared.io.ErrorKind.TheVariants as kind
use Rattle.event_lines.specs.Lines.{number_pair, pair}
use Rattle.subcommands.specs.declared.end.End.{End}
use Rattle.subcommands.specs.declared.end.End.TheVariants.{PortFailed, Memory}

-- the word for the reason that the system gives
abbrev pub port_word : ErrorKind → List ℕ
port_word kind.AddrInUse = codes "port-in-use"
port_word kind.PermissionDenied = codes "no-right"
port_word kind.AddrNotAvailable = codes "no-address"
port_word kind.OutOfMemory = codes "memory"
port_word _ = codes "device"

-- the event line of a server that can't listen on `port`
abbrev pub unstarted_line : ErrorKind → ℕ → List ℕ
unstarted_line why port = codes "unstarted" ++ pair (codes "cause") (port_word why) ++ number_pair (codes "port") port

-- the end of its run: out of memory only if the system gives that reason
abbrev pub end_of_port : ErrorKind → End
end_of_port kind.OutOfMemory = Memory
end_of_port _ = PortFailed
