-- Defines the queue of connections in memory.
use Rattle.std.specs.Prelude.{◌≡◌, ℕ, ◌<◌, List, [], length, map, drop, vec_len, vec_capacity}
use Rattle.std.specs.Prelude.{Vec}
use Rattle.std.specs.declared.alloc.Global.{Global}
use Rattle.server.specs.declared.connections.NextFault.{NextFault}
use Rattle.server.specs.declared.connections.NextFault.TheVariants as fault
use Rattle.server.specs.declared.memory.MemoryReader.{MemoryReader}
use Rattle.server.specs.declared.memory.MemoryConnections.{MemoryConnections}
use Rattle.server.specs.declared.memory.Replied.{Replied}
use Rattle.server.specs.Exchanges.{Entry, Queue}

-- the bytes to come
abbrev pub bytes_left : MemoryReader → List ℕ
bytes_left r = drop r.at r.bytes.items

abbrev pub texts : List (Vec ℕ Global) → List (List ℕ)
texts inputs = map (λ (v : Vec ℕ Global). v.items) inputs

abbrev pub entry : Replied → Entry
entry r = record { input = r.input.items; written = r.written.items; served = r.served }

-- the queue in which the connections with a reply were taken back, and the others are to come
abbrev pub queue_with : List (Vec ℕ Global) → List Replied → Queue
queue_with inputs replies = record { done = map entry replies; coming = drop (length replies) (texts inputs) }

abbrev pub queue : MemoryConnections → Queue
queue c = queue_with c.inputs.items c.replies.items

-- a connection is in progress, and there is room for taking it back
abbrev pub IsOut : MemoryConnections → Type 0
IsOut c = (vec_len c.replies < vec_len c.inputs) × (vec_len c.replies < vec_capacity c.replies)

abbrev pub replies_of : MemoryConnections → List Replied
replies_of c = c.replies.items

-- `Device` is returned only if no connection is left, and `Memory` only if one is
abbrev pub Refuses : MemoryConnections → NextFault → Type 0
Refuses c fault.Memory = length c.replies.items < length c.inputs.items
Refuses c fault.Device = (queue c).coming ≡ []
