-- Defines the lines that a server writes to standard output (this project's profile).
use Rattle.std.specs.Prelude.{◌≡◌, ◌<◌, ◌⊎◌, ℕ, List, ◌++◌, codes, decimal, Option, Result, Ok, Err}
use Rattle.std.specs.Io.KnownBytes.{Appends, Keeps}
use Rattle.text_io.specs.Written.{AppendsBeginning, line}
use Rattle.server.specs.declared.connections.NextFault.{NextFault}
use Rattle.server.specs.declared.connections.NextFault.TheVariants as next
use Rattle.server_run.specs.declared.stopping.ServeStop.{ServeStop}
use Rattle.server_run.specs.declared.stopping.ServeStop.TheVariants.{Next, Write, Memory, Store}

-- the line with `words` and `number`
abbrev pub numbered : List ℕ → ℕ → List ℕ
numbered words number = words ++ line (decimal number)

-- the line with the port
abbrev pub listening_text : ℕ → List ℕ
listening_text port = numbered (codes "listening 127.0.0.1:") port

-- the line with the number of connections served
abbrev pub served_text : ℕ → List ℕ
served_text turns = numbered (codes "served ") turns

-- `text` is written; if the result is `Write`, only a prefix of it; if it is `Memory`, nothing
abbrev pub WritesLine : Option (List ℕ) → Option (List ℕ) → List ℕ → Result (Unit {0}) ServeStop → Type 0
WritesLine before after text (Ok u) = Appends before after text
WritesLine before after text (Err Write) = AppendsBeginning before after text
WritesLine before after text (Err Memory) = Keeps before after
WritesLine before after text (Err Next) = ⊥
WritesLine before after text (Err (Store fault)) = ⊥

-- the reason to stop if there is no next connection
abbrev pub of_next : NextFault → ServeStop
of_next next.Device = Next
of_next next.Memory = Memory

-- the first line and a prefix of the last line are written
abbrev pub WritesLastInPart : ℕ → ℕ → Option (List ℕ) → Option (List ℕ) → Type 0
WritesLastInPart port turns before after = (front : List ℕ) × (back : List ℕ)
    × (front ++ back ≡ served_text turns) × Appends before after (listening_text port ++ front)

-- an allocation failed: before the first line, for the next connection, or after all connections
-- were served
abbrev pub StopsForMemory : (NextFault → Type 0) → ℕ → ℕ → ℕ → Option (List ℕ) → Option (List ℕ) → Type 0
StopsForMemory refuses port turns count before after =
    ((count ≡ 0) × Keeps before after) ⊎ (Appends before after (listening_text port) × (((count < turns) × refuses next.Memory) ⊎ (count ≡ turns)))

-- the lines of a run that served `count` of `turns` connections are written. The first line is
-- written before the connections. The last line or a prefix of it is written only after all
-- connections were served and the store was closed. `refuses` tells when there may be no next
-- connection
abbrev pub WritesLines : Type 0 → (NextFault → Type 0) → ℕ → ℕ → ℕ → Option (List ℕ) → Option (List ℕ) → Result (Unit {0}) ServeStop → Type 0
WritesLines closed refuses port turns count before after (Ok u) = closed × (count ≡ turns) × Appends before after (listening_text port ++ served_text turns)
WritesLines closed refuses port turns count before after (Err Next) = (count < turns) × refuses next.Device × Appends before after (listening_text port)
WritesLines closed refuses port turns count before after (Err Write) =
    ((count ≡ 0) × AppendsBeginning before after (listening_text port)) ⊎ (closed × (count ≡ turns) × WritesLastInPart port turns before after)
WritesLines closed refuses port turns count before after (Err Memory) = StopsForMemory refuses port turns count before after
WritesLines closed refuses port turns count before after (Err (Store fault)) = (count ≡ turns) × Appends before after (listening_text port)

-- ---- helper definitions

-- before the store is closed, the first line is written and `count` connections are served
abbrev pub WritesFirst : (NextFault → Type 0) → ℕ → ℕ → ℕ → Option (List ℕ) → Option (List ℕ) → Result (Unit {0}) ServeStop → Type 0
WritesFirst refuses port turns count before after (Ok u) = (count ≡ turns) × Appends before after (listening_text port)
WritesFirst refuses port turns count before after (Err Next) = (count < turns) × refuses next.Device × Appends before after (listening_text port)
WritesFirst refuses port turns count before after (Err Write) = (count ≡ 0) × AppendsBeginning before after (listening_text port)
WritesFirst refuses port turns count before after (Err Memory) = StopsForMemory refuses port turns count before after
WritesFirst refuses port turns count before after (Err (Store fault)) = ⊥

-- the store is then closed; the last line or a prefix of it is written only if all connections were
-- served and the close succeeded
abbrev pub WritesLast : Type 0 → ℕ → Result (Unit {0}) ServeStop → Option (List ℕ) → Option (List ℕ) → Result (Unit {0}) ServeStop → Type 0
WritesLast closed turns (Err stop) before after result = (result ≡ Err stop) × (after ≡ before)
WritesLast closed turns (Ok u) before after (Ok v) = closed × Appends before after (served_text turns)
WritesLast closed turns (Ok u) before after (Err Write) = closed × AppendsBeginning before after (served_text turns)
WritesLast closed turns (Ok u) before after (Err Memory) = Keeps before after
WritesLast closed turns (Ok u) before after (Err (Store fault)) = Keeps before after
WritesLast closed turns (Ok u) before after (Err Next) = ⊥
