-- The bytes of a connection in memory.
use Rattle.std.specs.Prelude.{ℕ, List}
use Rattle.http_messages.specs.declared.source.Pieces.{Pieces}

-- the remaining bytes of `p`
abbrev pub bytes_of : Pieces → List ℕ
bytes_of p = p.bytes.now
