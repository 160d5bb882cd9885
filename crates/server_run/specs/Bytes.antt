-- Defines the first bytes that are kept of a connection's input and response.
use Rattle.std.specs.Prelude.{◌≡◌, ℕ, List, ◌++◌, length, take, Option, Result, Ok, Err}
use Rattle.std.specs.Io.KnownBytes.{Appends, Consumes}
use Rattle.server.specs.declared.served.End.{End}
use Rattle.server.specs.declared.served.End.TheVariants.{Answered, Broken, WriteFailed}

-- `text` begins with `first`
abbrev pub IsBeginning : List ℕ → List ℕ → Type 0
IsBeginning first text = first ≡ take (length first) text

-- `reply` is the first bytes of what was written; if the writer failed, bytes that it didn't take
-- may follow
abbrev pub IsReplyOf : End → List ℕ → List ℕ → Type 0
IsReplyOf Answered reply written = reply ≡ take 512 written
IsReplyOf Broken reply written = reply ≡ take 512 written
IsReplyOf WriteFailed reply written = IsBeginning (take 512 written) reply

-- ---- helper definitions

-- `first` is the first bytes that were read
abbrev pub KeepsRead : Option (List ℕ) → Option (List ℕ) → List ℕ → Type 0
KeepsRead before after first = (bytes : List ℕ) × Consumes before after bytes × (first ≡ take 256 bytes)

-- `taken` is the first bytes that the writer took, and `offered` the first of these and of the
-- bytes passed to it last
abbrev pub KeepsWritten : Option (List ℕ) → Option (List ℕ) → List ℕ → List ℕ → Type 0
KeepsWritten before after taken offered =
    (bytes : List ℕ) × (rest : List ℕ) × Appends before after bytes × (taken ≡ take 512 bytes) × (offered ≡ take 512 (bytes ++ rest))

-- the bytes in `taken` after a write of `buf` with this result
abbrev pub taken_after : {E : Type 0} → List ℕ → List ℕ → Result ℕ E → List ℕ
taken_after taken buf (Ok count) = take 512 (taken ++ take count buf)
taken_after taken buf (Err error) = taken

-- the bytes that are kept of the response of a connection that ended this way
abbrev pub reply_by : End → List ℕ → List ℕ → List ℕ
reply_by Answered taken offered = taken
reply_by Broken taken offered = taken
reply_by WriteFailed taken offered = offered

-- `reply` is the first bytes of the response at the end of a connection
abbrev pub KeepsReply : End → Option (List ℕ) → Option (List ℕ) → List ℕ → Type 0
KeepsReply end before after reply = (bytes : List ℕ) × Appends before after bytes × IsReplyOf end reply bytes
