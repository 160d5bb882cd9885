-- The bytes of an input.
use Rattle.std.specs.Prelude.{◌≡◌, ◌<◌, ◌≤◌, ℕ, List, length, codes, Option, None, Some, IfSome, Vec}
use Rattle.std.specs.Global.{Global}
use Rattle.std.specs.declared.io.ErrorKind.{ErrorKind}
use Rattle.std.specs.declared.io.ErrorKind.TheVariants as kind
use Rattle.text_io.specs.declared.reading.ReadFault.{ReadFault}
use Rattle.text_io.specs.declared.reading.ReadFault.TheVariants.{Failed, Memory}

-- the maximum size of a batch file and of a request's body (this project's profile)
abbrev pub most_input : ℕ
most_input = 16777216

-- if the bytes of the input are known, `bytes` equals them
abbrev pub Agrees : Option (List ℕ) → List ℕ → Type 0
Agrees known bytes = IfSome known (λ given. given ≡ bytes)

-- the result has all of the bytes; it is `None` if there are more than `most`
abbrev pub IsWithin : ℕ → List ℕ → Option (Vec ℕ Global) → Type 0
IsWithin most bytes (Some v) = (v.items ≡ bytes) × (length bytes ≤ most)
IsWithin most bytes None = most < length bytes

-- the fault for an error of a reader
abbrev pub fault_of : ErrorKind → ReadFault
fault_of kind.OutOfMemory = Memory
fault_of _ = Failed

-- the text of a fault
abbrev pub fault_text : ReadFault → List ℕ
fault_text Failed = codes "the reader failed"
fault_text Memory = codes "out of memory"
