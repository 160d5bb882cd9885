-- The response to a message that a driver sends (this project's profile).
use Rattle.std.specs.Prelude.{◌≡◌, ℕ, List, Option, None, Result, Ok, Err, Vec, alloc_error}
use Rattle.std.specs.Global.{Global}
use Rattle.std.specs.declared.alloc.AllocError.{AllocError}
use Rattle.text_io.specs.declared.reading.ReadFault.{ReadFault}
use Rattle.text_io.specs.declared.reading.ReadFault.TheVariants.{Failed, Memory}
use Rattle.text_io.specs.Inputs.{Agrees, IsWithin}
use Rattle.text_io.specs.declared.writing.WriteFailed.{WriteFailed}

-- `came` is all bytes of the response, or `None` if they are more than 8,192; it is also `None` if
-- the message wasn't sent completely
abbrev pub IsResponse : Option (List ℕ) → Result (Unit {0}) WriteFailed → Option (Vec ℕ Global) → Type 0
IsResponse known (Ok u) came = (raw : List ℕ) × Agrees known raw × IsWithin 8192 raw came
IsResponse known (Err e) came = came ≡ None

-- the result of an exchange: `None` if it failed, or an error if an allocation failed
abbrev pub came_of : Result (Option (Vec ℕ Global)) ReadFault → Result (Option (Vec ℕ Global)) AllocError
came_of (Ok came) = Ok came
came_of (Err Failed) = Ok None
came_of (Err Memory) = Err alloc_error
