-- Defines the meaning of the bytes of a connection.
use Rattle.std.specs.Prelude.{◌≡◌, ℕ, List, Result, Ok, Err, ⊤}
use Rattle.http_requests.specs.declared.ask.Asked.{Asked}
use Rattle.http_requests.specs.declared.meaning.Meaning.{Meaning}
use Rattle.http_requests.specs.declared.meaning.Meaning.TheVariants as meaning
use Rattle.http_messages.specs.declared.fixed.FixedReply.{FixedReply}
use Rattle.http_requests.specs.Asks.{IsInRange, asked_of}
use Rattle.http_messages.specs.Messages.{HasHead, Heard, IsHeard}
use Rattle.http_messages.specs.Messages as heard

-- the bytes ended too early, are refused with a fixed response, or have a request
pub data Meant : Type 0 where
  Broken : Meant
  Refused : (why : FixedReply) → Meant
  Asks : (a : Asked) → Meant

abbrev pub AsksNothing : Meant → Type 0
AsksNothing Broken = ⊤
AsksNothing (Refused why) = ⊤
AsksNothing (Asks a) = ⊥

abbrev pub meant_by : Result Asked FixedReply → Meant
meant_by (Ok a) = Asks a
meant_by (Err why) = Refused why

abbrev pub meant_of : Heard → Meant
meant_of heard.Broken = Broken
meant_of (heard.Refused why) = Refused why
meant_of (heard.Brings c) = meant_by (asked_of c)

-- `m` is a meaning of the bytes
abbrev pub IsMeaning : List ℕ → Meant → Type 0
IsMeaning bytes m = (h : Heard) × IsHeard bytes h × (m ≡ meant_of h)

-- `m` is the only meaning of the bytes
pub record Means (bytes : List ℕ) (m : Meant) : Type 0 where
  pub is : IsMeaning bytes m
  pub alone : (other : Meant) → IsMeaning bytes other → other ≡ m

-- ---- results of the code

-- the result is the meaning of the bytes, or out of memory after a valid head
abbrev pub IsMeant : List ℕ → Meaning → Type 0
IsMeant bytes (meaning.Asks a) = Means bytes (Asks a) × HasHead bytes × IsInRange a
IsMeant bytes meaning.Broken = Means bytes Broken
IsMeant bytes (meaning.Refused why) = Means bytes (Refused why)
IsMeant bytes meaning.Memory = ((m : Meant) × Means bytes m) × HasHead bytes

-- the result for a message with a valid head is `m`, or out of memory
abbrev pub IsMeantBy : Meant → Meaning → Type 0
IsMeantBy m (meaning.Asks a) = (m ≡ Asks a) × IsInRange a
IsMeantBy m meaning.Broken = ⊥
IsMeantBy m (meaning.Refused why) = m ≡ Refused why
IsMeantBy m meaning.Memory = ⊤
