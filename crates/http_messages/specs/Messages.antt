-- The meaning of all the bytes of a connection: HTTP/1.1 messages (RFC 9112), restricted by this
-- project's profile.
use Rattle.std.specs.Prelude.{◌≡◌, ◌<◌, ◌≤◌, ℕ, nat_lt, Bool, true, false, if◌then◌else◌, List, length, take, drop, Option, Some, None, Result, Ok, Err}
pub use Rattle.text_io.specs.Inputs.{Agrees}
use Rattle.http_messages.specs.declared.message.Message.{Message}
use Rattle.http_messages.specs.declared.message.Reading.{Reading}
use Rattle.http_messages.specs.declared.message.Reading.TheVariants as reading
use Rattle.http_messages.specs.declared.fixed.FixedReply.{FixedReply}
use Rattle.http_messages.specs.declared.fixed.FixedReply.TheVariants.{HeadTooLarge}
use Rattle.http_messages.specs.Heads.{HeadParts, IsJudged, head_end}

-- the method, the path and the body of a message
pub record MessageParts : Type 0 where
  pub method : List ℕ
  pub target : List ℕ
  pub body : List ℕ

-- the bytes end too early, are refused with a fixed response, or contain a message
pub data Heard : Type 0 where
  Broken : Heard
  Refused : FixedReply → Heard
  Brings : MessageParts → Heard

-- the meaning of a head with this test result that is followed by the bytes `rest`
abbrev pub after_head : Result HeadParts FixedReply → List ℕ → Heard
after_head (Ok p) rest =
    if nat_lt (length rest) p.size then Broken else Brings (record { method = p.method; target = p.target; body = take p.size rest })
after_head (Err why) rest = Refused why

-- the position after the head, if it ends within the first 8,192 bytes
abbrev pub end_of_head : List ℕ → Option ℕ
end_of_head bytes = head_end (take 8192 bytes)

-- `heard` is the meaning of `bytes`, given the position after the head; bytes after the message are
-- ignored
abbrev pub IsHeardBy : List ℕ → Option ℕ → Heard → Type 0
IsHeardBy bytes None heard = heard ≡ (if nat_lt (length bytes) 8192 then Broken else Refused HeadTooLarge)
IsHeardBy bytes (Some end) heard = (judged : Result HeadParts FixedReply) × IsJudged (take end bytes) judged × (heard ≡ after_head judged (drop end bytes))

abbrev pub IsHeard : List ℕ → Heard → Type 0
IsHeard bytes heard = IsHeardBy bytes (end_of_head bytes) heard

-- `heard` is the only meaning of `bytes`
pub record IsHeardAs (bytes : List ℕ) (heard : Heard) : Type 0 where
  pub is : IsHeard bytes heard
  pub alone : (other : Heard) → IsHeard bytes other → other ≡ heard

-- `bytes` starts with a complete head that passes its tests
abbrev pub HasHead : List ℕ → Type 0
HasHead bytes = (end : ℕ) × (p : HeadParts) × (end_of_head bytes ≡ Some end) × IsJudged (take end bytes) (Ok p)

-- ---- results of the code

abbrev pub as_parts : Message → MessageParts
as_parts m = record { method = m.method; target = m.target; body = m.body }

-- the result is the only meaning of `bytes`, or out of memory after a head that passes its tests;
-- even then `bytes` has a meaning. If further bytes were lost (`is_cut`), it is not `Broken` after
-- such a head.
abbrev pub IsReading : List ℕ → Bool → Reading → Type 0
IsReading bytes is_cut (reading.Message m) = IsHeardAs bytes (Brings (as_parts m))
IsReading bytes is_cut reading.Broken = IsHeardAs bytes Broken × (HasHead bytes → is_cut ≡ false)
IsReading bytes is_cut (reading.Refused why) = IsHeardAs bytes (Refused why)
IsReading bytes is_cut reading.Memory = HasHead bytes × ((h : Heard) × IsHeardAs bytes h)

-- ---- intermediate results

-- the body is the first `size` bytes of `rest`, or `None` if `rest` has fewer
abbrev pub IsBody : ℕ → List ℕ → Option (List ℕ) → Type 0
IsBody size rest None = length rest < size
IsBody size rest (Some body) = (size ≤ length rest) × (body ≡ take size rest)

-- if the result is true, `rest` starts with `body`; otherwise `rest` is too short
abbrev pub IsFilled : List ℕ → List ℕ → Bool → Type 0
IsFilled body rest true = (length body ≤ length rest) × (body ≡ take (length body) rest)
IsFilled body rest false = length rest < length body

-- the result of reading `rest` after a head with the test result `judged`, if further bytes were
-- lost (`is_cut`) or not
abbrev pub IsReadingBy : Result HeadParts FixedReply → List ℕ → Bool → Reading → Type 0
IsReadingBy judged rest is_cut (reading.Message m) = after_head judged rest ≡ Brings (as_parts m)
IsReadingBy judged rest is_cut reading.Broken = (after_head judged rest ≡ Broken) × (is_cut ≡ false)
IsReadingBy judged rest is_cut (reading.Refused why) = after_head judged rest ≡ Refused why
IsReadingBy judged rest is_cut reading.Memory = (p : HeadParts) × (judged ≡ Ok p)

abbrev pub IsReadingAfter : List ℕ → List ℕ → Bool → Reading → Type 0
IsReadingAfter head rest is_cut result = (judged : Result HeadParts FixedReply) × IsJudged head judged × IsReadingBy judged rest is_cut result
