-- The results of the functions that test a head.
use Rattle.std.specs.Prelude.{◌≤◌, IfSome, Option, Some, None, length, ℕ, List, [], ◌∷◌, filter, Result, Ok, Err}
use Rattle.httparse.specs.declared.spans.HeaderSpan.{HeaderSpan}
use Rattle.httparse.specs.declared.spans.RequestSpans.{RequestSpans}
use Rattle.httparse.specs.Grammar.{ReadsRequest, RequestHead}
use Rattle.httparse.specs.Spans.{IsRequestAt, IsRequestOf, IsRequestWithin}
use Rattle.http_messages.specs.declared.head.HeadParts.{HeadParts as PartsValue}
use Rattle.http_messages.specs.declared.head.Named.{Named}
use Rattle.http_messages.specs.declared.head.Named.TheVariants as found
use Rattle.http_messages.specs.declared.fixed.FixedReply.{FixedReply}
use Rattle.http_messages.specs.declared.fixed.FixedReply.TheVariants.{Malformed}
use Rattle.http_messages.specs.declared.flaw.Flaw.TheVariants as flaw
use Rattle.http_messages.specs.Heads.{HeadParts, Pair, is_named, size_text}

abbrev pub parts : Result PartsValue FixedReply → Result HeadParts FixedReply
parts (Ok a) = Ok (record { method = a.method.now; target = a.target.now; size = a.size })
parts (Err why) = Err why

-- no value, one value, or several, which aren't listed because several are never accepted
pub data Values : Type 0 where
  none : Values
  one : List ℕ → Values
  many : Values

abbrev pub found_of : Named → Values
found_of found.None = none
found_of (found.One value) = one value.now
found_of found.Many = many

abbrev pub counted : List Pair → Values
counted [] = none
counted (f ∷ []) = one f.1
counted (f ∷ g ∷ more) = many

-- the values of the fields with the name `name`
abbrev pub values : List ℕ → List Pair → Values
values name fields = counted (filter (is_named name) fields)

abbrev pub one_more : Values → List ℕ → Values
one_more none value = one value
one_more (one first) value = many
one_more many value = many

abbrev pub size_by : Values → Result ℕ FixedReply
size_by none = Ok 0
size_by (one value) = size_text value
size_by many = Err (Malformed flaw.ContentLength)

-- the size of the body, given the values of `Transfer-Encoding` and of `Content-Length`
abbrev pub size_after : Values → Values → Result ℕ FixedReply
size_after none size = size_by size
size_after (one value) size = Err (Malformed flaw.TransferEncoding)
size_after many size = Err (Malformed flaw.TransferEncoding)

-- the spans were found, and they are the parts of the head `h`
abbrev pub FindsAt : List ℕ → List HeaderSpan → RequestHead → Option RequestSpans → Type 0
FindsAt head headers h None = ⊥
FindsAt head headers h (Some spans) = IsRequestAt head headers spans h

-- `found` has the parts of the head that `head` starts with, and it isn't `None` if that head has
-- at most `room` fields
pub record IsRead (head : List ℕ) (room : ℕ) (headers : List HeaderSpan) (found : Option RequestSpans) : Type 0 where
  pub within : IfSome found (IsRequestWithin head headers)
  pub is : IfSome found (IsRequestOf head headers)
  pub finds : (h : RequestHead) (rest : List ℕ) → ReadsRequest head h rest → length h.fields ≤ room → FindsAt head headers h found
