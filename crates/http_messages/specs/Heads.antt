-- The heads of messages: HTTP/1.1 (RFC 9112), restricted by this project's profile.
use Rattle.std.specs.Prelude.{◌≡◌, ◌⊎◌, ℕ, zero, suc, ◌+◌, ◌==◌, ◌&&◌, Bool, true, false, not, nat_eq, nat_le, nat_lt, List, [], ◌∷◌, length, map, filter, take, codes, if◌then◌else◌, Option, Some, None, Result, Ok, Err}
use Rattle.std.specs.List.{ends_with, list_all, list_any}
use Rattle.std.specs.Char.{is_ascii_digit}
use Rattle.std.specs.Str.{str_eq_ignore_ascii_case}
use Rattle.std.specs.Str.Parse.{digits_value}
use Rattle.text_io.specs.Inputs.{most_input}
use Rattle.httparse.specs.Grammar.{RequestHead, ReadsRequest}
use Rattle.httparse.specs.Spans.{name_and_value}
use Rattle.std.specs.Option.{option_or}
use Rattle.http_messages.specs.declared.fixed.FixedReply.{FixedReply}
use Rattle.http_messages.specs.declared.fixed.FixedReply.TheVariants.{Malformed, TooLarge, HeadTooLarge}
use Rattle.http_messages.specs.declared.flaw.Flaw.TheVariants as flaw

-- ---- the end of a head

-- the smallest number up to `n` that satisfies `p`
abbrev pub least : (ℕ → Bool) → ℕ → Option ℕ
least p zero = if p zero then Some zero else None
least p (suc n) = option_or (least p n) (if p (suc n) then Some (suc n) else None)

-- the first `n` bytes end with CR LF CR LF
abbrev pub ends_head : List ℕ → ℕ → Bool
ends_head bytes n = ends_with nat_eq (take n bytes) (codes "\r\n\r\n")

-- the position after the first CR LF CR LF
abbrev pub head_end : List ℕ → Option ℕ
head_end bytes = least (ends_head bytes) (length bytes)

-- ---- lines

-- the bytes contain an LF without a CR before it; `cr` is true if the bytes follow a CR
abbrev pub bare_lf_after : Bool → List ℕ → Bool
bare_lf_after cr [] = false
bare_lf_after cr (b ∷ bytes) = if b == 10 && not cr then true else bare_lf_after (b == 13) bytes

-- the number of pairs CR LF in the bytes, with a CR before them if `cr` is true
abbrev pub pairs_after : Bool → List ℕ → ℕ
pairs_after cr [] = 0
pairs_after cr (b ∷ bytes) = (if b == 10 && cr then 1 else 0) + pairs_after (b == 13) bytes

abbrev pub has_bare_lf : List ℕ → Bool
has_bare_lf head = bare_lf_after false head

abbrev pub pairs : List ℕ → ℕ
pairs head = pairs_after false head

-- ---- the size of the body

-- the name of a field, and its value without the white space around it
abbrev pub Pair : Type 0
Pair = List ℕ × List ℕ

-- the field has the name `name`, compared without regard to ASCII case (RFC 9110 section 5.1)
abbrev pub is_named : List ℕ → Pair → Bool
is_named name field = str_eq_ignore_ascii_case field.0 name

-- the number in `text`, the value of `Content-Length` (RFC 9110 section 8.6): one or more decimal
-- digits, at most `most_input`
unfoldable pub size_text : List ℕ → Result ℕ FixedReply
size_text text =
    if not (nat_lt 0 (length text) && list_all is_ascii_digit text) then Err (Malformed flaw.ContentLength)
    else if nat_le (digits_value 10 text) most_input then Ok (digits_value 10 text)
    else Err TooLarge

-- the size of the body, given all fields `Content-Length` of a head
abbrev pub size_in : List Pair → Result ℕ FixedReply
size_in [] = Ok 0
size_in (f ∷ []) = size_text f.1
size_in (f ∷ g ∷ more) = Err (Malformed flaw.ContentLength)

-- the size of the body after a head with these fields: no `Transfer-Encoding`, and at most one
-- `Content-Length` (this project's profile, within RFC 9112 section 6.3)
unfoldable pub body_size : List Pair → Result ℕ FixedReply
body_size fields =
    if list_any (is_named (codes "transfer-encoding")) fields then Err (Malformed flaw.TransferEncoding)
    else size_in (filter (is_named (codes "content-length")) fields)

-- ---- a head

-- the method and the path of a head, and the size of its body
pub record HeadParts : Type 0 where
  pub method : List ℕ
  pub target : List ℕ
  pub size : ℕ

abbrev pub sized : List ℕ → List ℕ → Result ℕ FixedReply → Result HeadParts FixedReply
sized method target (Ok size) = Ok (record { method = method; target = target; size = size })
sized method target (Err why) = Err why

abbrev pub parts_of : RequestHead → Result HeadParts FixedReply
parts_of h = sized h.method h.target (body_size (map name_and_value h.fields))

-- `result` has the parts of `head`, or the fixed response for the first test that `head` fails
pub record IsJudged (head : List ℕ) (result : Result HeadParts FixedReply) : Type 0 where
  pub bare : has_bare_lf head ≡ true → result ≡ Err (Malformed flaw.BareLf)
  pub many : has_bare_lf head ≡ false → nat_lt 34 (pairs head) ≡ true → result ≡ Err HeadTooLarge
  -- otherwise the whole of `head` matches the grammar of HTTP/1.1, or it is malformed
  pub read : has_bare_lf head ≡ false → nat_lt 34 (pairs head) ≡ false → (h : RequestHead) → ReadsRequest head h [] → result ≡ parts_of h
  pub either : has_bare_lf head ≡ false → nat_lt 34 (pairs head) ≡ false
      → ((h : RequestHead) × ReadsRequest head h [] × (result ≡ parts_of h)) ⊎ (((h : RequestHead) → ReadsRequest head h [] → ⊥) × (result ≡ Err (Malformed flaw.Grammar)))
