-- The heads of the requests that clients send: HTTP/1.1 (RFC 9112), with the lines of this
-- project's profile.
use Rattle.std.specs.Prelude.{◌≡◌, ◌<◌, ℕ, ◌&&◌, Bool, true, nat_lt, List, ◌++◌, length, codes, decimal}
use Rattle.std.specs.List.{list_all}
use Rattle.http_messages.specs.Messages.{Brings, IsHeardAs, MessageParts}

-- the head of a POST request with the path `target` and a body of `size` bytes
unfoldable pub request_head : List ℕ → ℕ → List ℕ
request_head target size = codes "POST " ++ target ++ codes " HTTP/1.1\r\nHost: localhost\r\nContent-Length: " ++ decimal size ++ codes "\r\n\r\n"

-- `b` is a visible character (RFC 5234 appendix B.1)
abbrev pub is_visible : ℕ → Bool
is_visible b = nat_lt 32 b && nat_lt b 127

-- `target` consists of one or more visible characters
abbrev pub IsTarget : List ℕ → Type 0
IsTarget target = (0 < length target) × (list_all is_visible target ≡ true)

abbrev pub posted : List ℕ → List ℕ → MessageParts
posted target body = record { method = codes "POST"; target = target; body = body }

-- the head, followed by any body of `size` bytes, is only read as the POST request with this body
abbrev pub IsHeardBefore : List ℕ → ℕ → Type 0
IsHeardBefore target size = (body : List ℕ) → length body ≡ size → IsHeardAs (request_head target size ++ body) (Brings (posted target body))
