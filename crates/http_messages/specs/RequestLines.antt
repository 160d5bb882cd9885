-- Defines the request line at the start of the bytes of a connection (RFC 9112, section 3).
use Rattle.std.specs.Prelude.{ℕ, ◌==◌, ◌&&◌, ◌||◌, Bool, not, nat_eq, List, drop, length, slice_index, codes, if◌then◌else◌, Option, Some, None}
use Rattle.std.specs.List.{after_first, before_first, list_all, list_any, starts_with}
use Rattle.std.specs.Char.{is_ascii_alphanumeric, is_ascii_digit}
use Rattle.http_messages.specs.RequestHeads.{is_visible}

-- a character of a token (RFC 9110, section 5.6.2)
abbrev pub is_token_char : ℕ → Bool
is_token_char b = is_ascii_alphanumeric b || list_any (λ mark. mark == b) (codes "!#$%&'*+-.^_`|~")

-- `text` is a method: one or more characters of a token
abbrev pub is_method : List ℕ → Bool
is_method text = not (length text == 0) && list_all is_token_char text

-- `text` is a target: one or more visible characters
abbrev pub is_target : List ℕ → Bool
is_target text = not (length text == 0) && list_all is_visible text

-- `text` is a version: `HTTP/`, a digit, a dot and a digit
abbrev pub is_version : List ℕ → Bool
is_version text = length text == 8 && starts_with nat_eq text (codes "HTTP/") && is_ascii_digit (slice_index text 5) && slice_index text 6 == 46 && is_ascii_digit (slice_index text 7)

abbrev pub is_space : ℕ → Bool
is_space b = b == 32

-- `rest` is a target, one space and a version
abbrev pub is_target_and_version : List ℕ → Bool
is_target_and_version rest = is_target (before_first is_space rest) && is_version (after_first is_space rest)

-- `line` is a request line without its end: a method, one space, a target, one space and a version
abbrev pub is_request_line : List ℕ → Bool
is_request_line line = is_method (before_first is_space line) && is_target_and_version (after_first is_space line)

-- a CR or an LF
abbrev pub is_line_end : ℕ → Bool
is_line_end b = b == 13 || b == 10

-- the first line of `bytes`, without its end
abbrev pub first_line : List ℕ → List ℕ
first_line bytes = before_first is_line_end bytes

-- CR LF ends the first line of `bytes`
abbrev pub is_line_ended : List ℕ → Bool
is_line_ended bytes = starts_with nat_eq (drop (length (first_line bytes)) bytes) (codes "\r\n")

-- the first line of `bytes` if CR LF ends it and it has the form of a request line
abbrev pub request_line : List ℕ → Option (List ℕ)
request_line bytes = if is_line_ended bytes && is_request_line (first_line bytes) then Some (first_line bytes) else None
