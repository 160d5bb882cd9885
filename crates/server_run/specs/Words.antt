-- Defines the status and the refusal in the first bytes of a response (this project's profile).
use Rattle.std.specs.Prelude.{ℕ, ◌==◌, ◌||◌, Bool, List, drop, take, length, bytes_eq, codes, if◌then◌else◌, Option, Some, None, option_map}
use Rattle.std.specs.List.{take_while}
use Rattle.std.specs.Option.{option_and_then, option_map_or}
use Rattle.std.specs.Char.{is_ascii_digit, is_ascii_lowercase}
use Rattle.http_messages.specs.ReplyParts.{status_in}

-- the digits at the start of `text`
abbrev pub digits_in : List ℕ → List ℕ
digits_in text = take_while is_ascii_digit text

-- `byte` is a lower-case letter or a dash
abbrev pub is_word_byte : ℕ → Bool
is_word_byte byte = is_ascii_lowercase byte || byte == 45

-- the lower-case letters and dashes at the start of `text`
abbrev pub word_in : List ℕ → List ℕ
word_in text = take_while is_word_byte text

-- the digits of the status of a response, or nothing if the bytes don't contain it
abbrev pub status_digits : List ℕ → List ℕ
status_digits reply = digits_in (status_in reply)

-- the rest of `bytes` after `text`, if it begins with `text`
abbrev pub behind : List ℕ → List ℕ → Option (List ℕ)
behind text bytes = if bytes_eq (take (length text) bytes) text then Some (drop (length text) bytes) else None

-- the code and the name of a refusal
abbrev pub RefusalWords : Type 0
RefusalWords = List ℕ × List ℕ

-- the rest of `text` after its digits
abbrev pub past_digits : List ℕ → List ℕ
past_digits text = drop (length (digits_in text)) text

-- the rest of `text` after the client's release mark, which precedes the name in the refusal of a
-- released number
abbrev pub past_mark : List ℕ → List ℕ
past_mark text = option_map_or past_digits (behind (codes ",\"mark\":") text) text

-- the code and the name of a refusal, from the bytes after `{"code":`
abbrev pub refusal_after : List ℕ → Option RefusalWords
refusal_after rest =
    option_map (λ (name : List ℕ). (digits_in rest, word_in name)) (behind (codes ",\"refused\":\"") (past_mark (past_digits rest)))

-- the code and the name of a refusal, from the first bytes of a response body
abbrev pub refusal_in : List ℕ → Option RefusalWords
refusal_in body = option_and_then refusal_after (behind (codes "{\"code\":") body)
