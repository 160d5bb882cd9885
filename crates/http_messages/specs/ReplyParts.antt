-- The parts of a response (RFC 9112).
use Rattle.std.specs.Prelude.{ℕ, List, drop, length, take, unwrap_or}
use Rattle.http_messages.specs.Heads.{head_end}

-- the three digits of the status code, after the version and a space (section 4)
abbrev pub status_in : List ℕ → List ℕ
status_in reply = take 3 (drop 9 reply)

-- the bytes after the head, or no bytes if the head doesn't end (section 2.1)
abbrev pub body_behind : List ℕ → List ℕ
body_behind reply = drop (unwrap_or (head_end reply) (length reply)) reply
