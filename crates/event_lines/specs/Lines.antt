-- The text of an event line (this project's profile).
use Rattle.std.specs.Prelude.{ℕ, ◌==◌, ◌&&◌, ◌++◌, ◌∷◌, [], Bool, not, nat_le, if◌then◌else◌, List, codes}
use Rattle.std.specs.List.{flat_map}
use Rattle.std.specs.Fmt.{decimal}
use Rattle.hex.specs.Hex.{encode_upper}

-- a space, the key, an equals sign, and the value without any escape
abbrev pub pair : List ℕ → List ℕ → List ℕ
pair key value = 32 ∷ key ++ 61 ∷ value

abbrev pub number_pair : List ℕ → ℕ → List ℕ
number_pair key n = pair key (decimal n)

-- `byte` is a printable ASCII character other than the quote and the backslash
abbrev pub is_plain : ℕ → Bool
is_plain byte = nat_le 32 byte && nat_le byte 126 && not (byte == 34) && not (byte == 92)

-- the byte itself if it is plain, otherwise `\x` and its two hexadecimal digits
abbrev pub escaped : ℕ → List ℕ
escaped byte = if is_plain byte then byte ∷ [] else codes "\\x" ++ encode_upper (byte ∷ [])

-- the escaped form of `bytes`, in quotes: for bytes that a client chose
abbrev pub quoted : List ℕ → List ℕ
quoted bytes = 34 ∷ flat_map escaped bytes ++ 34 ∷ []

abbrev pub quoted_pair : List ℕ → List ℕ → List ℕ
quoted_pair key bytes = pair key (quoted bytes)
