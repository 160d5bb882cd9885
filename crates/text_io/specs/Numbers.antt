-- The numbers that a text can represent (this project's profile).
use Rattle.std.specs.Prelude.{ℕ, ◌==◌, ◌&&◌, nat_le, not, Bool, List, length, slice_index, codes, bytes_eq, Option, Some, None, option_and_then, if◌then◌else◌}
use Rattle.std.specs.Char.{is_ascii_digit, is_ascii_hexdigit}
use Rattle.std.specs.List.{list_all}
use Rattle.std.specs.Str.Parse.{digits_value}

-- `text` is 1 to 18 decimal digits, and the first isn't 0
abbrev pub is_number : List ℕ → Bool
is_number text = nat_le 1 (length text) && nat_le (length text) 18 && list_all is_ascii_digit text && not (slice_index text 0 == 48)

abbrev pub number_in : List ℕ → Option ℕ
number_in text = if is_number text then Some (digits_value 10 text) else None

-- the value of a decimal number of at most 18 digits without leading zeros
abbrev pub number_of : List ℕ → Option ℕ
number_of text = if bytes_eq text (codes "0") then Some 0 else number_in text

abbrev pub within : ℕ → ℕ → ℕ → Option ℕ
within least most n = if nat_le least n && nat_le n most then Some n else None

abbrev pub number_within : ℕ → ℕ → List ℕ → Option ℕ
number_within least most text = option_and_then (within least most) (number_of text)

-- `text` is four hexadecimal digits of either case
abbrev pub is_word : List ℕ → Bool
is_word text = (length text == 4) && list_all is_ascii_hexdigit text

abbrev pub status_word : List ℕ → Option ℕ
status_word text = if is_word text then Some (digits_value 16 text) else None
