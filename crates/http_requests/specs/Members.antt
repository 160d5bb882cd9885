-- Defines the value of a JSON text (RFC 8259), and the members of an object.
use Rattle.std.specs.Prelude.{ℕ, if◌then◌else◌, Bool, List, Option, Some, None, option_and_then}
use Rattle.std.specs.Str.{is_utf8}
use Rattle.serde_json.specs.Data.{Data}
use Rattle.serde_json.specs.Find.{get, as_number, as_str, as_u64}
use Rattle.serde_json.specs.Read.{read}
use Rattle.store_data.specs.Name.{is_name}

-- `x`, if it passes the test
abbrev pub passing : {T : Type 0} → (T → Bool) → T → Option T
passing test x = if test x then Some x else None

-- the value of `body` if it is JSON in UTF-8; if a member is given twice, the last one counts
unfoldable pub value_in : List ℕ → Option Data
value_in body = if is_utf8 body then read body else None

unfoldable pub text_at : List ℕ → Data → Option (List ℕ)
text_at key d = option_and_then as_str (get key d)

unfoldable pub name_at : List ℕ → Data → Option (List ℕ)
name_at key d = option_and_then (passing is_name) (text_at key d)

-- a number without a minus sign, a point or an exponent
abbrev pub number_at : List ℕ → Data → Option ℕ
number_at key d = option_and_then as_u64 (option_and_then as_number (get key d))
