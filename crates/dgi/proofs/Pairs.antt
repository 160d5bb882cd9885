-- Lemmas about the loop that decodes pairs of hexadecimal digits.
use Rattle.std.proofs.Common.{◌≡◌, ℕ, ◌+◌, ◌*◌, ◌%◌, ◌<◌, ◌≤◌, Bool, true, false, ◌&&◌, List, length, take, drop, slice_index, slice_set, Option, Some, None, unwrap_or, Result, Ok, Err, refl, ap, arith}
use Rattle.std.proofs.lemmas.Bool.{lt-ltb}
use Rattle.std.specs.Prelude.{IfSome, nat_lt, if◌then◌else◌}
use Rattle.hex.specs.Hex.{decode_pairs, digit_or_error, hex_digit_value, pair_value, ◌>>=◌}
use Rattle.hex.specs.declared.error.FromHexError.{FromHexError}
use Rattle.hex.proofs.Pairs.{prepend, decode_done, decode_err, decode_step}
use Rattle.dgi.specs.declared.fault.DgiFault.TheVariants.{NotHex}
use Rattle.dgi.specs.Coding.{bytes_or_fault}

-- the value of the digit `c`, or 255 if `c` isn't a digit
abbrev pub value : ℕ → ℕ
value c = unwrap_or (hex_digit_value c) 255

-- the byte of the digits `a` and `b`, if both are digits
abbrev pub byte : ℕ → ℕ → ℕ
byte a b = value a % 16 * 16 + value b % 16

-- If all characters so far are digits, the first `i` bytes are decoded from the first pairs.
-- Otherwise, decoding `text` fails.
abbrev pub IsDecoded : List ℕ → List ℕ → ℕ → Bool → Type 0
IsDecoded text bytes i true = decode_pairs 0 text ≡ prepend (take i bytes) (decode_pairs (2 * i) (drop (2 * i) text))
IsDecoded text bytes i false = (e : FromHexError) × (decode_pairs 0 text ≡ Err e)

small : (c : ℕ) → IfSome (hex_digit_value c) (λ v. v < 16)
small c = grind (arith)

-- If the flag is `true`, the pair decodes to the byte. Otherwise, decoding the pair fails.
abbrev Makes : Bool → ℕ → Result ℕ FromHexError → Type 0
Makes true v r = r ≡ Ok v
Makes false v r = (e : FromHexError) × (r ≡ Err e)

make_of : (a b i : ℕ) (o p : Option ℕ) → IfSome o (λ v. v < 16) → IfSome p (λ v. v < 16)
    → Makes (nat_lt (unwrap_or o 255) 16 && nat_lt (unwrap_or p 255) 16) (unwrap_or o 255 % 16 * 16 + unwrap_or p 255 % 16)
    (digit_or_error a i o >>= (λ h. digit_or_error b (i + 1) p >>= (λ l. Ok (h * 16 + l))))
make_of a b i None p ho hp = (_, refl)
make_of a b i (Some x) None ho hp = rw (lt-ltb x 16 ho) (_, refl)
make_of a b i (Some x) (Some y) ho hp =
    let e : x * 16 + y ≡ x % 16 * 16 + y % 16 = omega (arith, ho, hp) in
    rw (lt-ltb x 16 ho, lt-ltb y 16 hp) (ap Ok e)

make : (a b i : ℕ) → Makes (nat_lt (value a) 16 && nat_lt (value b) 16) (byte a b) (pair_value a b i)
make a b i = make_of a b i (hex_digit_value a) (hex_digit_value b) (small a) (small b)

step_of : (text bytes : List ℕ) (i v : ℕ) (all high low : Bool) → 2 * i + 1 < length text → i < length bytes
    → Makes (high && low) v (pair_value (slice_index text (2 * i)) (slice_index text (2 * i + 1)) (2 * i))
    → IsDecoded text bytes i all → IsDecoded text (slice_set bytes i v) (i + 1) ((all && high) && low)
step_of text bytes i v true true true fits room made was = decode_step text bytes i v fits room made was
step_of text bytes i v true true false fits room made was = (made.0, decode_err text bytes i made.0 fits made.1 was)
step_of text bytes i v true false low fits room made was = (made.0, decode_err text bytes i made.0 fits made.1 was)
step_of text bytes i v false high low fits room made was = was

-- one more pair
pub step_decoded : (text bytes : List ℕ) (i : ℕ) (all : Bool) → 2 * i + 1 < length text → i < length bytes → IsDecoded text bytes i all
    → let a = slice_index text (2 * i) in let b = slice_index text (2 * i + 1) in
    IsDecoded text (slice_set bytes i (byte a b)) (i + 1) ((all && nat_lt (value a) 16) && nat_lt (value b) 16)
step_decoded text bytes i all fits room was =
    let a = slice_index text (2 * i) in
    let b = slice_index text (2 * i + 1) in
    step_of text bytes i (byte a b) all (nat_lt (value a) 16) (nat_lt (value b) 16) fits room (make a b (2 * i)) was

-- the end of the loop
pub decoded : (text bytes : List ℕ) (i : ℕ) (all : Bool) → length bytes ≤ i → length text ≤ 2 * i → IsDecoded text bytes i all
    → bytes_or_fault (decode_pairs 0 text) ≡ (if all then Ok bytes else Err NotHex)
decoded text bytes i true done fits was = ap bytes_or_fault (decode_done text bytes i done fits was)
decoded text bytes i false done fits was = ap bytes_or_fault was.1
