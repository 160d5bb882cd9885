-- Decimal numbers from 1 with at most 18 digits.
use Rattle.std.proofs.Common.{◌≡◌, ℕ, ◌+◌, ◌*◌, ◌-◌, ◌^◌, ◌<◌, ◌≤◌, ◌==◌, true, List, [], ◌∷◌, length, take, get_or, sym, ap, ◌∙◌, arith}
use Rattle.std.specs.Prelude.{◌&&◌, nat_le, not}
use Rattle.std.specs.Char.{digit_value, is_ascii_digit}
use Rattle.std.specs.List.{list_all}
use Rattle.std.specs.Str.Parse.{AllDigits, digits_value}
use Rattle.std.proofs.Math.Nat.{pow-le-pow_right}
use Rattle.std.proofs.lemmas.Bool.{and_parts}
use Rattle.std.proofs.lemmas.Bool.Decides.{nat_tests}
use Rattle.std.proofs.lemmas.List.Sums.{AllPass-from_list_all}
use Rattle.std.proofs.lemmas.Int.Digits.{digits_value-lt, digits_value_more}
use Rattle.std.proofs.lemmas.Str.Parse.{digits_value-take-le}
use Rattle.text_io.specs.Numbers.{is_number}

-- `text` is 1 to 18 decimal digits, and the first isn't 0
pub record IsNumber (text : List ℕ) : Type 0 where
  pub some : 1 ≤ length text
  pub few : length text ≤ 18
  pub digits : list_all is_ascii_digit text ≡ true
  pub first : get_or text 0 0 ≡ 48 → ⊥

pub is_number_is : (text : List ℕ) → is_number text ≡ true → IsNumber text
is_number_is text h =
    let all = and_parts (nat_le 1 (length text) && nat_le (length text) 18 && list_all is_ascii_digit text) (not (get_or text 0 0 == 48)) h in
    let front = and_parts (nat_le 1 (length text) && nat_le (length text) 18) (list_all is_ascii_digit text) all.0 in
    let sizes = and_parts (nat_le 1 (length text)) (nat_le (length text) 18) front.0 in
    record {
      some = grind (arith, nat_tests, sizes.0);
      few = grind (arith, nat_tests, sizes.1);
      digits = front.1;
      first = λ zero. grind (arith, nat_tests, all.1, zero);
    }

pub digit_of : (c : ℕ) → is_ascii_digit c ≡ true → digit_value c ≡ c - 48
digit_of c h = grind (arith, nat_tests)

at_least_0 : (c : ℕ) → is_ascii_digit c ≡ true → 48 ≤ c
at_least_0 c h = grind (arith, nat_tests)

below_ten : (c : ℕ) → is_ascii_digit c ≡ true → digit_value c < 10
below_ten c h = grind (arith, nat_tests)

all_below_ten : (text : List ℕ) → list_all is_ascii_digit text ≡ true → AllDigits 10 text
all_below_ten [] h = tt
all_below_ten (c ∷ text) h = let both = and_parts (is_ascii_digit c) (list_all is_ascii_digit text) h in (below_ten c both.0, all_below_ten text both.1)

pub number_is_small : (text : List ℕ) → IsNumber text → digits_value 10 text < 10 ^ 18
number_is_small text h =
    let most : 10 ^ length text ≤ 10 ^ 18 = pow-le-pow_right (omega arith) h.few in
    omega (arith, digits_value-lt 10 text (all_below_ten text h.digits), most)

pub number_is_some : (text : List ℕ) → IsNumber text → 1 ≤ digits_value 10 text
number_is_some [] h = absurd (omega (arith, h.some))
number_is_some (c ∷ text) h =
    let digit = and_parts (is_ascii_digit c) (list_all is_ascii_digit text) h.digits in
    let least : digits_value 10 (c ∷ []) ≤ digits_value 10 (c ∷ text) = digits_value-take-le 10 (c ∷ text) 1 (omega arith) in
    let first : 1 ≤ digit_value c = omega (arith, digit_of c digit.0, at_least_0 c digit.0, h.first) in
    omega (arith, least, first)

-- The value of the first `i + 1` digits is ten times the value of the first `i` digits plus the
-- next digit.
pub number_more : (text : List ℕ) (i : ℕ) → IsNumber text → i < length text → digits_value 10 (take i text) * 10 + (get_or text i 0 - 48) ≡ digits_value 10 (take (i + 1) text)
number_more text i h within =
    ap (λ d. digits_value 10 (take i text) * 10 + d) (sym (digit_of (get_or text i 0) (AllPass-from_list_all is_ascii_digit text h.digits i 0 within)))
    ∙ sym (digits_value_more 10 text i within)

pub so_far_small : (text : List ℕ) (i : ℕ) → IsNumber text → digits_value 10 (take i text) < 10 ^ 18
so_far_small text i h = omega (arith, digits_value-take-le 10 text i (omega arith), number_is_small text h)
