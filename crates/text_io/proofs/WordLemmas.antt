-- Status words: four hexadecimal digits.
use Rattle.std.proofs.Common.{◌≡◌, ◌<◌, ◌^◌, ℕ, zero, suc, true, false, cond, List, [], ◌∷◌, length, drop, Some, None, Result, Ok, Err, MatchResult, refl, sym, subst, ap, ◌∙◌, arith}
use Rattle.std.specs.Prelude.{IsUtf8, ◌==◌}
use Rattle.std.specs.Char.{digit_value, is_ascii_hexdigit}
use Rattle.std.specs.List.{list_all}
use Rattle.std.specs.Result.{result_ok}
use Rattle.std.specs.Str.{IsAscii}
use Rattle.std.specs.Str.Parse.{AllDigits, ParsesUnsigned, digits_value, without_leading_plus}
use Rattle.std.proofs.lemmas.Bool.{and_parts, eqb-true}
use Rattle.std.proofs.lemmas.Option.{same_Some}
use Rattle.std.proofs.lemmas.Bool.Decides.{nat_tests}
use Rattle.std.proofs.lemmas.Int.Digits.{digits_value-lt}
use Rattle.std.proofs.lemmas.Result.{Ok-from_Ok_iff}
use Rattle.std.proofs.lemmas.Str.{IsUtf8-from_ascii}
use Rattle.text_io.specs.Numbers.{is_word, status_word}

small : (c : ℕ) → is_ascii_hexdigit c ≡ true → c < 128
small c h = grind (arith, nat_tests)

ascii : (text : List ℕ) → list_all is_ascii_hexdigit text ≡ true → IsAscii text
ascii [] h i = omega arith
ascii (c ∷ text) h zero = small c (and_parts (is_ascii_hexdigit c) (list_all is_ascii_hexdigit text) h).0
ascii (c ∷ text) h (suc i) = ascii text (and_parts (is_ascii_hexdigit c) (list_all is_ascii_hexdigit text) h).1 i

-- A status word is valid UTF-8.
pub word_text : (text : List ℕ) → is_word text ≡ true → IsUtf8 text
word_text text word = IsUtf8-from_ascii text (ascii text (and_parts _ _ word).1)

hex_digit : (c : ℕ) → is_ascii_hexdigit c ≡ true → digit_value c < 16
hex_digit c h = grind (arith, nat_tests)

all_hex : (text : List ℕ) → list_all is_ascii_hexdigit text ≡ true → AllDigits 16 text
all_hex [] h = tt
all_hex (c ∷ text) h =
    let parts = and_parts (is_ascii_hexdigit c) (list_all is_ascii_hexdigit text) h in
    (hex_digit c parts.0, all_hex text parts.1)

no_plus : (c : ℕ) → is_ascii_hexdigit c ≡ true → c == 43 ≡ false
no_plus c h = grind (arith, nat_tests)

plain : (text : List ℕ) → list_all is_ascii_hexdigit text ≡ true → without_leading_plus text ≡ text
plain [] h = refl
plain (c ∷ text) h =
    ap (λ b. drop (cond b 1 0) (c ∷ text)) (no_plus c (and_parts (is_ascii_hexdigit c) (list_all is_ascii_hexdigit text) h).0)

-- Parsing a status word as a hexadecimal number of 16 bits returns its value.
pub word_number : {E : Type 0} (text : List ℕ) (r : Result ℕ E) → is_word text ≡ true → ParsesUnsigned 16 16 text r → result_ok r ≡ status_word text
word_number text r word parsed =
    let parts = and_parts (length text == 4) (list_all is_ascii_hexdigit text) word in
    let four : length text ≡ 4 = eqb-true (length text) 4 parts.0 in
    let digits = all_hex text parts.1 in
    let own = rw (plain text parts.1) at parsed in
    let small : digits_value 16 text < 2 ^ 16 = omega (arith, digits_value-lt 16 text digits, ap (λ n. 16 ^ n) four) in
    ap result_ok (Ok-from_Ok_iff r _ _ own ((omega arith, digits), small))
    ∙ sym (ap (λ b. cond b (Some (digits_value 16 text)) None) word)

-- ---- bytes parsed as text

pub none_unread : {A E : Type 0} (P : A → Type 0) (Q : E → Type 0) (r : Result A E) → MatchResult r P Q → ((e : E) → Q e → ⊥) → result_ok r ≡ None → ⊥
none_unread P Q (Ok x) held apart none = none-some_is none
  where
    none-some_is : Some x ≡ None → ⊥
    none-some_is e = cc
none_unread P Q (Err e) held apart none = apart e held

pub read_alike : {A E : Type 0} (P : A → Type 0) (Q : E → Type 0) (r : Result A E) (x : A) → MatchResult r P Q → result_ok r ≡ Some x → P x
read_alike P Q (Ok y) x held is = subst P (same_Some y x is) held
read_alike P Q (Err e) x held is = absurd (apart is)
  where
    apart : None ≡ Some x → ⊥
    apart e = cc
