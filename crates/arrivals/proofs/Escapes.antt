-- Lemmas about texts that JSON doesn't escape.
use Rattle.std.proofs.Common.{◌≡◌, ◌<◌, ◌/◌, ◌%◌, ℕ, zero, suc, Bool, true, List, [], ◌∷◌, ◌++◌, refl, ap, ◌∙◌, inl, inr, arith}
use Rattle.std.specs.Prelude.{IsTrue, ◌&&◌, slice_index}
use Rattle.std.specs.Prelude.{Result, Ok, Err, IsOk, MatchResult}
use Rattle.std.specs.List.{list_all}
use Rattle.std.specs.Str.{IsAscii}
use Rattle.std.proofs.lemmas.Bool.{and_parts, cases_lt}
use Rattle.std.proofs.lemmas.Bool.Decides.{nat_tests}
use Rattle.std.proofs.lemmas.Str.Ascii.{IsAscii-nil, IsAscii-cons}
use Rattle.json.specs.Print.{escape, escape_byte}
use Rattle.hex.specs.Hex.{IsBytes, encode_with, encode_upper, upper_digits}
use Rattle.store_data.specs.Name.{is_name, is_name_char}
use Rattle.arrivals.specs.Values.{IsPlain}

pub escape_char : (c : ℕ) → is_name_char c ≡ true → escape_byte c ≡ c ∷ []
unfolding escape_byte
escape_char c h = grind (arith, nat_tests)

pub name_char_ascii : (c : ℕ) → is_name_char c ≡ true → c < 128
name_char_ascii c h = grind (arith, nat_tests)

plain_parts : (x : ℕ) (xs : List ℕ) → IsPlain (x ∷ xs) → (is_name_char x ≡ true) × IsPlain xs
plain_parts x xs h = and_parts (is_name_char x) (list_all is_name_char xs) h

plain_cons : (x : ℕ) (xs : List ℕ) → is_name_char x ≡ true → IsPlain xs → IsPlain (x ∷ xs)
plain_cons x xs first rest = ap (λ (b : Bool). b && list_all is_name_char xs) first ∙ rest

pub escape_plain : (xs : List ℕ) → IsPlain xs → escape xs ≡ xs
escape_plain [] h = refl
escape_plain (x ∷ xs) h = let parts = plain_parts x xs h in ap (λ (front : List ℕ). front ++ escape xs) (escape_char x parts.0) ∙ ap (λ (rest : List ℕ). x ∷ rest) (escape_plain xs parts.1)

pub plain_ascii : (xs : List ℕ) → IsPlain xs → IsAscii xs
plain_ascii [] h = IsAscii-nil
plain_ascii (x ∷ xs) h = let parts = plain_parts x xs h in IsAscii-cons x xs (name_char_ascii x parts.0) (plain_ascii xs parts.1)

-- the first `n` digits pass the test
are_plain_digits : ℕ → Bool
are_plain_digits zero = true
are_plain_digits (suc n) = is_name_char (slice_index upper_digits n) && are_plain_digits n

plain_digits_at : (n k : ℕ) → are_plain_digits n ≡ true → k < n → is_name_char (slice_index upper_digits k) ≡ true
unfolding are_plain_digits
plain_digits_at zero k h lt = absurd (omega arith)
plain_digits_at (suc n) k h lt =
    let parts = and_parts (is_name_char (slice_index upper_digits n)) (are_plain_digits n) h in
    elim (cases_lt k n) [
      | inl below ↦ plain_digits_at n k parts.1 below
      | inr top ↦ let e : k ≡ n = omega arith in rw e parts.0
    ]

hex_digit_plain : (k : ℕ) → k < 16 → is_name_char (slice_index upper_digits k) ≡ true
unfolding are_plain_digits
hex_digit_plain k lt = plain_digits_at 16 k refl lt

pub hex_plain : (xs : List ℕ) → IsBytes xs → IsPlain (encode_upper xs)
unfolding encode_with
hex_plain [] fits = refl
hex_plain (x ∷ xs) fits =
    let small : x < 256 = fits 0 in
    plain_cons (slice_index upper_digits (x / 16)) (slice_index upper_digits (x % 16) ∷ encode_upper xs) (hex_digit_plain (x / 16) (omega arith))
    (plain_cons (slice_index upper_digits (x % 16)) (encode_upper xs) (hex_digit_plain (x % 16) (omega arith)) (hex_plain xs (λ i. fits (suc i))))

pub name_plain : (n : List ℕ) → IsTrue (is_name n) → IsPlain n
name_plain n h = grind (arith, nat_tests)

-- a result is `Ok` if no error is possible
pub IsOk-from_match : {T E : Type 0} (r : Result T E) (P : T → Type 0) (Q : E → Type 0) → ((e : E) → Q e → ⊥) → MatchResult r P Q → IsOk r
IsOk-from_match (Ok x) P Q none is = refl
IsOk-from_match (Err e) P Q none is = absurd (none e is)
