-- Proves that digits and words of a response are ASCII.
use Rattle.std.proofs.Common.{◌≡◌, ℕ, ◌<◌, Bool, true, false, cond, List, [], ◌∷◌, refl, arith}
use Rattle.std.specs.Prelude.{IsOk, MatchResult, Result, Ok, Err}
use Rattle.std.specs.Char.{is_ascii_digit}
use Rattle.std.specs.List.{take_while}
use Rattle.std.specs.Str.{IsAscii, IsUtf8}
use Rattle.std.proofs.lemmas.Bool.Decides.{nat_tests}
use Rattle.std.proofs.lemmas.List.Sums.{take_while-cons}
use Rattle.std.proofs.lemmas.Str.{IsUtf8-from_ascii}
use Rattle.std.proofs.lemmas.Str.Ascii.{IsAscii-nil, IsAscii-cons}
use Rattle.server_run.specs.Words.{digits_in, is_word_byte, word_in}

front_cons : (b : Bool) (x : ℕ) (xs : List ℕ) → (b ≡ true → x < 128) → IsAscii xs → IsAscii (cond b (x ∷ xs) [])
front_cons true x xs small rest = IsAscii-cons x xs (small refl) rest
front_cons false x xs small rest = IsAscii-nil

-- the longest prefix whose bytes satisfy `p` is ASCII if all bytes that satisfy `p` are ASCII
front-ascii : (p : ℕ → Bool) → ((b : ℕ) → p b ≡ true → b < 128) → (xs : List ℕ) → IsAscii (take_while p xs)
front-ascii p small [] = IsAscii-nil
front-ascii p small (x ∷ xs) = rw take_while-cons (front_cons (p x) x (take_while p xs) (small x) (front-ascii p small xs))

digit_small : (b : ℕ) → is_ascii_digit b ≡ true → b < 128
digit_small b is = grind (arith, nat_tests)

word_byte_small : (b : ℕ) → is_word_byte b ≡ true → b < 128
word_byte_small b is = grind (arith, nat_tests)

pub digits-utf8 : (text : List ℕ) → IsUtf8 (digits_in text)
digits-utf8 text = IsUtf8-from_ascii (digits_in text) (front-ascii is_ascii_digit digit_small text)

pub word-utf8 : (text : List ℕ) → IsUtf8 (word_in text)
word-utf8 text = IsUtf8-from_ascii (word_in text) (front-ascii is_word_byte word_byte_small text)

-- a result is `Ok` if no error is possible
pub ok_unless : {T E : Type 0} (r : Result T E) (P : T → Type 0) (Q : E → Type 0) → ((e : E) → Q e → ⊥) → MatchResult r P Q → IsOk r
ok_unless (Ok x) P Q never is = refl
ok_unless (Err e) P Q never is = absurd (never e is)
