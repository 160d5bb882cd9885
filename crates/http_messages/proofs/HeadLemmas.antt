-- Lemmas about the tests of a head.
use Rattle.std.proofs.Common.{◌≡◌, ℕ, ◌+◌, ◌*◌, ◌-◌, ◌<◌, Bool, true, false, cond, List, [], ◌∷◌, length, take, codes, refl, sym, ap, ◌∙◌, arith}
use Rattle.std.specs.Prelude.{◌||◌, Err, filter, min, slice_index}
use Rattle.std.specs.Char.{digit_value, is_ascii_digit}
use Rattle.std.specs.List.{list_all, list_any}
use Rattle.std.specs.Str.Parse.{digits_value}
use Rattle.std.proofs.lemmas.Int.Digits.{digits_value_push}
use Rattle.std.proofs.lemmas.List.{take_more}
use Rattle.std.proofs.lemmas.List.Sums.{AllPass-from_list_all}
use Rattle.text_io.proofs.NumberLemmas.{digit_of}
use Rattle.http_messages.specs.declared.fixed.FixedReply.TheVariants.{Malformed}
use Rattle.http_messages.specs.declared.flaw.Flaw.TheVariants as flaw
use Rattle.http_messages.specs.Heads.{Pair, body_size, is_named, size_in}
use Rattle.text_io.specs.Inputs.{most_input}
use Rattle.http_messages.specs.HeadTests.{counted, size_after, size_by, values}

pub all_at : (p : ℕ → Bool) (xs : List ℕ) (i : ℕ) → list_all p xs ≡ true → i < length xs → p (slice_index xs i) ≡ true
all_at p xs i h inside = AllPass-from_list_all p xs h i 0 inside

pub capped_more : (v d : ℕ) → min (min v (most_input + 1) * 10 + d) (most_input + 1) ≡ min (v * 10 + d) (most_input + 1)
capped_more v d = omega arith

pub one_digit_more : (text : List ℕ) (i number : ℕ) → i < length text → is_ascii_digit (slice_index text i) ≡ true → number ≡ min (digits_value 10 (take i text)) (most_input + 1)
    → min (number * 10 + (slice_index text i - 48)) (most_input + 1) ≡ min (digits_value 10 (take (i + 1) text)) (most_input + 1)
one_digit_more text i number inside digit so_far =
    ap (λ n. min (n * 10 + (slice_index text i - 48)) (most_input + 1)) so_far
    ∙ ap (λ d. min (min (digits_value 10 (take i text)) (most_input + 1) * 10 + d) (most_input + 1)) (sym (digit_of (slice_index text i) digit))
    ∙ capped_more (digits_value 10 (take i text)) (digit_value (slice_index text i))
    ∙ ap (λ n. min n (most_input + 1)) (sym (ap (digits_value 10) (take_more text i 0 inside) ∙ digits_value_push 10 (take i text) (slice_index text i)))

-- ---- fields

abbrev is_some_of : {X : Type 0} → List X → Bool
is_some_of [] = false
is_some_of (x ∷ xs) = true

list_any_filtered : {X : Type 0} (p : X → Bool) (xs : List X) → list_any p xs ≡ is_some_of (filter p xs)
list_any_filtered p [] = refl
list_any_filtered p (x ∷ xs) = elim (p x) as (λ b. (b || list_any p xs) ≡ is_some_of (cond b (x ∷ filter p xs) (filter p xs))) [
  | true ↦ refl
  | false ↦ list_any_filtered p xs
]

size_by_in : (fields : List Pair) → size_in fields ≡ size_by (counted fields)
size_by_in [] = refl
size_by_in (f ∷ []) = refl
size_by_in (f ∷ g ∷ fields) = refl

after_coding : (coded : List Pair) (is_coded : Bool) (sizes : List Pair) → is_coded ≡ is_some_of coded → cond is_coded (Err (Malformed flaw.TransferEncoding)) (size_in sizes) ≡ size_after (counted coded) (counted sizes)
after_coding [] b sizes is = ap (λ (c : Bool). cond c (Err (Malformed flaw.TransferEncoding)) (size_in sizes)) is ∙ size_by_in sizes
after_coding (f ∷ []) b sizes is = ap (λ (c : Bool). cond c (Err (Malformed flaw.TransferEncoding)) (size_in sizes)) is
after_coding (f ∷ g ∷ more) b sizes is = ap (λ (c : Bool). cond c (Err (Malformed flaw.TransferEncoding)) (size_in sizes)) is

pub body_size_by : (fields : List Pair) → body_size fields ≡ size_after (values (codes "transfer-encoding") fields) (values (codes "content-length") fields)
unfolding body_size
body_size_by fields =
    after_coding (filter (is_named (codes "transfer-encoding")) fields) (list_any (is_named (codes "transfer-encoding")) fields) (filter (is_named (codes "content-length")) fields)
    (list_any_filtered (is_named (codes "transfer-encoding")) fields)
