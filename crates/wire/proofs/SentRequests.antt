-- Proves that the body of a request that is sent is parsed as this request.
use Rattle.std.proofs.Common.{◌≡◌, ◌<◌, ◌≤◌, ◌+◌, ◌-◌, ◌*◌, ◌^◌, ◌/◌, ◌%◌, ◌==◌, ℕ, zero, suc, Bool, true, false, cond, List, length, Some, None, inl, inr, refl, sym, ap, ◌∙◌, arith, length-append, append_assoc}
use Rattle.std.specs.Prelude.{◌&&◌, nat_le, slice_index, option_map, option_and_then, IsUtf8, IsTrue}
use Rattle.std.specs.Char.{digit_value, is_ascii_hexdigit}
use Rattle.std.specs.Str.Parse.{digits_value}
use Rattle.std.proofs.lemmas.Bool.{and_parts, cases_lt}
use Rattle.std.proofs.lemmas.Bool.Decides.{nat_tests}
use Rattle.hex.specs.Hex.{encode_with, upper_digits}
use Rattle.json.proofs.Printed.Decimals.{IsNumber-decimal}
use Rattle.serde_json.specs.Read.{read}
use Rattle.serde_json.specs.Written.{compact_text}
use Rattle.serde_json.proofs.Numbers.{number_of-decimal}
use Rattle.serde_json.proofs.OnLiterals.{serde_json_on_literals}
use Rattle.store_data.specs.Name.{is_name}
use Rattle.job_facts.specs.declared.request.Call.{Call}
use Rattle.job_facts.specs.declared.request.Call.TheVariants.{Job, Release}
use Rattle.job_facts.specs.declared.request.Request.TheVariants as request
use Rattle.serde_json.specs.Data.{boolean}
use Rattle.arrivals.proofs.Escapes.{escape_plain, name_plain}
use Rattle.text_io.specs.Inputs.{most_input}
use Rattle.http_requests.specs.Members.{passing, name_at, text_at}
use Rattle.text_io.specs.Numbers.{is_word}
use Rattle.http_requests.specs.Requests.{abort_in, answer_in, call_by_word, call_in, call_of_value, close_in, discard_in, flag_at, is_lot, is_within, lot_in, number_within, open_in, product_in, release_in, remake_in, request_by_word, withdraw_in, word_in, with_two, with_three, with_four}
use Rattle.http_requests.proofs.PostLemmas.{decimal_is_short, name_is_short}
use Rattle.http_requests.proofs.RequestLemmas.{value_in-read}
use Rattle.wire.specs.Sending.{AreNames, IsNoImport, IsSendable, body_of, value_of, word_text}
use Rattle.wire.proofs.ParseLemmas.{read_whole}
use Rattle.wire.proofs.SendLemmas.{text_is_body, word_is_plain}

-- ---- status words

-- the first `n` digits are parsed as their values
are_read : ℕ → Bool
are_read zero = true
are_read (suc n) = (is_ascii_hexdigit (slice_index upper_digits n) && (digit_value (slice_index upper_digits n) == n)) && are_read n

read_at : (n k : ℕ) → are_read n ≡ true → k < n → (is_ascii_hexdigit (slice_index upper_digits k) && (digit_value (slice_index upper_digits k) == k)) ≡ true
unfolding are_read
read_at zero k h lt = absurd (omega arith)
read_at (suc n) k h lt =
    let both = and_parts (is_ascii_hexdigit (slice_index upper_digits n) && (digit_value (slice_index upper_digits n) == n)) (are_read n) h in
    elim (cases_lt k n) [
      | inl below ↦ read_at n k both.1 below
      | inr top ↦ let e : k ≡ n = omega arith in rw e both.0
    ]

digit_read : (k : ℕ) → k < 16 → (is_ascii_hexdigit (slice_index upper_digits k) ≡ true) × (digit_value (slice_index upper_digits k) ≡ k)
unfolding are_read
digit_read k lt =
    let both = and_parts (is_ascii_hexdigit (slice_index upper_digits k)) (digit_value (slice_index upper_digits k) == k) (read_at 16 k refl lt) in
    let same = both.1 in
    (both.0, grind (arith, nat_tests, same))

word_is_word : (sw : ℕ) → sw < 65536 → is_word (word_text sw) ≡ true
unfolding encode_with
word_is_word sw h =
    let a = (digit_read (sw / 256 / 16) (omega arith)).0 in
    let b = (digit_read (sw / 256 % 16) (omega arith)).0 in
    let c = (digit_read (sw % 256 / 16) (omega arith)).0 in
    let d = (digit_read (sw % 256 % 16) (omega arith)).0 in
    λ i. a i && (b i && (c i && (d i && true)))

word_value : (sw : ℕ) → sw < 65536 → digits_value 16 (word_text sw) ≡ sw
unfolding encode_with
word_value sw h =
    let a = (digit_read (sw / 256 / 16) (omega arith)).1 in
    let b = (digit_read (sw / 256 % 16) (omega arith)).1 in
    let c = (digit_read (sw % 256 / 16) (omega arith)).1 in
    let d = (digit_read (sw % 256 % 16) (omega arith)).1 in
    let sum : (((0 * 16 + sw / 256 / 16) * 16 + sw / 256 % 16) * 16 + sw % 256 / 16) * 16 + sw % 256 % 16 ≡ sw = omega arith in
    (λ i. (((0 * 16 + a i) * 16 + b i) * 16 + c i) * 16 + d i) ∙ sum

word_is_read : (sw : ℕ) → sw < 65536 → option_map (digits_value 16) (passing is_word (word_text sw)) ≡ Some sw
word_is_read sw h = ap (λ (t : Bool). option_map (digits_value 16) (cond t (Some (word_text sw)) None)) (word_is_word sw h) ∙ ap (λ (n : ℕ). Some n) (word_value sw h)

-- ---- the value is parsed as the request

pub number_kept : (least most n : ℕ) → least ≤ n → n ≤ most → passing (is_within least most) n ≡ Some n
number_kept least most n low high =
    let a : nat_le least n ≡ true = grind (arith, nat_tests, low) in
    let b : nat_le n most ≡ true = grind (arith, nat_tests, high) in
    λ i. cond (a i && b i) (Some n) None

name_kept : (n : List ℕ) → IsTrue (is_name n) → passing is_name n ≡ Some n
name_kept n h = ap (λ (t : Bool). cond t (Some n) None) h

call_is_found : (r : Call) → AreNames r → IsSendable r → IsNoImport r → call_of_value (value_of r) ≡ Some r
unfolding call_of_value call_by_word release_in request_by_word text_at name_at number_within flag_at product_in lot_in open_in answer_in word_in abort_in discard_in remake_in withdraw_in close_in
call_is_found (Job (request.Product p)) h s other = λ i. option_map Job (with_four (λ code max low check. request.Product (record { code = code; max = max; low = low; check = check }))
    (name_kept p.code h i) (number_kept 16 255 p.max s.least s.most i) (number_kept 0 31 p.low (omega arith) s.low i) (Some p.check))
call_is_found (Job (request.Lot l)) h s other =
    let range : is_lot l ≡ true = let r = s.range in grind (arith, nat_tests, r) in
    ap (option_map Job) ((λ i. option_map request.Lot (option_and_then (passing is_lot) (with_four (λ name product first count. record { name = name; product = product; first = first; count = count })
    (name_kept l.name h.0 i) (name_kept l.product h.1 i) (number_kept 0 (10 ^ 18 - 1) l.first (omega arith) (omega (arith, s.range, s.least)) i) (number_kept 1 1000000 l.count s.least s.most i))))
    ∙ ap (λ (t : Bool). option_map request.Lot (cond t (Some l) None)) range)
call_is_found (Job (request.Import b p raw)) h s other = absurd (other b p raw refl)
call_is_found (Job (request.Open b blank)) h s other = λ i. option_map Job (with_two (λ batch blank. request.Open batch blank) (name_kept b h i) (number_kept 0 (10 ^ 18 - 1) blank (omega arith) (omega (arith, s)) i))
call_is_found (Job (request.Answer n k sw)) h s other = λ i. option_map Job (with_three (λ session index sw. request.Answer session index sw)
    (number_kept 1 (10 ^ 18 - 1) n s.0 (omega (arith, s.1)) i) (number_kept 0 (2 ^ 32 - 1) k (omega arith) (omega (arith, s.2)) i) (word_is_read sw (omega (arith, s.3)) i))
call_is_found (Job (request.Abort n)) h s other = ap (λ o. option_map Job (option_map (λ session. request.Abort session) o)) (number_kept 1 (10 ^ 18 - 1) n s.0 (omega (arith, s.1)))
call_is_found (Job request.Reset) h s other = refl
call_is_found (Job (request.Discard blank)) h s other = ap (λ o. option_map Job (option_map (λ blank. request.Discard blank) o)) (number_kept 0 (10 ^ 18 - 1) blank (omega arith) (omega (arith, s)))
call_is_found (Job (request.Remake b r)) h s other = λ i. option_map Job (with_two (λ batch rec. request.Remake batch rec) (name_kept b h.0 i) (name_kept r h.1 i))
call_is_found (Job (request.Withdraw b r)) h s other = λ i. option_map Job (with_two (λ batch rec. request.Withdraw batch rec) (name_kept b h.0 i) (name_kept r h.1 i))
call_is_found (Job (request.Close b)) h s other = ap (λ o. option_map Job (option_map (λ batch. request.Close batch) o)) (name_kept b h)
call_is_found (Release upto) h s other = ap (option_map Release) (number_kept 1 (10 ^ 18 - 1) upto s.0 (omega (arith, s.1)))

-- ---- the body is the text of the value

value_is_read : (r : Call) → IsSendable r → IsNoImport r → read (compact_text (value_of r)) ≡ Some (value_of r)
value_is_read (Job (request.Product p)) s other =
    let low : p.low < 2 ^ 64 = omega (arith, s.low) in
    let max : p.max < 2 ^ 64 = omega (arith, s.most) in
    elim p.check as (λ b. read (compact_text (value_of (Job (request.Product (record { code = p.code; max = p.max; low = p.low; check = b }))))) ≡ Some (value_of (Job (request.Product (record { code = p.code; max = p.max; low = p.low; check = b }))))) [
      | true ↦ read_whole _ (tt, (tt, (IsNumber-decimal p.low low, (IsNumber-decimal p.max max, (tt, tt))))) (simp (number_of-decimal p.low low, number_of-decimal p.max max)) (omega arith)
      | false ↦ read_whole _ (tt, (tt, (IsNumber-decimal p.low low, (IsNumber-decimal p.max max, (tt, tt))))) (simp (number_of-decimal p.low low, number_of-decimal p.max max)) (omega arith)
    ]
value_is_read (Job (request.Lot l)) s other =
    let count : l.count < 2 ^ 64 = omega (arith, s.most) in
    let first : l.first < 2 ^ 64 = omega (arith, s.range) in
    read_whole _ (IsNumber-decimal l.count count, (tt, (IsNumber-decimal l.first first, (tt, (tt, tt))))) (simp (number_of-decimal l.count count, number_of-decimal l.first first)) (omega arith)
value_is_read (Job (request.Import b p raw)) s other = absurd (other b p raw refl)
value_is_read (Job (request.Open b blank)) s other =
    let few : blank < 2 ^ 64 = omega (arith, s) in
    read_whole _ (tt, (IsNumber-decimal blank few, (tt, tt))) (simp (number_of-decimal blank few)) (omega arith)
value_is_read (Job (request.Answer n k sw)) s other =
    let few : n < 2 ^ 64 = omega (arith, s.1) in
    let index : k < 2 ^ 64 = omega (arith, s.2) in
    read_whole _ (tt, (IsNumber-decimal k index, (IsNumber-decimal n few, (tt, tt)))) (simp (number_of-decimal k index, number_of-decimal n few)) (omega arith)
value_is_read (Job (request.Abort n)) s other = let few : n < 2 ^ 64 = omega (arith, s.1) in read_whole _ (tt, (IsNumber-decimal n few, tt)) (simp (number_of-decimal n few)) (omega arith)
value_is_read (Job request.Reset) s other = read_whole _ (tt, tt) refl (omega arith)
value_is_read (Job (request.Discard blank)) s other = let few : blank < 2 ^ 64 = omega (arith, s) in read_whole _ (IsNumber-decimal blank few, (tt, tt)) (simp (number_of-decimal blank few)) (omega arith)
value_is_read (Job (request.Remake b r)) s other = read_whole _ (tt, (tt, (tt, tt))) refl (omega arith)
value_is_read (Job (request.Withdraw b r)) s other = read_whole _ (tt, (tt, (tt, tt))) refl (omega arith)
value_is_read (Job (request.Close b)) s other = read_whole _ (tt, (tt, tt)) refl (omega arith)
value_is_read (Release upto) s other = let few : upto < 2 ^ 64 = omega (arith, s.1) in read_whole _ (tt, (IsNumber-decimal upto few, tt)) (simp (number_of-decimal upto few)) (omega arith)

-- ---- sizes

flag_is_short : (b : Bool) → length (compact_text (boolean b)) ≤ 5
unfolding serde_json_on_literals
flag_is_short true = omega arith
flag_is_short false = omega arith

pub body_is_short : (r : Call) → AreNames r → IsSendable r → IsNoImport r → length (body_of r) ≤ most_input
unfolding body_of encode_with serde_json_on_literals
body_is_short (Job (request.Product p)) h s other =
    simp (escape_plain p.code (name_plain p.code h), append_assoc) (simp length-append (omega (arith, flag_is_short p.check, decimal_is_short p.low (omega (arith, s.low)), decimal_is_short p.max (omega (arith, s.most)), name_is_short p.code h)))
body_is_short (Job (request.Lot l)) h s other =
    simp (escape_plain l.name (name_plain l.name h.0), escape_plain l.product (name_plain l.product h.1), append_assoc)
    (simp length-append (omega (arith, decimal_is_short l.count (omega (arith, s.most)), decimal_is_short l.first (omega (arith, s.range)), name_is_short l.name h.0, name_is_short l.product h.1)))
body_is_short (Job (request.Import b p raw)) h s other = absurd (other b p raw refl)
body_is_short (Job (request.Open b blank)) h s other = simp (escape_plain b (name_plain b h), append_assoc) (simp length-append (omega (arith, name_is_short b h, decimal_is_short blank (omega (arith, s)))))
body_is_short (Job (request.Answer n k sw)) h s other = simp (escape_plain (word_text sw) (word_is_plain sw (omega (arith, s.3))), append_assoc) (simp length-append (omega (arith, decimal_is_short k (omega (arith, s.2)), decimal_is_short n (omega (arith, s.1)))))
body_is_short (Job (request.Abort n)) h s other = simp length-append (omega (arith, decimal_is_short n (omega (arith, s.1))))
body_is_short (Job request.Reset) h s other = omega arith
body_is_short (Job (request.Discard blank)) h s other = simp length-append (omega (arith, decimal_is_short blank (omega (arith, s))))
body_is_short (Job (request.Remake b r)) h s other = simp (escape_plain b (name_plain b h.0), escape_plain r (name_plain r h.1), append_assoc) (simp length-append (omega (arith, name_is_short b h.0, name_is_short r h.1)))
body_is_short (Job (request.Withdraw b r)) h s other = simp (escape_plain b (name_plain b h.0), escape_plain r (name_plain r h.1), append_assoc) (simp length-append (omega (arith, name_is_short b h.0, name_is_short r h.1)))
body_is_short (Job (request.Close b)) h s other = simp (escape_plain b (name_plain b h), append_assoc) (simp length-append (omega (arith, name_is_short b h)))
body_is_short (Release upto) h s other = simp length-append (omega (arith, decimal_is_short upto (omega (arith, s.1))))

pub call_is_read : (r : Call) → AreNames r → IsSendable r → IsNoImport r → IsUtf8 (body_of r) → call_in (body_of r) ≡ Some r
unfolding call_in
call_is_read r h s other text =
    let body : read (body_of r) ≡ Some (value_of r) = ap read (sym (text_is_body r other)) ∙ value_is_read r s other in
    ap (option_and_then call_of_value) (value_in-read (body_of r) (value_of r) text body) ∙ call_is_found r h s other
