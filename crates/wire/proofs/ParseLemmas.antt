-- Proves that the text of a reply is parsed as this reply.
use Rattle.std.proofs.Common.{◌≡◌, ◌<◌, ◌≤◌, ◌+◌, ◌-◌, ◌^◌, ℕ, zero, suc, Bool, true, false, not, List, [], ◌∷◌, ◌++◌, length, drop, get_or, Some, inl, inr, refl, sym, ap, ◌∙◌, arith, append-nil, length-append, lt-ltb, decimal, append_assoc}
use Rattle.std.specs.Prelude.{◌==◌, ◌≢◌, slice_index, bytes_eq, nat_lt, option_map, option_and_then, Option, IsTrue, IsUtf8}
use Rattle.std.specs.List.{list_all}
use Rattle.std.specs.Str.{IsAscii}
use Rattle.std.specs.Str.Parse.{AllDigits}
use Rattle.std.specs.Char.{digit_value}
use Rattle.std.proofs.Math.ListN.{get_or-append}
use Rattle.std.proofs.Math.Seq.{drop-append_seam, get_or-append_right}
use Rattle.std.proofs.lemmas.Bool.{and_parts, cases_lt}
use Rattle.std.proofs.lemmas.Bool.Decides.{nat_tests}
use Rattle.std.proofs.lemmas.Fmt.{IsAscii-decimal, decimal_is_IsNumeral}
use Rattle.std.proofs.lemmas.List.{append_cancel_left}
use Rattle.std.proofs.lemmas.Str.{IsUtf8-from_ascii}
use Rattle.std.proofs.lemmas.Str.Ascii.{IsAscii-cons, IsAscii-nil}
use Rattle.std.proofs.lemmas.List.Folds.{list_all-append}
use Rattle.std.proofs.lemmas.Slice.Eq.{bytes_eq-Decides}
use Rattle.hex.specs.Hex.{encode_upper}
use Rattle.hex.proofs.HexLemmas.{decode_of-encode_upper}
use Rattle.json.specs.Token.{Token}
use Rattle.json.specs.Json as json
use Rattle.json.specs.Tree as tree
use Rattle.json.specs.Tree.{json_tokens, HasNumbers}
use Rattle.json.proofs.Printed.Decimals.{IsNumber-decimal}
use Rattle.json.proofs.Printed.Tokens.{tokens-print}
use Rattle.json.proofs.Printed.Trees.{ArePrintable-json_tokens, value-json_tokens}
use Rattle.serde_json.specs.Data.{Data}
use Rattle.serde_json.specs.Read.{max_depth, of_json, read}
use Rattle.serde_json.specs.Written.{compact_text, outline}
use Rattle.serde_json.proofs.Numbers.{number_of-decimal}
use Rattle.serde_json.proofs.Texts.{print-outline}
use Rattle.serde_json.proofs.OnLiterals.{serde_json_on_literals}
use Rattle.batch_import.specs.Kinds.{code_of as kind_code_of, name_of as kind_name_of, kind_of_code}
use Rattle.batch_import.specs.declared.fault.Kind.{Kind}
use Rattle.batch_import.specs.declared.fault.Kind.TheVariants as kind
use Rattle.job_facts.specs.Refusals.{code_of, name_of, refusal_of}
use Rattle.job_facts.specs.declared.refusal.Refusal.{Refusal}
use Rattle.job_facts.specs.declared.refusal.Refusal.TheVariants as refusal
use Rattle.job_facts.specs.declared.reply.Made.{Made}
use Rattle.job_facts.specs.declared.reply.Made.TheVariants.{Created, Known}
use Rattle.job_facts.specs.declared.reply.Reply.{Reply}
use Rattle.job_facts.specs.declared.reply.Reply.TheVariants.{Product, Lot, Import, Opened, Next, Good, Spoiled, Reset, Discarded, Waiting, Withdrawn, Closed, Refused, Busy, Released, NumberReleased, Faulty}
use Rattle.arrivals.specs.HttpReplies.{HttpReply, body_of, status_of}
use Rattle.arrivals.specs.Values.{IsPlain, made_name, value_of}
use Rattle.arrivals.proofs.Escapes.{escape_plain, hex_plain, name_plain, plain_ascii}
use Rattle.store_data.specs.Name.{is_name}
use Rattle.http_messages.specs.declared.reply.Content.TheVariants.{Json}
use Rattle.wire.specs.ReplyReading.{HasNoBrace, reply_in}
use Rattle.wire.specs.ReplyText.{AreDistinctReplies, IsReply, reply_bytes}
use Rattle.http_requests.specs.Members.{name_at, text_at, value_in}
use Rattle.http_requests.proofs.RequestLemmas.{value_in-read}
use Rattle.http_messages.specs.Texts.{head_text, status_text}

-- ---- JSON

-- ---- the start of a body

brace_is_there : (bytes head body : List ℕ) → bytes ≡ head ++ body → slice_index body 0 ≡ 123 → slice_index bytes (length head) ≡ 123
brace_is_there bytes head body is first =
    let none : length head - length head ≡ 0 = omega arith in
    ap (λ (xs : List ℕ). get_or xs (length head) 0) is ∙ get_or-append_right head body (length head) 0 (omega arith) ∙ ap (λ (n : ℕ). get_or body n 0) none ∙ first

pub body_starts : (bytes head body : List ℕ) (i : ℕ) → ((k : ℕ) → k < i → slice_index bytes k ≢ 123) → (i < length bytes → slice_index bytes i ≡ 123)
    → bytes ≡ head ++ body → HasNoBrace head → slice_index body 0 ≡ 123 → drop i bytes ≡ body
body_starts bytes head body i before there is none first =
    elim (cases_lt i (length head)) [
      | inl early ↦
          let long : length bytes ≡ length head + length body = simp length-append at (ap length is) in
          absurd (none i (sym (get_or-append head body 0 i early) ∙ sym (ap (λ (xs : List ℕ). get_or xs i 0) is) ∙ there (omega arith)))
      | inr reached ↦
          elim (cases_lt (length head) i) [
            | inl late ↦ absurd (before (length head) late (brace_is_there bytes head body is first))
            | inr on ↦ let same : i ≡ length head = omega arith in rw (is, same) (drop-append_seam head body)
          ]
    ]

-- ---- comparing bytes with a text, first its head and then its body

pub same_text : (bytes front rest head body : List ℕ) (same : Bool) → front ≡ head → bytes ≡ front ++ rest → same ≡ bytes_eq rest body
    → (IsTrue same → bytes ≡ head ++ body) × (bytes ≡ head ++ body → IsTrue same)
same_text bytes front rest head body same fronts cut is =
    let decides = bytes_eq-Decides rest body in (
      λ yes. cut ∙ ap (λ (xs : List ℕ). xs ++ rest) fronts ∙ ap (λ (xs : List ℕ). head ++ xs) (decides.0 (sym is ∙ yes)),
      λ text. is ∙ decides.1 (append_cancel_left head rest body (ap (λ (xs : List ℕ). xs ++ rest) (sym fronts) ∙ sym cut ∙ text)),
    )

pub other_text : (bytes front head body : List ℕ) → front ≡ head → ((rest : List ℕ) → bytes ≢ front ++ rest) → bytes ≡ head ++ body → ⊥
other_text bytes front head body fronts other text = other body (text ∙ ap (λ (xs : List ℕ). xs ++ body) (sym fronts))

-- ---- heads have no brace, and bodies begin with one

is_clear : ℕ → Bool
is_clear b = not (b == 123)

are_clear : List ℕ → Bool
are_clear xs = list_all is_clear xs

clear_parts : (xs : List ℕ) → are_clear xs ≡ true → HasNoBrace xs
unfolding are_clear is_clear
clear_parts [] clear k is = omega arith
clear_parts (x ∷ xs) clear zero is = let parts = and_parts (is_clear x) (list_all is_clear xs) clear in let first : not (x == 123) ≡ true = parts.0 in grind (arith, nat_tests)
clear_parts (x ∷ xs) clear (suc k) is = clear_parts xs (and_parts (is_clear x) (list_all is_clear xs) clear).1 k is

digits_are_clear : (ds : List ℕ) → AllDigits 10 ds → are_clear ds ≡ true
unfolding are_clear is_clear
digits_are_clear [] h = refl
digits_are_clear (d ∷ ds) h =
    let digit : digit_value d < 10 = h.0 in
    let first : is_clear d ≡ true = grind (arith, nat_tests) in
    rw (first, digits_are_clear ds h.1) refl

decimal_is_clear : (n : ℕ) → n < 2 ^ 64 → are_clear (decimal n) ≡ true
decimal_is_clear n h = digits_are_clear (decimal n) (decimal_is_IsNumeral n h).0.1

status_is_clear : (r : Reply) → are_clear (status_text (status_of r)) ≡ true
unfolding are_clear is_clear
status_is_clear (Product p made) = refl
status_is_clear _ = refl

pub head_has_no_brace : (r : Reply) (n : ℕ) → n < 2 ^ 64 → HasNoBrace (head_text (status_of r) Json n)
unfolding are_clear is_clear head_text
head_has_no_brace r n h = clear_parts (head_text (status_of r) Json n) (simp (list_all-append, status_is_clear r, decimal_is_clear n h))

pub body_begins : (r : Reply) → slice_index (body_of r) 0 ≡ 123
unfolding body_of
body_begins (Product p made) = refl
body_begins _ = refl

-- ---- the body is parsed as the value of the reply

whole : Option (json.Json × List Token) → Option Data
whole read = option_and_then of_json (option_and_then (λ p. json.if_last p.0 p.1) read)

pub read_whole : (d : Data) → HasNumbers (outline d) → of_json (outline d) ≡ Some d → tree.depth (outline d) ≤ max_depth → read (compact_text d) ≡ Some d
unfolding whole
read_whole d numbers is shallow =
    let ts = json_tokens (outline d) in
    ap read (sym (print-outline d)) ∙ ap whole (ap (json.value max_depth) (tokens-print ts (ArePrintable-json_tokens (outline d) numbers) ∙ sym (append-nil ts)) ∙ value-json_tokens (outline d) max_depth [] shallow) ∙ is

code_fits : (why : Refusal) → code_of why < 2 ^ 64
code_fits refusal.ProductDiffers = omega arith
code_fits _ = omega arith

kind_code_fits : (k : Kind) → kind_code_of k < 2 ^ 64
kind_code_fits kind.MarksDiffer = omega arith
kind_code_fits _ = omega arith

value_is_read : (r : Reply) → IsReply r → read (compact_text (value_of r)) ≡ Some (value_of r)
value_is_read (Product p made) h = read_whole _ (tt, (tt, tt)) refl (omega arith)
value_is_read (Lot l made) h = read_whole _ (tt, (tt, tt)) refl (omega arith)
value_is_read (Import b records made rows) h =
    let first : records < 2 ^ 64 = omega (arith, h.1) in
    let second : rows < 2 ^ 64 = omega (arith, h.2) in
    read_whole _ (tt, (IsNumber-decimal records first, (tt, (IsNumber-decimal rows second, tt)))) (simp (number_of-decimal records first, number_of-decimal rows second)) (omega arith)
value_is_read (Opened b blank command r s) h =
    let none : 0 < 2 ^ 64 = omega arith in
    read_whole _ (tt, (IsNumber-decimal blank h.1, (tt, (IsNumber-decimal 0 none, (tt, (tt, (IsNumber-decimal s h.4, tt)))))))
    (simp (number_of-decimal blank h.1, number_of-decimal 0 none, number_of-decimal s h.4)) (omega arith)
value_is_read (Next command k s) h =
    read_whole _ (tt, (IsNumber-decimal k h.1, (tt, (IsNumber-decimal s h.2, tt)))) (simp (number_of-decimal k h.1, number_of-decimal s h.2)) (omega arith)
value_is_read (Good s) h = read_whole _ (tt, (IsNumber-decimal s h, tt)) (simp (number_of-decimal s h)) (omega arith)
value_is_read (Spoiled s) h = read_whole _ (tt, (IsNumber-decimal s h, tt)) (simp (number_of-decimal s h)) (omega arith)
value_is_read (Reset s) h = read_whole _ (tt, (IsNumber-decimal s h, tt)) (simp (number_of-decimal s h)) (omega arith)
value_is_read (Discarded blank) h = read_whole _ (IsNumber-decimal blank h, (tt, tt)) (simp (number_of-decimal blank h)) (omega arith)
value_is_read (Waiting b r) h = read_whole _ (tt, (tt, (tt, tt))) refl (omega arith)
value_is_read (Withdrawn b r) h = read_whole _ (tt, (tt, (tt, tt))) refl (omega arith)
value_is_read (Closed b) h = read_whole _ (tt, (tt, tt)) refl (omega arith)
value_is_read (Refused why) h = read_whole _ (IsNumber-decimal (code_of why) (code_fits why), (tt, tt)) (simp (number_of-decimal (code_of why) (code_fits why))) (omega arith)
value_is_read (Busy s) h =
    let code : 61 < 2 ^ 64 = omega arith in
    read_whole _ (IsNumber-decimal 61 code, (tt, (IsNumber-decimal s h, tt))) (simp (number_of-decimal 61 code, number_of-decimal s h)) (omega arith)
value_is_read (Released mark) h = read_whole _ (IsNumber-decimal mark h, (tt, tt)) (simp (number_of-decimal mark h)) (omega arith)
value_is_read (NumberReleased mark) h =
    let code : 73 < 2 ^ 64 = omega arith in
    read_whole _ (IsNumber-decimal 73 code, (IsNumber-decimal mark h, (tt, tt))) (simp (number_of-decimal 73 code, number_of-decimal mark h)) (omega arith)
value_is_read (Faulty fault) h =
    let code = kind_code_fits fault.kind in
    let row : fault.row < 2 ^ 64 = omega (arith, h) in
    read_whole _ (IsNumber-decimal (kind_code_of fault.kind) code, (tt, (IsNumber-decimal fault.row row, tt))) (simp (number_of-decimal (kind_code_of fault.kind) code, number_of-decimal fault.row row)) (omega arith)

-- ---- the candidate is the reply

refusal_is_found : (why : Refusal) → refusal_of (code_of why) ≡ Some why
unfolding refusal_of
refusal_is_found refusal.ProductDiffers = refl
refusal_is_found _ = refl

kind_is_found : (k : Kind) → kind_of_code (kind_code_of k) ≡ Some k
unfolding kind_of_code
kind_is_found kind.MarksDiffer = refl
kind_is_found _ = refl

pub reply_is_found : (r : Reply) → IsReply r → reply_in (value_of r) ≡ Some r
unfolding name_at text_at
reply_is_found (Product p Created) h = rw h refl
reply_is_found (Product p Known) h = rw h refl
reply_is_found (Lot l Created) h = rw h refl
reply_is_found (Lot l Known) h = rw h refl
reply_is_found (Import b records Created rows) h = rw h.0 (rw (lt-ltb _ _ h.1, lt-ltb _ _ h.2) refl)
reply_is_found (Import b records Known rows) h = rw h.0 (rw (lt-ltb _ _ h.1, lt-ltb _ _ h.2) refl)
reply_is_found (Opened b blank command r s) h = rw (decode_of-encode_upper command h.2) (rw (h.0, h.3) refl)
reply_is_found (Next command k s) h = rw (decode_of-encode_upper command h.0) refl
reply_is_found (Good s) h = refl
reply_is_found (Spoiled s) h = refl
reply_is_found (Reset s) h = refl
reply_is_found (Discarded blank) h = refl
reply_is_found (Waiting b r) h = rw (h.0, h.1) refl
reply_is_found (Withdrawn b r) h = rw (h.0, h.1) refl
reply_is_found (Closed b) h = rw h refl
reply_is_found (Refused why) h = ap (option_map (λ (w : Refusal). Refused w)) (refusal_is_found why)
reply_is_found (Busy s) h = refl
reply_is_found (Released mark) h = refl
reply_is_found (NumberReleased mark) h = refl
reply_is_found (Faulty fault) h = rw (lt-ltb _ _ h, kind_is_found fault.kind) refl

-- ---- bodies are ASCII

is_low : ℕ → Bool
is_low b = nat_lt b 128

are_low : List ℕ → Bool
are_low xs = list_all is_low xs

low_from_ascii : (xs : List ℕ) → IsAscii xs → are_low xs ≡ true
unfolding are_low is_low
low_from_ascii [] h = refl
low_from_ascii (x ∷ xs) h = rw (lt-ltb x 128 (h 0), low_from_ascii xs (λ i. h (suc i))) refl

ascii_from_low : (xs : List ℕ) → are_low xs ≡ true → IsAscii xs
unfolding are_low is_low
ascii_from_low [] h = IsAscii-nil
ascii_from_low (x ∷ xs) h =
    let parts = and_parts (is_low x) (list_all is_low xs) h in
    let first : nat_lt x 128 ≡ true = parts.0 in
    IsAscii-cons x xs (grind (arith, nat_tests)) (ascii_from_low xs parts.1)

plain_is_low : (xs : List ℕ) → IsPlain xs → are_low xs ≡ true
plain_is_low xs h = low_from_ascii xs (plain_ascii xs h)

name_is_low : (n : List ℕ) → IsTrue (is_name n) → are_low n ≡ true
name_is_low n h = plain_is_low n (name_plain n h)

decimal_is_low : (n : ℕ) → n < 2 ^ 64 → are_low (decimal n) ≡ true
decimal_is_low n h = low_from_ascii (decimal n) (IsAscii-decimal n h)

made_is_low : (m : Made) → are_low (made_name m) ≡ true
unfolding are_low is_low
made_is_low Created = refl
made_is_low Known = refl

refusal_is_low : (why : Refusal) → are_low (name_of why) ≡ true
unfolding are_low is_low
refusal_is_low refusal.ProductDiffers = refl
refusal_is_low _ = refl

kind_is_low : (k : Kind) → are_low (kind_name_of k) ≡ true
unfolding are_low is_low
kind_is_low kind.MarksDiffer = refl
kind_is_low _ = refl

made_plain : (m : Made) → IsPlain (made_name m)
made_plain Created = refl
made_plain Known = refl

refusal_plain : (r : Refusal) → IsPlain (name_of r)
refusal_plain refusal.ProductDiffers = refl
refusal_plain _ = refl

kind_plain : (k : Kind) → IsPlain (kind_name_of k)
kind_plain kind.MarksDiffer = refl
kind_plain _ = refl

body_is_low : (r : Reply) → IsReply r → are_low (body_of r) ≡ true
unfolding are_low is_low body_of serde_json_on_literals
body_is_low (Product p made) h = simp (escape_plain p (name_plain p h), escape_plain (made_name made) (made_plain made), append_assoc) (simp (list_all-append, name_is_low p h, made_is_low made))
body_is_low (Lot l made) h = simp (escape_plain l (name_plain l h), escape_plain (made_name made) (made_plain made), append_assoc) (simp (list_all-append, name_is_low l h, made_is_low made))
body_is_low (Import b records made rows) h =
    let first : records < 2 ^ 64 = omega (arith, h.1) in
    let second : rows < 2 ^ 64 = omega (arith, h.2) in
    simp (escape_plain b (name_plain b h.0), escape_plain (made_name made) (made_plain made), append_assoc) (simp (list_all-append, name_is_low b h.0, decimal_is_low records first, made_is_low made, decimal_is_low rows second))
body_is_low (Opened b blank command r s) h =
    let none : 0 < 2 ^ 64 = omega arith in
    simp (escape_plain b (name_plain b h.0), escape_plain (encode_upper command) (hex_plain command h.2), escape_plain r (name_plain r h.3), append_assoc)
    (simp (list_all-append, name_is_low b h.0, decimal_is_low blank h.1, decimal_is_low 0 none, plain_is_low (encode_upper command) (hex_plain command h.2), name_is_low r h.3, decimal_is_low s h.4))
body_is_low (Next command k s) h = simp (escape_plain (encode_upper command) (hex_plain command h.0), append_assoc) (simp (list_all-append, plain_is_low (encode_upper command) (hex_plain command h.0), decimal_is_low k h.1, decimal_is_low s h.2))
body_is_low (Good s) h = simp (list_all-append, decimal_is_low s h)
body_is_low (Spoiled s) h = simp (list_all-append, decimal_is_low s h)
body_is_low (Reset s) h = simp (list_all-append, decimal_is_low s h)
body_is_low (Discarded blank) h = simp (list_all-append, decimal_is_low blank h)
body_is_low (Waiting b r) h = simp (escape_plain b (name_plain b h.0), escape_plain r (name_plain r h.1), append_assoc) (simp (list_all-append, name_is_low b h.0, name_is_low r h.1))
body_is_low (Withdrawn b r) h = simp (escape_plain b (name_plain b h.0), escape_plain r (name_plain r h.1), append_assoc) (simp (list_all-append, name_is_low b h.0, name_is_low r h.1))
body_is_low (Closed b) h = simp (escape_plain b (name_plain b h), append_assoc) (simp (list_all-append, name_is_low b h))
body_is_low (Refused why) h = simp (escape_plain (name_of why) (refusal_plain why), append_assoc) (simp (list_all-append, decimal_is_low (code_of why) (code_fits why), refusal_is_low why))
body_is_low (Busy s) h = let code : 61 < 2 ^ 64 = omega arith in simp (list_all-append, decimal_is_low 61 code, decimal_is_low s h)
body_is_low (Released mark) h = simp (list_all-append, decimal_is_low mark h)
body_is_low (NumberReleased mark) h = let code : 73 < 2 ^ 64 = omega arith in simp (list_all-append, decimal_is_low 73 code, decimal_is_low mark h)
body_is_low (Faulty fault) h =
    let row : fault.row < 2 ^ 64 = omega (arith, h) in
    simp (escape_plain (kind_name_of fault.kind) (kind_plain fault.kind), append_assoc) (simp (list_all-append, decimal_is_low (kind_code_of fault.kind) (kind_code_fits fault.kind), kind_is_low fault.kind, decimal_is_low fault.row row))

pub body_is_utf8 : (r : Reply) → IsReply r → IsUtf8 (body_of r)
body_is_utf8 r h = IsUtf8-from_ascii (body_of r) (ascii_from_low (body_of r) (body_is_low r h))

-- ---- the body is parsed

pub body_is_read : (r : Reply) → IsReply r → read (body_of r) ≡ Some (value_of r)
unfolding body_of
body_is_read r h = value_is_read r h

-- ---- the result for the bytes of a reply

pub value_is_found : (bytes body : List ℕ) (found : Option Data) (r : Reply) → IsReply r → bytes ≡ reply_bytes r → length bytes < 2 ^ 64
    → ((head rest : List ℕ) → bytes ≡ head ++ rest → HasNoBrace head → slice_index rest 0 ≡ 123 → body ≡ rest) → found ≡ value_in body → found ≡ Some (value_of r)
value_is_found bytes body found r ranged is few cuts reads =
    let head = head_text (status_of r) Json (length (body_of r)) in
    let long : length bytes ≡ length head + length (body_of r) = simp length-append at (ap length is) in
    let cut : body ≡ body_of r = cuts head (body_of r) is (head_has_no_brace r (length (body_of r)) (omega arith)) (body_begins r) in
    reads ∙ ap value_in cut ∙ value_in-read (body_of r) (value_of r) (body_is_utf8 r ranged) (body_is_read r ranged)

-- the value in an option is unique
pub same_value : (v w : Data) → Some v ≡ Some w → v ≡ w
same_value v w is = cc

pub same_reply : (q r : Reply) → Some q ≡ Some r → q ≡ r
same_reply q r is = cc

-- bytes that aren't the text of the candidate `q` aren't the text of a reply `r` equal to it
pub other_reply : (bytes : List ℕ) (q r : Reply) (same : Bool) → Some q ≡ Some r → same ≡ false → (bytes ≡ reply_bytes q → IsTrue same) → bytes ≡ reply_bytes r → ⊥
other_reply bytes q r same is differs holds text =
    let is_same : IsTrue same = holds (text ∙ ap reply_bytes (sym (same_reply q r is))) in
    let both : false ≡ true = sym differs ∙ is_same in cc

-- two different replies never have the same text
pub distinct_replies : AreDistinctReplies
distinct_replies q r here there same =
    let read_both : Some (value_of q) ≡ Some (value_of r) = sym (body_is_read q here) ∙ ap (λ (t : HttpReply). read t.body) same ∙ body_is_read r there in
    same_reply q r (sym (reply_is_found q here) ∙ ap reply_in (same_value (value_of q) (value_of r) read_both) ∙ reply_is_found r there)
