-- Proves the meaning of a message that a client sends.
use Rattle.std.proofs.Common.{◌≡◌, ◌<◌, ◌≤◌, ◌^◌, ◌==◌, ℕ, Bool, true, false, cond, List, [], ◌∷◌, ◌++◌, length, Some, None, refl, sym, ap, subst, ◌∙◌, codes, decimal, arith, append_assoc, append-nil, length-append}
use Rattle.std.specs.Prelude.{◌&&◌, not, nat_lt, nat_le, slice_index, IfOk, IsTrue, OnOk, Result, Ok, Err}
use Rattle.std.specs.List.{list_all}
use Rattle.std.specs.Char.{digit_value, is_ascii}
use Rattle.std.specs.Str.Parse.{AllDigits, digits_value}
use Rattle.std.proofs.lemmas.Bool.{and_parts}
use Rattle.std.proofs.lemmas.Bool.Decides.{nat_tests}
use Rattle.std.proofs.lemmas.Fmt.{decimal_is_IsNumeral, decimal_nonempty, first_decimal, length-decimal-le}
use Rattle.std.proofs.lemmas.List.Folds.{list_all-append}
use Rattle.matchit.specs.Seek.{has_slash}
use Rattle.store_data.specs.Name.{is_name, is_name_char}
use Rattle.job_facts.specs.declared.request.Call.TheVariants as call
use Rattle.job_facts.specs.declared.request.Request.TheVariants as request
use Rattle.text_io.specs.Inputs.{most_input}
use Rattle.http_messages.specs.Messages.{Brings, IsHeardAs, MessageParts}
use Rattle.http_messages.specs.RequestHeads.{IsHeardBefore, IsTarget, is_visible, posted, request_head}
use Rattle.http_messages.proofs.SentHeads.{digits_are_digits}
use Rattle.http_messages.specs.declared.flaw.Flaw.TheVariants as flaw
use Rattle.http_requests.specs.Flaws.{body_flaw, path_flaw}
use Rattle.http_requests.specs.Asks.{arrival_of, ask_with, asked_at, import_of, import_tail, name_in, or_malformed}
use Rattle.text_io.specs.Numbers.{is_number, number_in}
use Rattle.http_requests.specs.Meant.{Means, meant_by}
use Rattle.http_requests.specs.Posts.{post_with, posted_with, target_with}
use Rattle.http_requests.specs.Requests.{call_in}
use Rattle.http_requests.specs.Routes.{Job, Import, has_no_empty, led, parts, route_by, route_in}
use Rattle.http_requests.proofs.MeantLemmas.{meant_as}
use Rattle.http_requests.proofs.RouteLemmas.{all_text, parts_last, parts_more, text_join, route_is}

-- a property of a result follows from a property of it and a fact that holds for every `Ok`
pub on_made : {T E : Type 0} (r : Result T E) (P Q : T → Type 0) (N : Type 0) → IfOk r P → OnOk r N → ((t : T) → P t → N → Q t) → IfOk r Q
on_made (Ok t) P Q N p n make = make t p n
on_made (Err e) P Q N p n make = tt

-- ---- the segments of the path

abbrev IsPlain : List ℕ → Type 0
IsPlain xs = list_all is_name_char xs ≡ true

name_plain : (n : List ℕ) → IsTrue (is_name n) → IsPlain n
name_plain n h = grind (arith, nat_tests)

no_slash : (b : ℕ) → is_name_char b ≡ true → (b == 47) ≡ false
no_slash b h = grind (arith, nat_tests)

plain_bare : (xs : List ℕ) → IsPlain xs → has_slash xs ≡ false
plain_bare [] h = refl
plain_bare (b ∷ xs) h =
    let both = and_parts (is_name_char b) (list_all is_name_char xs) h in
    (λ i. cond (no_slash b both.0 i) true (has_slash xs)) ∙ plain_bare xs both.1

digit_is_plain : (d : ℕ) → digit_value d < 10 → is_name_char d ≡ true
digit_is_plain d h = grind (arith, nat_tests)

digits_are_plain : (ds : List ℕ) → AllDigits 10 ds → IsPlain ds
digits_are_plain [] h = refl
digits_are_plain (d ∷ ds) h = ap (λ (t : Bool). t && list_all is_name_char ds) (digit_is_plain d h.0) ∙ digits_are_plain ds h.1

decimal_is_plain : (n : ℕ) → n < 2 ^ 64 → IsPlain (decimal n)
decimal_is_plain n h = digits_are_plain (decimal n) (decimal_is_IsNumeral n h).0.1

plain_is_text : (xs : List ℕ) → IsPlain xs → all_text xs ≡ true
plain_is_text [] h = refl
plain_is_text (b ∷ xs) h =
    let both = and_parts (is_name_char b) (list_all is_name_char xs) h in
    let first : is_ascii b ≡ true = let f = both.0 in grind (arith, nat_tests, f) in
    rw first (plain_is_text xs both.1)

name_is_some : (n : List ℕ) → IsTrue (is_name n) → nat_lt 0 (length n) ≡ true
name_is_some n h = grind (arith, nat_tests)

decimal_is_some : (n : ℕ) → n < 2 ^ 64 → nat_lt 0 (length (decimal n)) ≡ true
decimal_is_some n h = let some = decimal_nonempty n h in grind (arith, nat_tests, some)

job_route : (client : List ℕ) (number : ℕ) → IsTrue (is_name client) → number < 2 ^ 64 → route_in (target_with client number []) ≡ Some (Job client (decimal number))
job_route client number name few =
    let cut : parts (codes "c/" ++ (client ++ 47 ∷ decimal number)) ≡ codes "c" ∷ client ∷ decimal number ∷ [] =
    ap (λ (ps : List (List ℕ)). led 99 ([] ∷ ps)) (parts_more client (decimal number) (plain_bare client (name_plain client name)) ∙ ap (λ (ps : List (List ℕ)). client ∷ ps) (parts_last (decimal number) (plain_bare (decimal number) (decimal_is_plain number few)))) in
    let text : target_with client number [] ≡ 47 ∷ (codes "c/" ++ (client ++ 47 ∷ decimal number)) =
    append-nil (codes "/c/" ++ client ++ codes "/" ++ decimal number) ∙ ap (λ (l : List ℕ). 47 ∷ 99 ∷ 47 ∷ l) (append_assoc client (codes "/") (decimal number)) in
    let valid = text_join client (decimal number) (plain_is_text client (name_plain client name)) (plain_is_text (decimal number) (decimal_is_plain number few)) in
    ap route_in text ∙ route_is (codes "c/" ++ (client ++ 47 ∷ decimal number)) valid ∙ (λ i. cond (has_no_empty (cut i)) (route_by (cut i)) None)
    ∙ (rw (name_is_some client name, decimal_is_some number few) refl)

import_route : (client batch product : List ℕ) (number : ℕ) → IsTrue (is_name client) → IsTrue (is_name batch) → IsTrue (is_name product) → number < 2 ^ 64
    → route_in (target_with client number (import_tail batch product)) ≡ Some (Import client (decimal number) batch product)
import_route client batch product number name b p few =
    let rest = batch ++ 47 ∷ product in
    let tail : parts rest ≡ batch ∷ product ∷ [] = parts_more batch product (plain_bare batch (name_plain batch b)) ∙ ap (λ (ps : List (List ℕ)). batch ∷ ps) (parts_last product (plain_bare product (name_plain product p))) in
    let word : parts (codes "batch/" ++ rest) ≡ codes "batch" ∷ batch ∷ product ∷ [] = parts_more (codes "batch") rest refl ∙ ap (λ (ps : List (List ℕ)). codes "batch" ∷ ps) tail in
    let numbered : parts (decimal number ++ 47 ∷ (codes "batch/" ++ rest)) ≡ decimal number ∷ codes "batch" ∷ batch ∷ product ∷ [] =
    parts_more (decimal number) (codes "batch/" ++ rest) (plain_bare (decimal number) (decimal_is_plain number few)) ∙ ap (λ (ps : List (List ℕ)). decimal number ∷ ps) word in
    let cut : parts (codes "c/" ++ (client ++ 47 ∷ (decimal number ++ 47 ∷ (codes "batch/" ++ rest)))) ≡ codes "c" ∷ client ∷ decimal number ∷ codes "batch" ∷ batch ∷ product ∷ [] =
    ap (λ (ps : List (List ℕ)). led 99 ([] ∷ ps)) (parts_more client (decimal number ++ 47 ∷ (codes "batch/" ++ rest)) (plain_bare client (name_plain client name)) ∙ ap (λ (ps : List (List ℕ)). client ∷ ps) numbered) in
    let text : target_with client number (import_tail batch product) ≡ 47 ∷ (codes "c/" ++ (client ++ 47 ∷ (decimal number ++ 47 ∷ (codes "batch/" ++ rest)))) =
    ap (λ (l : List ℕ). 47 ∷ 99 ∷ 47 ∷ l) (append_assoc (client ++ codes "/") (decimal number) (import_tail batch product) ∙ append_assoc client (codes "/") (decimal number ++ import_tail batch product)
    ∙ ap (λ (l : List ℕ). client ++ 47 ∷ (decimal number ++ 47 ∷ (codes "batch/" ++ l))) (append_assoc batch (codes "/") product)) in
    let valid = text_join client (decimal number ++ 47 ∷ (codes "batch/" ++ rest)) (plain_is_text client (name_plain client name))
    (text_join (decimal number) (codes "batch/" ++ rest) (plain_is_text (decimal number) (decimal_is_plain number few))
    (text_join batch product (plain_is_text batch (name_plain batch b)) (plain_is_text product (name_plain product p)))) in
    ap route_in text ∙ route_is (codes "c/" ++ (client ++ 47 ∷ (decimal number ++ 47 ∷ (codes "batch/" ++ rest)))) valid ∙ (λ i. cond (has_no_empty (cut i)) (route_by (cut i)) None)
    ∙ (rw (name_is_some client name, decimal_is_some number few, name_is_some batch b, name_is_some product p) refl)

-- ---- names and numbers

name_is_read : (n : List ℕ) → IsTrue (is_name n) → name_in n ≡ Some n
name_is_read n h = ap (λ (t : Bool). cond t (Some n) None) h

decimal_is_number : (n : ℕ) → 1 ≤ n → n < 10 ^ 18 → is_number (decimal n) ≡ true
decimal_is_number n some few =
    let small : n < 2 ^ 64 = omega (arith, few) in
    let numeral = decimal_is_IsNumeral n small in
    let least : nat_le 1 (length (decimal n)) ≡ true = let l = decimal_nonempty n small in grind (arith, nat_tests, l) in
    let most : nat_le (length (decimal n)) 18 ≡ true = let l = length-decimal-le 18 n (omega arith) few small in grind (arith, nat_tests, l) in
    let first : not (slice_index (decimal n) 0 == 48) ≡ true = let l = first_decimal n (omega (arith, some)) small in grind (arith, nat_tests, l) in
    rw (least, most, digits_are_digits (decimal n) numeral.0.1, first) refl

number_is_read : (n : ℕ) → 1 ≤ n → n < 10 ^ 18 → number_in (decimal n) ≡ Some n
number_is_read n some few =
    let numeral = decimal_is_IsNumeral n (omega (arith, few)) in
    ap (λ (t : Bool). cond t (Some (digits_value 10 (decimal n))) None) (decimal_is_number n some few) ∙ ap (λ (v : ℕ). Some v) numeral.1

-- ---- the head of the message

char_is_visible : (b : ℕ) → is_name_char b ≡ true → is_visible b ≡ true
char_is_visible b h = grind (arith, nat_tests)

plain_is_visible : (xs : List ℕ) → IsPlain xs → list_all is_visible xs ≡ true
plain_is_visible [] h = refl
plain_is_visible (b ∷ xs) h =
    let both = and_parts (is_name_char b) (list_all is_name_char xs) h in
    ap (λ (t : Bool). t && list_all is_visible xs) (char_is_visible b both.0) ∙ plain_is_visible xs both.1

name_is_visible : (n : List ℕ) → IsTrue (is_name n) → list_all is_visible n ≡ true
name_is_visible n h = plain_is_visible n (name_plain n h)

pub name_is_short : (n : List ℕ) → IsTrue (is_name n) → length n ≤ 32
name_is_short n h = grind (arith, nat_tests)

pub decimal_is_short : (n : ℕ) → n < 2 ^ 64 → length (decimal n) ≤ 20
decimal_is_short n h = length-decimal-le 20 n (omega arith) (omega (arith, h)) h

target_is_one : (client : List ℕ) (number : ℕ) (tail : List ℕ) → IsTrue (is_name client) → number < 2 ^ 64 → list_all is_visible tail ≡ true → IsTarget (target_with client number tail)
target_is_one client number tail name small t =
    (omega arith, simp (list_all-append, name_is_visible client name, plain_is_visible (decimal number) (decimal_is_plain number small), t))

head_is_short : (client : List ℕ) (number : ℕ) (tail : List ℕ) (size : ℕ) → IsTrue (is_name client) → number < 2 ^ 64 → length tail ≤ 72 → size ≤ most_input
    → length (request_head (target_with client number tail) size) ≤ 8192
unfolding request_head
head_is_short client number tail size name small t b =
    let fits : size < 2 ^ 64 = omega (arith, b) in
    simp length-append (omega (arith, name_is_short client name, decimal_is_short number small, decimal_is_short size fits, t))

pub post_is_heard : (client : List ℕ) (number : ℕ) (tail body text : List ℕ) → IsTrue (is_name client) → number < 2 ^ 64 → list_all is_visible tail ≡ true → length tail ≤ 72
    → (IsTarget (target_with client number tail) → length body ≤ most_input → length (request_head (target_with client number tail) (length body)) ≤ 8192 → IsHeardBefore (target_with client number tail) (length body))
    → text ≡ post_with client number tail body → length body ≤ most_input → IsHeardAs text (Brings (posted (target_with client number tail) body))
post_is_heard client number tail body text name small seen t heard is b =
    subst (λ (x : List ℕ). IsHeardAs x (Brings (posted (target_with client number tail) body))) (sym is)
    (heard (target_is_one client number tail name small seen) b (head_is_short client number tail (length body) name small t b) body refl)

pub tail_is_visible : (b p : List ℕ) → IsTrue (is_name b) → IsTrue (is_name p) → list_all is_visible (import_tail b p) ≡ true
tail_is_visible b p batch product = simp (list_all-append, name_is_visible b batch, name_is_visible p product)

-- ---- the meaning of the message

pub job_means : (client : List ℕ) (number : ℕ) (body text : List ℕ) → IsTrue (is_name client) → 1 ≤ number → number < 10 ^ 18
    → IsHeardAs text (Brings (posted (target_with client number []) body)) → Means text (posted_with client number [] body (call_in body))
job_means client number body text name least most heard =
    let c : MessageParts = posted (target_with client number []) body in
    subst (λ r. Means text (meant_by r))
    (ap (λ o. asked_at o c) (job_route client number name (omega (arith, most)))
    ∙ (λ i. or_malformed (path_flaw (name_is_read client name i) (number_is_read number least most i) (body_flaw body)) (arrival_of (name_is_read client name i) (number_is_read number least most i) (ask_with [] body) (call_in body))))
    (meant_as text (Brings c) heard)

pub import_means : (client : List ℕ) (number : ℕ) (b p raw text : List ℕ) → IsTrue (is_name client) → IsTrue (is_name b) → IsTrue (is_name p) → 1 ≤ number → number < 10 ^ 18
    → IsHeardAs text (Brings (posted (target_with client number (import_tail b p)) raw)) → Means text (posted_with client number (import_tail b p) raw (Some (call.Job (request.Import b p raw))))
import_means client number b p raw text name batch product least most heard =
    let c : MessageParts = posted (target_with client number (import_tail b p)) raw in
    subst (λ r. Means text (meant_by r))
    (ap (λ o. asked_at o c) (import_route client b p number name batch product (omega (arith, most)))
    ∙ (λ i. or_malformed (path_flaw (name_is_read client name i) (number_is_read number least most i) flaw.PathName) (arrival_of (name_is_read client name i) (number_is_read number least most i) (ask_with (import_tail b p) raw) (import_of (name_is_read b batch i) (name_is_read p product i) raw))))
    (meant_as text (Brings c) heard)
