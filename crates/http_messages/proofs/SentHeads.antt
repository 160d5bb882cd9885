-- Lemmas about the head of a request that a client sends: its end, the result of its tests, and its
-- meaning together with a body.
use Rattle.std.proofs.Common.{◌≡◌, ◌<◌, ◌≤◌, ◌+◌, ◌-◌, ◌^◌, ◌==◌, ℕ, zero, suc, Bool, true, false, cond, List, [], ◌∷◌, ◌++◌, length, take, drop, reverse, get_or, Option}
use Rattle.std.proofs.Common.{Some, None, inl, inr, refl, sym, ap, subst, ◌∙◌, codes, decimal, arith, append_assoc, append-nil, length-append, length-drop, length-take-le}
use Rattle.std.specs.Prelude.{◌&&◌, not, nat_eq, nat_lt, nat_le, slice_index, Ok}
use Rattle.std.specs.List.{ends_with, list_all}
use Rattle.std.specs.Char.{digit_value, is_ascii_digit}
use Rattle.std.specs.Cmp.Lexicographic.{same_text}
use Rattle.std.specs.Str.{IsAscii}
use Rattle.std.specs.Str.Parse.{AllDigits}
use Rattle.std.proofs.Math.ListN.{get_or-append}
use Rattle.std.proofs.Math.Seq.{drop-append_seam, take-append_seam}
use Rattle.std.proofs.lemmas.Bool.{and_parts, cases_Bool, cond-false}
use Rattle.std.proofs.lemmas.Bool.Decides.{nat_tests}
use Rattle.std.proofs.lemmas.Fmt.{decimal_is_IsNumeral}
use Rattle.std.proofs.lemmas.List.{get_or-drop, get_or-take, reverse-append, take_all}
use Rattle.std.proofs.lemmas.List.Elements.{All-cons, All-nil}
use Rattle.std.proofs.lemmas.List.Folds.{list_all-append}
use Rattle.std.proofs.lemmas.List.Sums.{AllPass-from_list_all}
use Rattle.std.proofs.lemmas.Str.{IsUtf8-from_ascii}
use Rattle.std.proofs.lemmas.Str.Ascii.{IsAscii-cons, IsAscii-nil}
use lib.Pointwise.{pointwise}
use Rattle.httparse.specs.Grammar.{Field, IsField, RequestHead, ReadsRequest, crlf, is_ows, is_token_byte, is_uri_byte, is_value_byte, print_request, skip_ows, trim_ows}
use Rattle.httparse.proofs.GrammarLemmas.{cons-append, request_unique}
use Rattle.httparse.proofs.OnLiterals.{httparse_on_literals}
use Rattle.httparse.proofs.TrimLemmas.{trim_ows_space}
use Rattle.std.specs.Option.{option_or}
use Rattle.http_messages.specs.Heads.{HeadParts, IsJudged, bare_lf_after, body_size, ends_head, has_bare_lf, head_end, least, pairs, pairs_after, parts_of, size_text, sized}
use Rattle.text_io.specs.Inputs.{most_input}
use Rattle.http_messages.specs.Messages.{Brings, Broken, IsHeard, IsHeardAs, IsHeardBy, after_head, end_of_head}
use Rattle.http_messages.specs.RequestHeads.{IsHeardBefore, IsTarget, is_visible, posted, request_head}
use Rattle.http_messages.proofs.AloneLemmas.{heard_as}
use Rattle.http_messages.proofs.BodyLemmas.{end_stays}
use Rattle.http_messages.proofs.EndLemmas.{found_at}
use Rattle.http_messages.proofs.LineLemmas.{judged_read}

-- ---- visible characters, which exclude spaces, line ends and control characters

abbrev are_seen : List ℕ → Bool
are_seen xs = list_all is_visible xs

seen_is_no_lf : (b : ℕ) → is_visible b ≡ true → (b == 10) ≡ false
seen_is_no_lf b h = grind (arith, nat_tests)

seen_is_no_cr : (b : ℕ) → is_visible b ≡ true → (b == 13) ≡ false
seen_is_no_cr b h = grind (arith, nat_tests)

seen_is_no_ows : (b : ℕ) → is_visible b ≡ true → is_ows b ≡ false
seen_is_no_ows b h = grind (arith, nat_tests)

seen_is_uri : (b : ℕ) → is_visible b ≡ true → is_uri_byte b ≡ true
seen_is_uri b h = grind (arith, nat_tests)

seen_is_value : (b : ℕ) → is_visible b ≡ true → is_value_byte b ≡ true
seen_is_value b h = grind (arith, nat_tests)

seen_is_ascii : (b : ℕ) → is_visible b ≡ true → b < 128
seen_is_ascii b h = grind (arith, nat_tests)

seen_pass : (test : ℕ → Bool) → ((b : ℕ) → is_visible b ≡ true → test b ≡ true) → (xs : List ℕ) → are_seen xs ≡ true → list_all test xs ≡ true
seen_pass test passes [] h = refl
seen_pass test passes (b ∷ xs) h =
    let parts = and_parts (is_visible b) (list_all is_visible xs) h in
    ap (λ (t : Bool). t && list_all test xs) (passes b parts.0) ∙ seen_pass test passes xs parts.1

seen_ascii : (xs : List ℕ) → are_seen xs ≡ true → IsAscii xs
seen_ascii [] h = IsAscii-nil
seen_ascii (b ∷ xs) h =
    let parts = and_parts (is_visible b) (list_all is_visible xs) h in
    IsAscii-cons b xs (seen_is_ascii b parts.0) (seen_ascii xs parts.1)

seen_reverse : (xs : List ℕ) → are_seen xs ≡ true → are_seen (reverse xs) ≡ true
seen_reverse [] h = refl
seen_reverse (b ∷ xs) h =
    let parts = and_parts (is_visible b) (list_all is_visible xs) h in
    ap are_seen (reverse-append (b ∷ []) xs) ∙ list_all-append is_visible (reverse xs) (b ∷ []) ∙ ap (λ (t : Bool). t && are_seen (b ∷ [])) (seen_reverse xs parts.1) ∙ ap (λ (t : Bool). t && true) parts.0

seen_skip : (xs : List ℕ) → are_seen xs ≡ true → skip_ows xs ≡ xs
seen_skip [] h = refl
seen_skip (b ∷ xs) h = cond-false _ _ _ (seen_is_no_ows b (and_parts (is_visible b) (list_all is_visible xs) h).0)

digit_is_seen : (d : ℕ) → digit_value d < 10 → is_visible d ≡ true
digit_is_seen d h = grind (arith, nat_tests)

digit_is_digit : (d : ℕ) → digit_value d < 10 → is_ascii_digit d ≡ true
digit_is_digit d h = grind (arith, nat_tests)

digits_are_seen : (ds : List ℕ) → AllDigits 10 ds → are_seen ds ≡ true
digits_are_seen [] h = refl
digits_are_seen (d ∷ ds) h = ap (λ (t : Bool). t && are_seen ds) (digit_is_seen d h.0) ∙ digits_are_seen ds h.1

pub digits_are_digits : (ds : List ℕ) → AllDigits 10 ds → list_all is_ascii_digit ds ≡ true
digits_are_digits [] h = refl
digits_are_digits (d ∷ ds) h = ap (λ (t : Bool). t && list_all is_ascii_digit ds) (digit_is_digit d h.0) ∙ digits_are_digits ds h.1

decimal_is_seen : (n : ℕ) → n < 2 ^ 64 → are_seen (decimal n) ≡ true
decimal_is_seen n h = digits_are_seen (decimal n) (decimal_is_IsNumeral n h).0.1

-- ---- visible characters don't affect the tests of line ends

-- no CR directly follows an LF; `lf` is true if the bytes follow an LF
calm_after : Bool → List ℕ → Bool
calm_after lf [] = true
calm_after lf (b ∷ bytes) = not (lf && (b == 13)) && calm_after (b == 10) bytes

calm_skip : (xs ys : List ℕ) → are_seen xs ≡ true → calm_after false (xs ++ ys) ≡ calm_after false ys
unfolding calm_after
calm_skip [] ys h = refl
calm_skip (b ∷ xs) ys h =
    let parts = and_parts (is_visible b) (list_all is_visible xs) h in
    ap (λ (t : Bool). calm_after t (xs ++ ys)) (seen_is_no_lf b parts.0) ∙ calm_skip xs ys parts.1

bare_skip : (xs ys : List ℕ) → are_seen xs ≡ true → bare_lf_after false (xs ++ ys) ≡ bare_lf_after false ys
bare_skip [] ys h = refl
bare_skip (b ∷ xs) ys h =
    let parts = and_parts (is_visible b) (list_all is_visible xs) h in
    (λ i. cond (seen_is_no_lf b parts.0 i && true) true (bare_lf_after (seen_is_no_cr b parts.0 i) (xs ++ ys))) ∙ bare_skip xs ys parts.1

zero_more : (n : ℕ) → 0 + n ≡ n
zero_more n = omega arith

pairs_skip : (xs ys : List ℕ) → are_seen xs ≡ true → pairs_after false (xs ++ ys) ≡ pairs_after false ys
pairs_skip [] ys h = refl
pairs_skip (b ∷ xs) ys h =
    let parts = and_parts (is_visible b) (list_all is_visible xs) h in
    (λ i. cond (seen_is_no_lf b parts.0 i && false) 1 0 + pairs_after (seen_is_no_cr b parts.0 i) (xs ++ ys)) ∙ zero_more (pairs_after false (xs ++ ys)) ∙ pairs_skip xs ys parts.1

-- ---- the head with a given path and size of the body

size_line : List ℕ
size_line = codes " HTTP/1.1\r\nHost: localhost\r\nContent-Length: "

-- the head without the line end at its end
front : List ℕ → List ℕ → List ℕ
front target digits = codes "POST " ++ (target ++ (size_line ++ (digits ++ codes "\r\n")))

laid : List ℕ → List ℕ → List ℕ
laid target digits = codes "POST " ++ (target ++ (size_line ++ (digits ++ codes "\r\n\r\n")))

head_laid : (target : List ℕ) (n : ℕ) → request_head target n ≡ laid target (decimal n)
unfolding request_head laid size_line
head_laid target n = simp (append_assoc, cons-append)

front_laid : (target digits : List ℕ) → front target digits ++ codes "\r\n" ≡ laid target digits
unfolding front laid size_line
front_laid target digits = simp (append_assoc, cons-append)

calm_front : (target digits : List ℕ) → are_seen target ≡ true → are_seen digits ≡ true → calm_after false (front target digits) ≡ true
unfolding front size_line calm_after
calm_front target digits t d = calm_skip target (size_line ++ (digits ++ codes "\r\n")) t ∙ calm_skip digits (codes "\r\n") d

no_bare : (target digits : List ℕ) → are_seen target ≡ true → are_seen digits ≡ true → has_bare_lf (laid target digits) ≡ false
unfolding laid size_line
no_bare target digits t d = bare_skip target (size_line ++ (digits ++ codes "\r\n\r\n")) t ∙ bare_skip digits (codes "\r\n\r\n") d

four_pairs : (target digits : List ℕ) → are_seen target ≡ true → are_seen digits ≡ true → nat_lt 34 (pairs (laid target digits)) ≡ false
unfolding laid size_line
four_pairs target digits t d =
    let first = pairs_skip target (size_line ++ (digits ++ codes "\r\n\r\n")) t in
    let second = pairs_skip digits (codes "\r\n\r\n") d in
    let all : pairs (laid target digits) ≡ 4 = omega (arith, first, second) in
    ap (nat_lt 34) all

-- ---- the end of the head

none_up_to : (p : ℕ → Bool) (n : ℕ) → ((k : ℕ) → k ≤ n → p k ≡ false) → least p n ≡ None
none_up_to p zero h = ap (λ (b : Bool). cond b (Some zero) None) (h zero (omega arith))
none_up_to p (suc n) h =
    ap (λ (o : Option ℕ). option_or o (cond (p (suc n)) (Some (suc n)) None)) (none_up_to p n (λ k le. h k (omega (arith, le))))
    ∙ ap (λ (b : Bool). cond b (Some (suc n)) None) (h (suc n) (omega arith))

-- if no CR directly follows an LF, then no position has an LF that is followed by a CR
calm_at : (lf : Bool) (xs : List ℕ) → calm_after lf xs ≡ true → (i : ℕ) → i + 1 < length xs → slice_index xs i ≡ 10 → slice_index xs (i + 1) ≡ 13 → ⊥
unfolding calm_after
calm_at lf [] h i lt is then = absurd (omega (arith, lt))
calm_at lf (x ∷ []) h i lt is then = absurd (omega (arith, lt))
calm_at lf (x ∷ y ∷ xs) h zero lt is then =
    let rest = (and_parts (not (lf && (x == 13))) (calm_after (x == 10) (y ∷ xs)) h).1 in
    let first = (and_parts (not ((x == 10) && (y == 13))) (calm_after (y == 10) xs) rest).0 in
    grind (arith, nat_tests, first, is, then)
calm_at lf (x ∷ y ∷ xs) h (suc i) lt is then =
    let rest = (and_parts (not (lf && (x == 13))) (calm_after (x == 10) (y ∷ xs)) h).1 in
    let e : suc i + 1 ≡ suc (i + 1) = omega arith in
    calm_at (x == 10) (y ∷ xs) rest i (omega (arith, lt)) is (sym (ap (slice_index (x ∷ y ∷ xs)) e) ∙ then)

line_ends : List ℕ
line_ends = codes "\r\n\r\n"

no_end : (xs : List ℕ) (k : ℕ) → calm_after false xs ≡ true → k < length xs + 2 → ends_head (xs ++ codes "\r\n") k ≡ false
unfolding line_ends
no_end xs k calm early =
    let all = xs ++ codes "\r\n" in
    let long : length all ≡ length xs + 2 = length-append xs (codes "\r\n") in
    let size : length (take k all) ≡ k = length-take-le k all (omega (arith, early, long)) in
    elim (cases_Bool (ends_head all k)) [
      | inl ends ↦
          let at = length (take k all) - 4 in
          let is : line_ends ≡ drop at (take k all) = same_text line_ends (drop at (take k all)) (sym ends) in
          let four : 4 ≡ length (take k all) - at = ap length is ∙ length-drop at (take k all) in
          let lf : slice_index xs (at + 1) ≡ 10 =
          sym (get_or-append xs (codes "\r\n") 0 (at + 1) (omega (arith, early, size, four))) ∙ sym (get_or-take k all (at + 1) 0 (omega (arith, size, four)))
          ∙ sym (get_or-drop at (take k all) 1 0) ∙ ap (λ (l : List ℕ). get_or l 1 0) (sym is) in
          let cr : slice_index xs (at + 2) ≡ 13 =
          sym (get_or-append xs (codes "\r\n") 0 (at + 2) (omega (arith, early, size, four))) ∙ sym (get_or-take k all (at + 2) 0 (omega (arith, size, four)))
          ∙ sym (get_or-drop at (take k all) 2 0) ∙ ap (λ (l : List ℕ). get_or l 2 0) (sym is) in
          let next : at + 1 + 1 ≡ at + 2 = omega arith in
          absurd (calm_at false xs calm (at + 1) (omega (arith, early, size, four)) lf (ap (slice_index xs) next ∙ cr))
      | inr other ↦ other
    ]

ends_at_last : (xs before : List ℕ) → xs ≡ before ++ codes "\r\n\r\n" → ends_head xs (length xs) ≡ true
ends_at_last xs before is =
    let all = before ++ codes "\r\n\r\n" in
    let size : length all - 4 ≡ length before = omega (arith, length-append before (codes "\r\n\r\n")) in
    let tail : drop (length all - 4) all ≡ codes "\r\n\r\n" = ap (λ (n : ℕ). drop n all) size ∙ drop-append_seam before (codes "\r\n\r\n") in
    ap (λ (l : List ℕ). ends_with nat_eq l (codes "\r\n\r\n")) (take_all (length xs) xs (omega arith) ∙ is) ∙ ap (pointwise nat_eq (codes "\r\n\r\n")) tail

last_laid : (target digits : List ℕ) → laid target digits ≡ (codes "POST " ++ (target ++ (size_line ++ digits))) ++ codes "\r\n\r\n"
unfolding laid size_line
last_laid target digits = simp (append_assoc, cons-append)

laid_ends : (target digits : List ℕ) → are_seen target ≡ true → are_seen digits ≡ true → head_end (laid target digits) ≡ Some (length (laid target digits))
laid_ends target digits t d =
    let xs = front target digits in
    let same = front_laid target digits in
    let long : length (laid target digits) ≡ length xs + 2 = sym (ap length same) ∙ length-append xs (codes "\r\n") in
    let one : length xs + 1 + 1 ≡ length (laid target digits) = omega (arith, long) in
    let none : least (ends_head (laid target digits)) (length xs + 1) ≡ None =
    none_up_to (ends_head (laid target digits)) (length xs + 1) (λ k le. ap (λ (l : List ℕ). ends_head l k) (sym same) ∙ no_end xs k (calm_front target digits t d) (omega (arith, le))) in
    let here : ends_head (laid target digits) (length xs + 1 + 1) ≡ true = ap (ends_head (laid target digits)) one ∙ ends_at_last (laid target digits) (codes "POST " ++ (target ++ (size_line ++ digits))) (last_laid target digits) in
    found_at (laid target digits) (length xs + 1) (omega (arith, long)) none here ∙ ap (λ (n : ℕ). Some n) one

-- ---- the head in the grammar of HTTP/1.1

host : Field
host = record { name = codes "Host"; raw = codes " localhost"; end = crlf }

size_field : List ℕ → Field
size_field digits = record { name = codes "Content-Length"; raw = 32 ∷ digits; end = crlf }

tree : List ℕ → List ℕ → RequestHead
tree target digits = record { blank = []; method = codes "POST"; target = target; minor = 1; line_end = crlf; fields = host ∷ size_field digits ∷ []; last = crlf }

tree_is_printed : (target digits : List ℕ) → laid target digits ≡ print_request (tree target digits)
unfolding laid size_line tree host size_field httparse_on_literals
tree_is_printed target digits =
    let lines : ((digits ++ codes "\r\n") ++ []) ++ codes "\r\n" ≡ digits ++ codes "\r\n\r\n" =
    append_assoc (digits ++ codes "\r\n") [] (codes "\r\n") ∙ append_assoc digits (codes "\r\n") (codes "\r\n") in
    let version = codes " HTTP/1.1" in
    let section = codes "Host: localhost\r\nContent-Length: " ++ (((digits ++ codes "\r\n") ++ []) ++ codes "\r\n") in
    ap (λ (l : List ℕ). codes "POST " ++ (target ++ (size_line ++ l))) (sym lines)
    ∙ ap (λ (l : List ℕ). codes "POST " ++ l) (sym (append_assoc (target ++ version) (codes "\r\n") section ∙ append_assoc target version (codes "\r\n" ++ section)))

reads : (target digits : List ℕ) → are_seen target ≡ true → are_seen digits ≡ true → 0 < length target → ReadsRequest (laid target digits) (tree target digits) []
unfolding tree host size_field httparse_on_literals
reads target digits t d some = (
  record {
    method = (omega arith, AllPass-from_list_all is_token_byte (codes "POST") refl);
    target = (some, AllPass-from_list_all is_uri_byte target (seen_pass is_uri_byte seen_is_uri target t));
    target_text = IsUtf8-from_ascii target (seen_ascii target t);
    minor = omega arith;
    fields = All-cons IsField host (size_field digits ∷ [])
        (record { name = (omega arith, AllPass-from_list_all is_token_byte (codes "Host") refl); raw = AllPass-from_list_all is_value_byte (codes " localhost") refl })
        (All-cons IsField (size_field digits) []
        (record { name = (omega arith, AllPass-from_list_all is_token_byte (codes "Content-Length") refl); raw = AllPass-from_list_all is_value_byte (32 ∷ digits) (seen_pass is_value_byte seen_is_value digits d) })
        (All-nil IsField));
  },
  tree_is_printed target digits ∙ sym (append-nil (print_request (tree target digits))),
)

size_of_decimal : (n : ℕ) → n ≤ most_input → size_text (decimal n) ≡ Ok n
unfolding size_text
size_of_decimal n fits =
    let numeral = decimal_is_IsNumeral n (omega (arith, fits)) in
    let some : nat_lt 0 (length (decimal n)) ≡ true = grind (arith, nat_tests, numeral.0.0) in
    let few : nat_le n most_input ≡ true = grind (arith, nat_tests, fits) in
    rw (some, digits_are_digits (decimal n) numeral.0.1, numeral.1, few) refl

tree_parts : (target : List ℕ) (n : ℕ) → n ≤ most_input → parts_of (tree target (decimal n)) ≡ Ok (record { method = codes "POST"; target = target; size = n })
unfolding tree host size_field httparse_on_literals body_size
tree_parts target n fits =
    let d = decimal_is_seen n (omega (arith, fits)) in
    let digits = decimal n in
    let bare : trim_ows (32 ∷ digits) ≡ digits = trim_ows_space digits (seen_skip digits d) (seen_skip (reverse digits) (seen_reverse digits d)) in
    ap (λ (l : List ℕ). sized (codes "POST") target (size_text l)) bare ∙ ap (sized (codes "POST") target) (size_of_decimal n fits)

judged : (target : List ℕ) (n : ℕ) → are_seen target ≡ true → 0 < length target → n ≤ most_input → IsJudged (laid target (decimal n)) (Ok (record { method = codes "POST"; target = target; size = n }))
judged target n t some fits =
    let d = decimal_is_seen n (omega (arith, fits)) in
    let own = reads target (decimal n) t d some in
    judged_read (laid target (decimal n)) (Ok (record { method = codes "POST"; target = target; size = n })) (no_bare target (decimal n) t d) (four_pairs target (decimal n) t d) (tree target (decimal n)) own
    (λ h other few. sym (tree_parts target n fits) ∙ ap parts_of (request_unique (laid target (decimal n)) (tree target (decimal n)) h [] [] own other).0)

-- ---- a complete message

is_heard : (target body : List ℕ) → are_seen target ≡ true → 0 < length target → length (request_head target (length body)) ≤ 8192 → length body ≤ most_input
    → IsHeard (request_head target (length body) ++ body) (Brings (posted target body))
is_heard target body t some short fits =
    let d = decimal_is_seen (length body) (omega (arith, fits)) in
    let head = request_head target (length body) in
    let parts : HeadParts = record { method = codes "POST"; target = target; size = length body } in
    let same = head_laid target (length body) in
    let end : head_end head ≡ Some (length head) = ap head_end same ∙ laid_ends target (decimal (length body)) t d ∙ ap (λ (l : List ℕ). Some (length l)) (sym same) in
    let here : end_of_head (head ++ body) ≡ Some (length head) = end_stays head body (length head) short end in
    let front_is : take (length head) (head ++ body) ≡ laid target (decimal (length body)) = take-append_seam head body ∙ same in
    let back : drop (length head) (head ++ body) ≡ body = drop-append_seam head body in
    let no_less : nat_lt (length body) (length body) ≡ false = grind (arith, nat_tests) in
    subst (λ (e : Option ℕ). IsHeardBy (head ++ body) e (Brings (posted target body))) (sym here) (
      Ok parts,
      subst (λ (h : List ℕ). IsJudged h (Ok parts)) (sym front_is) (judged target (length body) t some fits),
      sym (ap (after_head (Ok parts)) back
          ∙ (λ i. cond (no_less i) Broken (Brings (record { method = codes "POST"; target = target; body = take (length body) body })))
          ∙ ap (λ (b : List ℕ). Brings (record { method = codes "POST"; target = target; body = b })) (take_all (length body) body (omega arith))),
    )

pub sent_is_heard : (target : List ℕ) (size : ℕ) → IsTarget target → size ≤ most_input → length (request_head target size) ≤ 8192 → IsHeardBefore target size
sent_is_heard target size (some, seen) fits short = λ body is.
    subst (λ (n : ℕ). IsHeardAs (request_head target n ++ body) (Brings (posted target body))) is
    (heard_as (request_head target (length body) ++ body) (Brings (posted target body))
    (is_heard target body seen some (subst (λ (n : ℕ). length (request_head target n) ≤ 8192) (sym is) short) (subst (λ (n : ℕ). n ≤ most_input) (sym is) fits)))
