-- Lemmas about the progress of a message, and about further bytes.
use Rattle.std.proofs.Common.{◌≡◌, ℕ, zero, suc, ◌<◌, ◌≤◌, Bool, true, false, cond, List, [], ◌∷◌, ◌++◌, length, take, drop, Option, Some, None, Result, Ok, Err, inl, inr, refl, sym, ap, subst, ◌∙◌, arith, length-take-le}
use Rattle.std.specs.Prelude.{nat_le, nat_lt, not, ◌&&◌, filter, map}
use Rattle.std.specs.Char.{is_ascii_digit}
use Rattle.std.specs.List.{list_all, list_any}
use Rattle.std.specs.Option.{option_or}
use Rattle.std.specs.Str.Parse.{digits_value}
use Rattle.std.specs.Prelude.{codes}
use Rattle.std.proofs.Math.Logic.{⊎_elim}
use Rattle.std.proofs.lemmas.Bool.{cases_Bool, cases_lt, le-ltb, leb-true, lt-ltb}
use Rattle.std.proofs.lemmas.List.{drop-append-le, length-append, length-drop, take-append-le, take_all}
use Rattle.std.proofs.lemmas.Option.{none-some, same_Some}
use Rattle.httparse.specs.Spans.{name_and_value}
use Rattle.text_io.specs.Inputs.{most_input}
use Rattle.http_messages.specs.declared.fixed.FixedReply.{FixedReply}
use Rattle.http_messages.specs.declared.fixed.FixedReply.TheVariants.{HeadTooLarge, Malformed, TooLarge}
use Rattle.http_messages.specs.declared.flaw.Flaw.TheVariants as flaw
use Rattle.http_messages.specs.Heads.{HeadParts, IsJudged, Pair, body_size, ends_head, has_bare_lf, head_end, is_named, least, pairs, size_in, size_text, sized}
use Rattle.http_messages.specs.Messages.{Brings, Broken, Heard, IsHeardAs, IsHeardBy, MessageParts, Refused, after_head, end_of_head}
use Rattle.http_messages.specs.Progresses.{HasLength}
use Rattle.http_messages.proofs.AloneLemmas.{heard_as}
use Rattle.http_messages.proofs.BodyLemmas.{end_stays}

-- ---- the size of a body

size_text_fits : (text : List ℕ) (n : ℕ) → size_text text ≡ Ok n → n ≤ most_input
unfolding size_text
size_text_fits text n is =
    elim (nat_lt 0 (length text) && list_all is_ascii_digit text) as (λ (b : Bool). cond (not b) (Err (Malformed flaw.ContentLength)) (cond (nat_le (digits_value 10 text) most_input) (Ok (digits_value 10 text)) (Err TooLarge)) ≡ Ok n → n ≤ most_input) [
      | true ↦ λ digits. elim (cases_Bool (nat_le (digits_value 10 text) most_input)) [
        | inl fits ↦
            let small : digits_value 10 text ≤ most_input = leb-true (digits_value 10 text) most_input fits in
            let here : Ok (digits_value 10 text) ≡ Ok n = sym (ap (λ (c : Bool). cond c (Ok (digits_value 10 text)) (Err TooLarge)) fits) ∙ digits in
            let same : digits_value 10 text ≡ n = cc in
            omega (arith, small, same)
        | inr more ↦
            let here : Err TooLarge ≡ Ok n = sym (ap (λ (c : Bool). cond c (Ok (digits_value 10 text)) (Err TooLarge)) more) ∙ digits in
            absurd (cc)
      ]
      | false ↦ λ none. absurd (cc)
    ] is

size_in_fits : (fields : List Pair) (n : ℕ) → size_in fields ≡ Ok n → n ≤ most_input
size_in_fits [] n is = let none : 0 ≡ n = cc in omega (arith, none)
size_in_fits (f ∷ []) n is = size_text_fits f.1 n is
size_in_fits (f ∷ g ∷ more) n is = absurd (cc)

body_size_fits : (fields : List Pair) (n : ℕ) → body_size fields ≡ Ok n → n ≤ most_input
unfolding body_size
body_size_fits fields n is =
    elim (list_any (is_named (codes "transfer-encoding")) fields) as (λ (b : Bool). cond b (Err (Malformed flaw.TransferEncoding)) (size_in (filter (is_named (codes "content-length")) fields)) ≡ Ok n → n ≤ most_input) [
      | true ↦ λ coded. absurd (cc)
      | false ↦ λ plain. size_in_fits (filter (is_named (codes "content-length")) fields) n plain
    ] is

sized_fits : (method target : List ℕ) (r : Result ℕ FixedReply) (p : HeadParts) → ((n : ℕ) → r ≡ Ok n → n ≤ most_input) → sized method target r ≡ Ok p → p.size ≤ most_input
sized_fits method target (Ok n) p fits is =
    let size : n ≡ p.size = ap (λ (s : Result HeadParts FixedReply). elim s [ Ok q ↦ q.size | Err why ↦ 0 ]) is in
    omega (arith, fits n refl, size)
sized_fits method target (Err why) p fits is = absurd (cc)

-- the body after a head that passes its tests has at most 16 MiB
pub judged_fits : (head : List ℕ) (p : HeadParts) → IsJudged head (Ok p) → p.size ≤ most_input
judged_fits head p judged =
    elim (cases_Bool (has_bare_lf head)) [
      | inl bare ↦ (let refused : Ok p ≡ Err (Malformed flaw.BareLf) = judged.bare bare in absurd (cc))
      | inr whole ↦ elim (cases_Bool (nat_lt 34 (pairs head))) [
        | inl many ↦ (let refused : Ok p ≡ Err HeadTooLarge = judged.many whole many in absurd (cc))
        | inr few ↦ elim (judged.either whole few) [
          | inl found ↦ sized_fits found.0.method found.0.target (body_size (map name_and_value found.0.fields)) p (body_size_fits (map name_and_value found.0.fields)) (sym found.2)
          | inr none ↦ (let refused : Ok p ≡ Err (Malformed flaw.Grammar) = none.1 in absurd (cc))
        ]
      ]
    ]

-- ---- the end of the head

least_within : (p : ℕ → Bool) (n m : ℕ) → least p n ≡ Some m → m ≤ n
least_within p zero m found =
    elim (p zero) as (λ (b : Bool). cond b (Some zero) None ≡ Some m → m ≤ zero) [
      | true ↦ λ is. (let same : zero ≡ m = same_Some zero m is in omega (arith, same))
      | false ↦ λ is. absurd (none-some m is)
    ] found
least_within p (suc n) m found =
    elim (least p n) as (λ (o : Option ℕ). least p n ≡ o → option_or o (cond (p (suc n)) (Some (suc n)) None) ≡ Some m → m ≤ suc n) [
      | Some k ↦ λ was is. (let same : k ≡ m = same_Some k m is in omega (arith, same, least_within p n k was))
      | None ↦ λ was is. elim (p (suc n)) as (λ (b : Bool). cond b (Some (suc n)) None ≡ Some m → m ≤ suc n) [
        | true ↦ λ here. (let same : suc n ≡ m = same_Some (suc n) m here in omega (arith, same))
        | false ↦ λ here. absurd (none-some m here)
      ] is
    ] refl found

-- the end of the head is within the bytes
pub end_within : (bytes : List ℕ) (end : ℕ) → end_of_head bytes ≡ Some end → end ≤ length bytes
end_within bytes end found = ⊎_elim
    (λ (few : length bytes < 8192). let same : take 8192 bytes ≡ bytes = take_all 8192 bytes (omega (arith, few)) in
    omega (arith, least_within (ends_head (take 8192 bytes)) (length (take 8192 bytes)) end found, ap length same))
    (λ (many : 8192 ≤ length bytes). omega (arith, least_within (ends_head (take 8192 bytes)) (length (take 8192 bytes)) end found, length-take-le 8192 bytes many, many))
    (cases_lt (length bytes) 8192)

-- further bytes don't change the end of the head
pub end_on : (bytes more : List ℕ) (end : ℕ) → end_of_head bytes ≡ Some end → end_of_head (bytes ++ more) ≡ Some end
end_on bytes more end found = ⊎_elim
    (λ (few : length bytes < 8192). let same : take 8192 bytes ≡ bytes = take_all 8192 bytes (omega (arith, few)) in
    end_stays bytes more end (omega (arith, few)) (sym (ap head_end same) ∙ found))
    (λ (many : 8192 ≤ length bytes). ap head_end (take-append-le 8192 bytes more many) ∙ found)
    (cases_lt (length bytes) 8192)

-- ---- the meaning of the bytes

heard_by : (bytes : List ℕ) (o : Option ℕ) (heard : Heard) → end_of_head bytes ≡ o → IsHeardBy bytes o heard → IsHeardAs bytes heard
heard_by bytes o heard is p = heard_as bytes heard (subst (λ (e : Option ℕ). IsHeardBy bytes e heard) (sym is) p)

pub without_end : (bytes : List ℕ) → length bytes < 8192 → end_of_head bytes ≡ None → IsHeardAs bytes Broken
without_end bytes few none = heard_by bytes None Broken none (sym (ap (λ (b : Bool). cond b Broken (Refused HeadTooLarge)) (lt-ltb (length bytes) 8192 few)))

pub too_large : (bytes more : List ℕ) → length bytes ≡ 8192 → head_end bytes ≡ None → IsHeardAs (bytes ++ more) (Refused HeadTooLarge)
too_large bytes more size none =
    let front : take 8192 (bytes ++ more) ≡ bytes = take-append-le 8192 bytes more (omega (arith, size)) ∙ take_all 8192 bytes (omega (arith, size)) in
    let many : nat_lt (length (bytes ++ more)) 8192 ≡ false = le-ltb (length (bytes ++ more)) 8192 (omega (arith, size, length-append bytes more)) in
    heard_by (bytes ++ more) None (Refused HeadTooLarge) (ap head_end front ∙ none) (sym (ap (λ (b : Bool). cond b Broken (Refused HeadTooLarge)) many))

-- further bytes don't change the result of the head's tests
head_on : (bytes more : List ℕ) (end : ℕ) (judged : Result HeadParts FixedReply) → end_of_head bytes ≡ Some end → IsJudged (take end bytes) judged → IsJudged (take end (bytes ++ more)) judged
head_on bytes more end judged found is = subst (λ (head : List ℕ). IsJudged head judged) (sym (take-append-le end bytes more (end_within bytes end found))) is

pub refused_on : (bytes more : List ℕ) (end : ℕ) (why : FixedReply) → end_of_head bytes ≡ Some end → IsJudged (take end bytes) (Err why) → IsHeardAs (bytes ++ more) (Refused why)
refused_on bytes more end why found is = heard_by (bytes ++ more) (Some end) (Refused why) (end_on bytes more end found) (Err why, head_on bytes more end (Err why) found is, refl)

pub length_on : (bytes more : List ℕ) (total : ℕ) → HasLength bytes total → HasLength (bytes ++ more) total
length_on bytes more total (end, p, found, is, sum) = (end, p, end_on bytes more end found, head_on bytes more end (Ok p) found is, sum)

pub short_is_broken : (bytes : List ℕ) (total : ℕ) → HasLength bytes total → length bytes < total → IsHeardAs bytes Broken
short_is_broken bytes total (end, p, found, is, sum) few =
    let lacks : nat_lt (length (drop end bytes)) p.size ≡ true = lt-ltb (length (drop end bytes)) p.size (omega (arith, length-drop end bytes, end_within bytes end found, sum, few)) in
    heard_by bytes (Some end) Broken found
    (Ok p, is, sym (ap (λ (b : Bool). cond b Broken (Brings (record { method = p.method; target = p.target; body = take p.size (drop end bytes) }))) lacks))

-- bytes that start with a complete message mean this message
long_brings : (bytes more : List ℕ) (end : ℕ) (p : HeadParts) → end_of_head bytes ≡ Some end → IsJudged (take end bytes) (Ok p) → p.size ≤ length (drop end bytes)
    → IsHeardAs (bytes ++ more) (Brings (record { method = p.method; target = p.target; body = take p.size (drop end bytes) }))
long_brings bytes more end p found is fits =
    let rest : drop end (bytes ++ more) ≡ drop end bytes ++ more = drop-append-le end bytes more (end_within bytes end found) in
    let whole : nat_lt (length (drop end bytes ++ more)) p.size ≡ false = le-ltb (length (drop end bytes ++ more)) p.size (omega (arith, fits, length-append (drop end bytes) more)) in
    let body : take p.size (drop end bytes ++ more) ≡ take p.size (drop end bytes) = take-append-le p.size (drop end bytes) more fits in
    let brings : List ℕ → Heard = λ (b : List ℕ). Brings (record { method = p.method; target = p.target; body = b }) in
    let after : after_head (Ok p) (drop end (bytes ++ more)) ≡ brings (take p.size (drop end bytes)) = ap (after_head (Ok p)) rest ∙ ap (λ (b : Bool). cond b Broken (brings (take p.size (drop end bytes ++ more)))) whole ∙ ap brings body in
    heard_by (bytes ++ more) (Some end) (brings (take p.size (drop end bytes))) (end_on bytes more end found) (Ok p, head_on bytes more end (Ok p) found is, sym after)

pub long_is_message : (bytes : List ℕ) (total : ℕ) → HasLength bytes total → total ≤ length bytes → (m : MessageParts) × ((more : List ℕ) → IsHeardAs (bytes ++ more) (Brings m))
long_is_message bytes total (end, p, found, is, sum) many = (
  record { method = p.method; target = p.target; body = take p.size (drop end bytes) },
  λ (more : List ℕ). long_brings bytes more end p found is (omega (arith, length-drop end bytes, end_within bytes end found, sum, many)),
)

-- ---- the result of `progress_from`

pub whole_front : (bytes : List ℕ) (o : Option ℕ) → length bytes ≤ 8192 → head_end bytes ≡ o → end_of_head bytes ≡ o
whole_front bytes o few found = ap head_end (take_all 8192 bytes few) ∙ found

pub front_end : (bytes : List ℕ) (end : ℕ) → length bytes ≤ 8192 → end ≤ length bytes → head_end bytes ≡ Some end → end_of_head bytes ≡ Some (length (take end bytes))
front_end bytes end few within found = whole_front bytes (Some end) few found ∙ ap Some (sym (length-take-le end bytes within))

pub front_taken : (bytes : List ℕ) (end : ℕ) → end ≤ length bytes → take (length (take end bytes)) bytes ≡ take end bytes
front_taken bytes end within = ap (λ (n : ℕ). take n bytes) (length-take-le end bytes within)
