-- A head has at least one line end for each of its fields.
use Rattle.std.proofs.Common.{◌≡◌, ℕ, ◌+◌, ◌≤◌, ◌==◌, ◌&&◌, Bool, true, false, cond, not, List, [], ◌∷◌, ◌++◌, length, map, take, drop, inl, inr, refl, sym, ap, subst, ◌∙◌, arith, append-nil}
use Rattle.std.specs.Prelude.{⊤, Err, nat_lt, sum_by, Result}
use Rattle.std.specs.List.{flat_map}
use Rattle.std.proofs.lemmas.Bool.Decides.{nat_tests}
use Rattle.std.proofs.Math.Seq.{drop-length}
use Rattle.std.proofs.lemmas.List.Concat.{flat_map-cons}
use Rattle.std.proofs.lemmas.List.Sums.{sum_by-append, sum_by-cons}
use Rattle.httparse.specs.Grammar.{Field, LineEnd, crlf, lf, ReadsRequest, RequestHead, print_blank, print_end, print_field, print_request, print_section, print_version}
use Rattle.httparse.specs.Ascii.{space}
use Rattle.httparse.specs.declared.spans.HeaderSpan.{HeaderSpan}
use Rattle.httparse.specs.declared.spans.RequestSpans.{RequestSpans}
use Rattle.httparse.specs.Spans.{IsRequestAt, header_bytes, span_bytes}
use Rattle.http_messages.specs.declared.fixed.FixedReply.TheVariants.{Malformed}
use Rattle.http_messages.specs.declared.flaw.Flaw.TheVariants as flaw
use Rattle.http_messages.specs.declared.fixed.FixedReply.{FixedReply}
use Rattle.http_messages.specs.Heads.{HeadParts, IsJudged, parts_of, bare_lf_after, body_size, sized, has_bare_lf, pairs, pairs_after}

abbrev is_lf : ℕ → Bool
is_lf b = b == 10

pub not_both : (b : Bool) → b ≡ true → b ≡ false → ⊥
not_both b is_true is_false = subst (λ c. cond c ⊤ ⊥) (sym is_true ∙ is_false) tt

abbrev lfs : List ℕ → ℕ
lfs bytes = sum_by (λ b. cond (is_lf b) 1 0) bytes

pairs_are_lfs : (cr : Bool) (bytes : List ℕ) → bare_lf_after cr bytes ≡ false → pairs_after cr bytes ≡ lfs bytes
pairs_are_lfs cr [] h = refl
pairs_are_lfs cr (b ∷ bytes) h =
    elim (b == 10) as (λ t. cond (t && not cr) true (bare_lf_after (b == 13) bytes) ≡ false → cond (t && cr) 1 0 + pairs_after (b == 13) bytes ≡ cond t 1 0 + lfs bytes) [
      | true ↦ elim cr as (λ k. cond (not k) true (bare_lf_after (b == 13) bytes) ≡ false → cond k 1 0 + pairs_after (b == 13) bytes ≡ 1 + lfs bytes) [
        | true ↦ λ rest. ap (λ n. 1 + n) (pairs_are_lfs (b == 13) bytes rest)
        | false ↦ λ no. absurd (not_both true refl no)
      ]
      | false ↦ λ rest. ap (λ n. 0 + n) (pairs_are_lfs (b == 13) bytes rest)
    ] h
    ∙ sym (sum_by-cons (λ c. cond (is_lf c) 1 0) b bytes)

end_has_lf : (e : LineEnd) → 1 ≤ lfs (print_end e)
end_has_lf crlf = omega arith
end_has_lf lf = omega arith

field_has_lf : (f : Field) → 1 ≤ lfs (print_field f)
field_has_lf f = omega (arith, sum_by-append (λ b. cond (is_lf b) 1 0) (f.name ++ 58 ∷ f.raw) (print_end f.end), end_has_lf f.end)

fields_have_lfs : (fields : List Field) → length fields ≤ lfs (flat_map print_field fields)
fields_have_lfs [] = omega arith
fields_have_lfs (f ∷ fields) = omega (
  arith,
  ap lfs (flat_map-cons print_field f fields),
  sum_by-append (λ b. cond (is_lf b) 1 0) (print_field f) (flat_map print_field fields),
  field_has_lf f,
  fields_have_lfs fields,
)

-- the part of a head before its fields
abbrev before_fields : RequestHead → List ℕ
before_fields h = print_blank h.blank ++ h.method ++ space ∷ h.target ++ space ∷ print_version h.minor ++ print_end h.line_end

few_fields : (head : List ℕ) (h : RequestHead) → ReadsRequest head h [] → length h.fields ≤ lfs head
unfolding print_request
few_fields head h reads = omega (
  arith,
  ap lfs (reads.1 ∙ append-nil (print_request h)),
  sum_by-append (λ b. cond (is_lf b) 1 0) (before_fields h) (print_section h.fields h.last),
  sum_by-append (λ b. cond (is_lf b) 1 0) (flat_map print_field h.fields) (print_end h.last),
  fields_have_lfs h.fields,
)

few_pairs : (head : List ℕ) → has_bare_lf head ≡ false → nat_lt 34 (pairs head) ≡ false → lfs head ≤ 34
few_pairs head whole few = let same = pairs_are_lfs false head whole in grind (arith, nat_tests, same, few)

pub judged_unread : (head : List ℕ) → has_bare_lf head ≡ false → nat_lt 34 (pairs head) ≡ false → ((h : RequestHead) → ReadsRequest head h [] → length h.fields ≤ 34 → ⊥) → IsJudged head (Err (Malformed flaw.Grammar))
judged_unread head whole few none = record {
  bare = λ bare. absurd (not_both (has_bare_lf head) bare whole);
  many = λ _ many. absurd (not_both (nat_lt 34 (pairs head)) many few);
  read = λ _ _ h reads. absurd (none h reads (omega (arith, few_fields head h reads, few_pairs head whole few)));
  either = λ _ _. inr ((λ h reads. none h reads (omega (arith, few_fields head h reads, few_pairs head whole few))), refl);
}

pub judged_read : (head : List ℕ) (result : Result HeadParts FixedReply) → has_bare_lf head ≡ false → nat_lt 34 (pairs head) ≡ false → (h : RequestHead) → ReadsRequest head h []
    → ((h : RequestHead) → ReadsRequest head h [] → length h.fields ≤ 34 → result ≡ parts_of h) → IsJudged head result
judged_read head result whole few h reads each = record {
  bare = λ bare. absurd (not_both (has_bare_lf head) bare whole);
  many = λ _ many. absurd (not_both (nat_lt 34 (pairs head)) many few);
  read = λ _ _ g same. each g same (omega (arith, few_fields head g same, few_pairs head whole few));
  either = λ _ _. inl (h, reads, each h reads (omega (arith, few_fields head h reads, few_pairs head whole few)));
}

-- the parts that were found in `head` are the parts of `h`
pub parts_are : (head : List ℕ) (headers : List HeaderSpan) (spans : RequestSpans) (h : RequestHead) (r : Result ℕ FixedReply) → IsRequestAt head headers spans h
    → r ≡ body_size (map (header_bytes head) (take spans.headers headers))
    → sized (span_bytes head spans.method) (span_bytes head spans.path) r ≡ parts_of h
parts_are head headers spans h r at is =
    (λ i. sized (at.method i) (at.path i) (is i)) ∙ ap (λ fields. sized h.method h.target (body_size fields)) at.fields

-- if a head is as long as the bytes, no bytes follow it
pub whole_head : (head : List ℕ) (h : RequestHead) (size : ℕ) → ReadsRequest head h (drop size head) → size ≡ length head → ReadsRequest head h []
whole_head head h size reads whole = subst (ReadsRequest head h) (ap (λ n. drop n head) whole ∙ drop-length head) reads

pub head_is_whole : (head : List ℕ) (h : RequestHead) (size : ℕ) → ReadsRequest head h [] → size ≡ length (print_request h) → size ≡ length head
head_is_whole head h size reads is = is ∙ sym (ap length (reads.1 ∙ append-nil (print_request h)))
