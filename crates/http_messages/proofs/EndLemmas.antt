-- Lemmas about the end of a head.
use Rattle.std.proofs.Common.{◌≡◌, ℕ, zero, suc, ◌+◌, ◌-◌, ◌<◌, ◌≤◌, Bool, true, cond, List, ◌++◌, length, take, drop, Option, Some, None, codes, sym, ap, subst, ◌∙◌, arith}
use Rattle.std.specs.Prelude.{IfSome, nat_eq}
use Rattle.std.specs.List.{ends_with}
use Rattle.std.specs.Io.KnownBytes.{Consumes, IsAtEnd}
use Rattle.std.proofs.Common.{append-nil, length-take-le}
use Rattle.std.proofs.Math.Seq.{take-append-add}
use Rattle.std.proofs.lemmas.List.{length-append, length-drop, take-append-le, take-take}
use borrow.Rule.Slice.PartMut.{put_mid, post_of}
use Rattle.std.specs.Option.{option_or}
use Rattle.http_messages.specs.Heads.{ends_head, head_end, least}

suc_is : (n : ℕ) → suc n ≡ n + 1
suc_is n = omega arith

pub least_more : (p : ℕ → Bool) (n : ℕ) (b : Bool) → least p n ≡ None → p (n + 1) ≡ b → least p (n + 1) ≡ cond b (Some (n + 1)) None
least_more p n b none is =
    subst (λ m. p m ≡ b → least p m ≡ cond b (Some m) None) (suc_is n)
    (λ here. ap (λ o. option_or o (cond (p (suc n)) (Some (suc n)) None)) none ∙ ap (λ c. cond c (Some (suc n)) None) here) is

least_on : (p : ℕ → Bool) (n d m : ℕ) → least p n ≡ Some m → least p (n + d) ≡ Some m
least_on p n zero m found = let same : n + zero ≡ n = omega arith in ap (least p) same ∙ found
least_on p n (suc d) m found =
    let same : n + suc d ≡ suc (n + d) = omega arith in
    ap (least p) same ∙ ap (λ o. option_or o (cond (p (suc (n + d))) (Some (suc (n + d))) None)) (least_on p n d m found)

pub least_stays : (p : ℕ → Bool) (n k m : ℕ) → n ≤ k → least p n ≡ Some m → least p k ≡ Some m
least_stays p n k m within found = let same : n + (k - n) ≡ k = omega arith in ap (least p) (sym same) ∙ least_on p n (k - n) m found

pub found_at : (bytes : List ℕ) (at : ℕ) → at + 1 ≤ length bytes → least (ends_head bytes) at ≡ None → ends_head bytes (at + 1) ≡ true → head_end bytes ≡ Some (at + 1)
found_at bytes at within before here = least_stays (ends_head bytes) (at + 1) (length bytes) (at + 1) within (least_more (ends_head bytes) at true before here)

-- ---- bytes that arrive in pieces

ends_alike : (xs ys : List ℕ) (n : ℕ) → take n xs ≡ take n ys → ends_head xs n ≡ ends_head ys n
ends_alike xs ys n same = ap (λ front. ends_with nat_eq front (codes "\r\n\r\n")) same

less_alike : (xs ys : List ℕ) (n : ℕ) → take (suc n) xs ≡ take (suc n) ys → take n xs ≡ take n ys
less_alike xs ys n same =
    let fewer : n ≤ suc n = omega arith in
    sym (take-take n (suc n) xs fewer) ∙ ap (take n) same ∙ take-take n (suc n) ys fewer

-- the end of a head within the first `n` bytes depends only on these bytes
pub least_alike : (xs ys : List ℕ) (n : ℕ) → take n xs ≡ take n ys → least (ends_head xs) n ≡ least (ends_head ys) n
least_alike xs ys zero same = ap (λ b. cond b (Some zero) None) (ends_alike xs ys zero same)
least_alike xs ys (suc n) same =
    (λ i. option_or (least_alike xs ys n (less_alike xs ys n same) i) (cond (ends_alike xs ys (suc n) same i) (Some (suc n)) None))

-- the filled part of a buffer after one more piece was read into it
pub take_filled : (at n size : ℕ) (buf piece : List ℕ) → length buf ≡ size → at ≤ size → n ≤ length piece → take (at + n) (put_mid at (size - at) buf piece) ≡ take at buf ++ take n piece
take_filled at n size buf piece is within fits =
    let front = take at buf in
    let rest = post_of at (size - at) buf in
    let known : length front ≡ at = length-take-le at buf (omega (arith, is, within)) in
    ap (λ (m : ℕ). take (m + n) (front ++ (piece ++ rest))) (sym known) ∙ take-append-add front (piece ++ rest) n ∙ ap (λ (l : List ℕ). front ++ l) (take-append-le n piece rest fits)

pub front_kept : (at size : ℕ) (buf piece : List ℕ) → length buf ≡ size → at ≤ size → take at (put_mid at (size - at) buf piece) ≡ take at buf
front_kept at size buf piece is within =
    let none : at + 0 ≡ at = omega arith in
    ap (λ (m : ℕ). take m (put_mid at (size - at) buf piece)) (sym none) ∙ take_filled at 0 size buf piece is within (omega arith) ∙ append-nil (take at buf)

-- reading a piece into a buffer doesn't change the buffer's length
pub size_kept : (at size : ℕ) (buf piece : List ℕ) → length buf ≡ size → at ≤ size → length piece ≡ size - at → length (put_mid at (size - at) buf piece) ≡ size
size_kept at size buf piece is within fits = omega (
  arith,
  length-append (take at buf) (piece ++ post_of at (size - at) buf),
  length-append piece (post_of at (size - at) buf),
  length-take-le at buf (omega (arith, is, within)),
  length-drop (size - at) (drop at buf),
  length-drop at buf,
  is,
  within,
  fits,
)

pub none_before : (at n : ℕ) (buf grown : List ℕ) → take at grown ≡ take at buf → least (ends_head buf) at ≡ None → least (ends_head (take (at + n) grown)) at ≡ None
none_before at n buf grown same none = least_alike (take (at + n) grown) buf at (take-take at (at + n) grown (omega arith) ∙ same) ∙ none

pub none_so_far : (buf : List ℕ) (n : ℕ) → n ≤ length buf → head_end (take n buf) ≡ None → least (ends_head buf) n ≡ None
none_so_far buf n within none =
    sym (least_alike (take n buf) buf n (take-take n n buf (omega arith))) ∙ ap (least (ends_head (take n buf))) (sym (length-take-le n buf within)) ∙ none

pub none_at_all : (buf : List ℕ) (n : ℕ) → n ≤ length buf → length buf ≤ n → least (ends_head buf) n ≡ None → head_end buf ≡ None
none_at_all buf n within over none = let whole : length buf ≡ n = omega arith in ap (least (ends_head buf)) whole ∙ none

-- if the bytes ended, the filled part of the buffer has all of them, and no head ends in it
pub broken : (before after : Option (List ℕ)) (buf : List ℕ) (filled : ℕ) → filled ≤ length buf → filled < 8192 → Consumes before after (take filled buf) → IsAtEnd after
    → least (ends_head buf) filled ≡ None → IfSome before (λ all. (length all < 8192) × (head_end all ≡ None))
broken None after buf filled within few came end none = tt
broken (Some all) None buf filled within few came end none = absurd came
broken (Some all) (Some rest) buf filled within few came end none =
    let is : all ≡ take filled buf = came ∙ ap (λ (ys : List ℕ). take filled buf ++ ys) end ∙ append-nil (take filled buf) in
    let size : length (take filled buf) ≡ filled = length-take-le filled buf within in
    let ends : head_end (take filled buf) ≡ None = ap (least (ends_head (take filled buf))) size ∙ least_alike (take filled buf) buf filled (take-take filled filled buf (omega arith)) ∙ none in
    subst (λ (xs : List ℕ). (length xs < 8192) × (head_end xs ≡ None)) (sym is) (omega (arith, size, few), ends)
