-- Lemmas about the received bytes of a connection, and the progress of its message.
use Rattle.std.proofs.Common.{◌≡◌, ◌∙◌, ℕ, ◌+◌, ◌-◌, ◌<◌, ◌≤◌, false, List, [], ◌++◌, length, take, drop, Option, Some, None, refl, sym, ap, subst, arith, append-nil, append_assoc}
use Rattle.std.specs.Prelude.{is_some}
use Rattle.std.specs.Io.KnownBytes.{Consumes}
use Rattle.std.proofs.KnownBytes.{Consumes-trans}
use Rattle.std.proofs.Math.Bool.{Bool-set}
use Rattle.std.proofs.Math.Logic.{∥∥₁_elim, ∥∥₁_map}
use Rattle.std.proofs.Math.Seq.{drop-append-add, take-append_seam}
use Rattle.std.proofs.lemmas.Bool.{true≢false}
use Rattle.std.proofs.lemmas.List.{drop-append-le, drop-drop, length-append, length-drop, length-take-le, take-append-drop, take_all, take_at}
use Rattle.http_messages.specs.declared.settled.Progress.{Progress}
use Rattle.http_messages.specs.declared.settled.Progress.TheVariants as progress
use Rattle.http_messages.specs.Heads.{head_end}
use Rattle.http_messages.specs.Messages.{Brings, IsHeardAs, Refused, end_of_head}
use Rattle.http_messages.specs.Progresses.{HasLength, IsProgress}
use Rattle.http_messages.proofs.SettledLemmas.{without_end}
use Rattle.loopback.specs.Arriving.{IsPiece}

pub nothing : (front : List ℕ) → front ≡ [] → ∥ IsProgress (front ++ []) progress.Head ∥₁
nothing front is = ∣ subst (λ bytes. IsProgress (bytes ++ []) progress.Head) (sym is) (let few : length {A = ℕ} [] < 8192 = omega arith in (without_end [] few refl, refl, few)) ∣₁

none_from : (o : Option ℕ) → is_some o ≡ false → o ≡ None
none_from None h = refl
none_from (Some x) h = absurd (true≢false h)

message_on : (bytes more : List ℕ) → IsProgress bytes progress.Message → IsProgress (bytes ++ more) progress.Message
message_on bytes more (m, is) = (m, λ k. subst (λ l. IsHeardAs l (Brings m)) (sym (append_assoc bytes more k)) (is (more ++ k)))

refused_on : (bytes more : List ℕ) → IsProgress bytes progress.Refused → IsProgress (bytes ++ more) progress.Refused
refused_on bytes more (why, is) = (why, λ k. subst (λ l. IsHeardAs l (Refused why)) (sym (append_assoc bytes more k)) (is (more ++ k)))

-- no head ends in bytes with the progress `Head`
pub searched : (bytes : List ℕ) (p : Progress) → length bytes ≤ 8192 → p ≡ progress.Head → ∥ IsProgress bytes p ∥₁ → head_end bytes ≡ None
searched bytes p few is told =
    let none : is_some (end_of_head bytes) ≡ false = ∥∥₁_elim (subst (λ p. ∥ IsProgress bytes p ∥₁) is told) (Bool-set _ _) (λ t. ap is_some t.1) in
    sym (ap head_end (take_all 8192 bytes few)) ∙ none_from (end_of_head bytes) none

pub front_told : (old rest more front : List ℕ) (from : ℕ) (p : Progress) → rest ≡ [] → front ≡ old ++ more → from ≡ length old → ∥ IsProgress (old ++ rest) p ∥₁ → ∥ IsProgress (take from front) p ∥₁
front_told old rest more front from p none grown size told =
    let same : take from front ≡ old ++ rest = ap (λ n. take n front) size ∙ ap (λ l. take (length old) l) grown ∙ take-append_seam old more ∙ sym (ap (λ l. old ++ l) none ∙ append-nil old) in
    subst (λ l. ∥ IsProgress l p ∥₁) (sym same) told

pub told_all : (front rest : List ℕ) (p : Progress) → rest ≡ [] → ∥ IsProgress front p ∥₁ → ∥ IsProgress (front ++ rest) p ∥₁
told_all front rest p none told = subst (λ l. ∥ IsProgress l p ∥₁) (sym (ap (λ l. front ++ l) none ∙ append-nil front)) told

-- more bytes of an incomplete body
pub body_told : (bytes more all : List ℕ) (p result : Progress) (total count : ℕ) → p ≡ progress.Body total → all ≡ bytes ++ more → count ≡ length all
    → ((xs ys : List ℕ) → HasLength xs total → length (xs ++ ys) ≡ count → IsProgress (xs ++ ys) result) → ∥ IsProgress bytes p ∥₁ → ∥ IsProgress all result ∥₁
body_told bytes more all p result total count is grown size each told =
    ∥∥₁_map (subst (λ p. ∥ IsProgress bytes p ∥₁) is told) (λ t. subst (λ l. IsProgress l result) (sym grown) (each bytes more t.1 (sym (size ∙ ap length grown))))

-- more bytes don't change a complete or refused message
pub message_told : (bytes more all : List ℕ) (p : Progress) → p ≡ progress.Message → all ≡ bytes ++ more → ∥ IsProgress bytes p ∥₁ → ∥ IsProgress all p ∥₁
message_told bytes more all p is grown told =
    subst (λ p. ∥ IsProgress all p ∥₁) (sym is)
    (∥∥₁_map (subst (λ p. ∥ IsProgress bytes p ∥₁) is told) (λ t. subst (λ l. IsProgress l progress.Message) (sym grown) (message_on bytes more t)))

pub refused_told : (bytes more all : List ℕ) (p : Progress) → p ≡ progress.Refused → all ≡ bytes ++ more → ∥ IsProgress bytes p ∥₁ → ∥ IsProgress all p ∥₁
refused_told bytes more all p is grown told =
    subst (λ p. ∥ IsProgress all p ∥₁) (sym is)
    (∥∥₁_map (subst (λ p. ∥ IsProgress bytes p ∥₁) is told) (λ t. subst (λ l. IsProgress l progress.Refused) (sym grown) (refused_on bytes more t)))

-- ---- the bytes that a reader brings

-- the reader brings the first `count` bytes of a piece
pub brought : (bytes piece rest front : List ℕ) (at count : ℕ) → drop at bytes ≡ piece ++ rest → count ≤ length piece → front ≡ take count piece → drop at bytes ≡ front ++ drop (at + count) bytes
brought bytes piece rest front at count is fits taken =
    let after : drop (at + count) bytes ≡ drop count piece ++ rest = sym (drop-drop count at bytes) ∙ ap (drop count) is ∙ drop-append-le count piece rest fits in
    is ∙ ap (λ l. l ++ rest) (sym (take-append-drop count piece)) ∙ append_assoc (take count piece) (drop count piece) rest ∙ ap (λ l. take count piece ++ l) (sym after) ∙ ap (λ l. l ++ drop (at + count) bytes) (sym taken)

pub in_front : (front rest : List ℕ) (at : ℕ) → at < length front → IsPiece (front ++ rest) at (drop at front)
in_front front rest at within = (rest, drop-append-le at front rest (omega (arith, within)), λ none. absurd (omega (arith, ap length none, length-drop at front, within)))

pub in_rest : (front rest : List ℕ) (at : ℕ) → length front ≤ at → IsPiece (front ++ rest) at (drop (at - length front) rest)
in_rest front rest at past =
    let sum : at ≡ length front + (at - length front) = omega (arith, past) in
    ([], ap (λ n. drop n (front ++ rest)) sum ∙ drop-append-add front rest (at - length front) ∙ sym (append-nil (drop (at - length front) rest)), λ none. refl)

pub in_tail : (front rest fs xs : List ℕ) (at : ℕ) → fs ≡ front → xs ≡ rest → length fs ≤ at → IsPiece (front ++ rest) at (take (length xs - (at - length fs)) (drop (at - length fs) xs))
in_tail front rest fs xs at same_front same_rest past =
    let few : length front ≤ at = omega (arith, ap length same_front, past) in
    let all : take (length xs - (at - length fs)) (drop (at - length fs) xs) ≡ drop (at - length fs) xs = take_all (length xs - (at - length fs)) (drop (at - length fs) xs) (omega (arith, length-drop (at - length fs) xs)) in
    let piece : take (length xs - (at - length fs)) (drop (at - length fs) xs) ≡ drop (at - length front) rest = all ∙ (λ i. drop (at - length (same_front i)) (same_rest i)) in
    subst (IsPiece (front ++ rest) at) (sym piece) (in_rest front rest at few)

-- the bytes that the reader brings are received bytes
pub fits_at : (bytes piece rest : List ℕ) (at count : ℕ) → at ≤ length bytes → drop at bytes ≡ piece ++ rest → count ≤ length piece → at + count ≤ length bytes
fits_at bytes piece rest at count within is fits = omega (arith, within, fits, ap length is, length-append piece rest, length-drop at bytes)

pub front_taken : (piece new after : List ℕ) (count : ℕ) → count ≤ length piece → new ≡ take count piece → take count (new ++ after) ≡ take count piece
front_taken piece new after count fits is = take_at new after count (ap length is ∙ length-take-le count piece fits) ∙ is

-- ---- one read after another

pub read_more : (a b c : Option (List ℕ)) (x y z : List ℕ) → ((more : List ℕ) × (y ≡ x ++ more) × Consumes a b more) → ((more : List ℕ) × (z ≡ y ++ more) × Consumes b c more) → (more : List ℕ) × (z ≡ x ++ more) × Consumes a c more
read_more a b c x y z (front, first, came) (more, next, comes) =
    (front ++ more, next ∙ ap (λ l. l ++ more) first ∙ append_assoc x front more, Consumes-trans a b c front more came comes)

pub dropped_more : (a b c : Option (List ℕ)) (x y z : ℕ) → ((more : List ℕ) × Consumes a b more × (length more + y ≡ x)) → ((more : List ℕ) × Consumes b c more × (length more + z ≡ y)) → (more : List ℕ) × Consumes a c more × (length more + z ≡ x)
dropped_more a b c x y z (front, came, first) (more, comes, next) =
    (front ++ more, Consumes-trans a b c front more came comes, omega (arith, length-append front more, first, next))
