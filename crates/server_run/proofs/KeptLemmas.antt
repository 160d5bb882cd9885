-- Lemmas about the first bytes that are kept while a connection continues.
use Rattle.std.proofs.Common.{◌≡◌, ℕ, zero, suc, ◌⊎◌, inl, inr, List, [], ◌∷◌, ◌++◌, take, drop, Option, Some, None, refl, ap, sym, subst, ◌∙◌, append_assoc}
use Rattle.std.specs.Prelude.{IsTrue, is_some}
use Rattle.std.specs.Io.KnownBytes.{Appends, Consumes, Keeps}
use Rattle.std.proofs.KnownBytes.{Appends-kept, Appends-trans, Consumes-trans}
use Rattle.std.proofs.Props.{props}
use Rattle.std.proofs.lemmas.Bool.{false≢true}
use Rattle.std.proofs.lemmas.List.{append_cancel_left, take-append-drop}
use Rattle.http_messages.specs.Messages.{Agrees}
use Rattle.server.specs.declared.served.End.{End}
use Rattle.server.specs.declared.served.End.TheVariants.{Answered, Broken, WriteFailed}
use Rattle.server_run.specs.Bytes.{IsBeginning, IsReplyOf, KeepsRead, KeepsReply, KeepsWritten}

-- the first bytes of a prefix and the text after it are the first bytes of the whole text
front_more : (most : ℕ) (xs ys : List ℕ) → take most (take most xs ++ ys) ≡ take most (xs ++ ys)
front_more zero xs ys = refl
front_more (suc most) [] ys = refl
front_more (suc most) (x ∷ xs) ys = ap (λ l. x ∷ l) (front_more most xs ys)

-- more bytes are read
pub read_more : (before now after : Option (List ℕ)) (first bytes new : List ℕ) → Consumes now after bytes → new ≡ take 256 (first ++ bytes)
    → KeepsRead before now first → KeepsRead before after new
read_more before now after first bytes new read is (all, gone, front) = (
  all ++ bytes,
  Consumes-trans before now after all bytes gone read,
  is ∙ ap (λ l. take 256 (l ++ bytes)) front ∙ front_more 256 all bytes,
)

-- the bytes that are passed to the writer after those that it took
offers : (taken bytes buf new : List ℕ) → taken ≡ take 512 bytes → new ≡ take 512 (take 512 taken ++ buf) → new ≡ take 512 (bytes ++ buf)
offers taken bytes buf new front is = is ∙ front_more 512 taken buf ∙ ap (λ l. take 512 (l ++ buf)) front ∙ front_more 512 bytes buf

-- the first bytes taken and then passed to the writer, as the code computes them
pub offered-is : (none slice taken first buf new : List ℕ) → none ≡ [] → slice ≡ taken → first ≡ take 512 (none ++ slice) → new ≡ take 512 (first ++ buf)
    → new ≡ take 512 (take 512 taken ++ buf)
offered-is none slice taken first buf new empty same front is = rw (is, front, empty, same) refl

-- the same, without the limit of the bytes taken
pub offered-now : (none slice taken first buf new : List ℕ) → none ≡ [] → slice ≡ taken → first ≡ take 512 (none ++ slice) → new ≡ take 512 (first ++ buf)
    → new ≡ take 512 (taken ++ buf)
offered-now none slice taken first buf new empty same front is = offered-is none slice taken first buf new empty same front is ∙ front_more 512 taken buf

-- the writer takes none of the bytes
pub offered_none : (before now after : Option (List ℕ)) (taken offered buf new : List ℕ) → Keeps now after → new ≡ take 512 (take 512 taken ++ buf)
    → KeepsWritten before now taken offered → KeepsWritten before after taken new
offered_none before now after taken offered buf new same is (bytes, rest, all, front, last) =
    (bytes, buf, Appends-kept before now after bytes all same, front, offers taken bytes buf new front is)

-- the writer takes the first of the bytes
pub offered_some : (before now after : Option (List ℕ)) (taken offered buf new more : List ℕ) (count : ℕ) → Appends now after (take count buf)
    → new ≡ take 512 (take 512 taken ++ buf) → more ≡ take 512 (taken ++ take count buf) → KeepsWritten before now taken offered → KeepsWritten before after more new
offered_some before now after taken offered buf new more count grows is took (bytes, rest, all, front, last) =
    let some = take count buf in (
      bytes ++ some,
      drop count buf,
      Appends-trans before now after bytes some all grows,
      took ∙ ap (λ l. take 512 (l ++ some)) front ∙ front_more 512 bytes some,
      offers taken bytes buf new front is ∙ ap (take 512) (ap (λ l. bytes ++ l) (sym (take-append-drop count buf)) ∙ sym (append_assoc bytes some (drop count buf))),
    )

-- a flush changes nothing
pub flushed : (before now after : Option (List ℕ)) (taken offered : List ℕ) → Keeps now after → KeepsWritten before now taken offered → KeepsWritten before after taken offered
flushed before now after taken offered same (bytes, rest, all, front, last) = (bytes, rest, Appends-kept before now after bytes all same, front, last)

-- ---- at the end

front-begins : (most : ℕ) (xs ys : List ℕ) → IsBeginning (take most xs) (xs ++ ys)
front-begins zero xs ys = refl
front-begins (suc most) [] ys = refl
front-begins (suc most) (x ∷ xs) ys = ap (λ l. x ∷ l) (front-begins most xs ys)

front-begins_front : (most : ℕ) (xs ys : List ℕ) → IsBeginning (take most xs) (take most (xs ++ ys))
front-begins_front zero xs ys = refl
front-begins_front (suc most) [] ys = refl
front-begins_front (suc most) (x ∷ xs) ys = ap (λ l. x ∷ l) (front-begins_front most xs ys)

-- the writer took the whole response
pub reply_taken : (before after : Option (List ℕ)) (taken offered : List ℕ) (end : End) → (end ≡ Answered) ⊎ (end ≡ Broken)
    → KeepsWritten before after taken offered → KeepsReply end before after taken
reply_taken before after taken offered end (inl is) (bytes, rest, all, front, last) = (bytes, all, subst (λ (e : End). IsReplyOf e taken bytes) (sym is) front)
reply_taken before after taken offered end (inr is) (bytes, rest, all, front, last) = (bytes, all, subst (λ (e : End). IsReplyOf e taken bytes) (sym is) front)

-- the writer failed
pub reply_offered : (before after : Option (List ℕ)) (taken offered : List ℕ) (end : End) → end ≡ WriteFailed
    → KeepsWritten before after taken offered → KeepsReply end before after offered
reply_offered before after taken offered end is (bytes, rest, all, front, last) =
    (bytes, all, subst (λ (e : End). IsReplyOf e offered bytes) (sym is) (subst (IsBeginning (take 512 bytes)) (sym last) (front-begins_front 512 bytes rest)))

-- the bytes kept of an input are its first bytes
pub read-begins : (before after : Option (List ℕ)) (request input : List ℕ) → Agrees before input → KeepsRead before after request
    → IsTrue (is_some before) → IsBeginning request input
read-begins None after request input all kept known = absurd (false≢true known)
read-begins (Some xs) None request input all (bytes, gone, front) known = absurd gone
read-begins (Some xs) (Some ys) request input all (bytes, gone, front) known =
    subst (λ (l : List ℕ). IsBeginning l input) (sym front) (subst (IsBeginning (take 256 bytes)) (sym gone ∙ all) (front-begins 256 bytes ys))

-- the bytes kept of a response are its first bytes
pub reply-is : (before after : Option (List ℕ)) (end : End) (reply written : List ℕ) → Appends before after written → KeepsReply end before after reply
    → IsTrue (is_some before) → IsReplyOf end reply written
reply-is None after end reply written all kept known = absurd (false≢true known)
reply-is (Some xs) None end reply written all kept known = absurd all
reply-is (Some xs) (Some ys) end reply written all (bytes, grown, is) known =
    let same : bytes ≡ written = append_cancel_left xs bytes written (sym grown ∙ all) in
    subst (λ (l : List ℕ). IsReplyOf end reply l) same is

-- each of these predicates has at most one proof
pub IsBeginning-prop : (first text : List ℕ) → IsProp (IsBeginning first text)
IsBeginning-prop first text = hlevel props

pub IsReplyOf-prop : (end : End) (reply written : List ℕ) → IsProp (IsReplyOf end reply written)
IsReplyOf-prop Answered reply written = hlevel props
IsReplyOf-prop Broken reply written = hlevel props
IsReplyOf-prop WriteFailed reply written = hlevel props
