-- Lemmas about the body of a message.
use Rattle.std.proofs.Common.{◌≡◌, ℕ, ◌+◌, ◌-◌, ◌<◌, ◌≤◌, List, [], ◌++◌, length, take, drop, Option, Some, None, refl, sym, ap, subst, ◌∙◌, arith, append-nil, length-take-le}
use Rattle.std.specs.Prelude.{Bool, true, false, IfOk, IfSome, Result, Ok, Err, min}
use Rattle.std.proofs.Math.Logic.{⊎_elim}
use Rattle.std.proofs.Math.Nat.{min-eq_left, min-eq_right, min-le_left, min-le_right}
use Rattle.std.proofs.Math.Seq.{take-append-add}
use Rattle.std.proofs.lemmas.Bool.{cases_lt}
use Rattle.std.specs.Bool.{OnFalse, OnTrue}
use Rattle.std.specs.Io.KnownBytes.{Consumes, IsAtEnd}
use borrow.Rule.Slice.PartMut.{put_mid, post_of}
use Rattle.std.proofs.lemmas.Bool.Decides.{nat_tests}
use Rattle.std.proofs.lemmas.List.{append_assoc, drop-append-le, drop-take, length-append, length-drop, nil_from_length, take-append-le, take-take, take_all, take_at}
use Rattle.http_messages.specs.declared.message.Reading.{Reading}
use Rattle.http_messages.specs.declared.message.Reading.TheVariants as reading
use Rattle.http_messages.specs.declared.fixed.FixedReply.{FixedReply}
use Rattle.http_messages.specs.declared.fixed.FixedReply.TheVariants.{HeadTooLarge}
use Rattle.http_messages.specs.Heads.{HeadParts, IsJudged, ends_head, head_end}
use Rattle.http_messages.specs.Messages.{Agrees, Brings, Broken, HasHead, Heard, IsBody, IsFilled, IsHeardAs, IsHeardBy, IsReading, IsReadingAfter, IsReadingBy, Refused, after_head, as_parts, end_of_head}
use Rattle.http_messages.proofs.AloneLemmas.{heard_as}
use Rattle.http_messages.proofs.EndLemmas.{least_alike, least_stays, size_kept}

pub refl_length : (xs : List ℕ) → length xs ≡ length xs
refl_length xs = refl

-- the bytes ended before `n` of them were read
pub ended : (before now : Option (List ℕ)) (buf : List ℕ) (at n : ℕ) → at ≤ length buf → at < n → Consumes before now (take at buf) → IsAtEnd now → (more : List ℕ) × Agrees before more × (length more < n)
ended None now buf at n within less came end = ([], tt, omega (arith, less))
ended (Some xs) None buf at n within less came end = absurd came
ended (Some xs) (Some ys) buf at n within less came end =
    let all : xs ≡ take at buf = came ∙ ap (λ (l : List ℕ). take at buf ++ l) end ∙ append-nil (take at buf) in
    let size : length xs ≡ at = ap length all ∙ length-take-le at buf within in
    (xs, refl, omega (arith, size, less))

-- if the bytes are known, they are the bytes read so far, followed by the remaining ones
given : (before after : Option (List ℕ)) (front more : List ℕ) → Consumes before after front → Agrees after more → Agrees before (front ++ more)
given None after front more came next = tt
given (Some all) None front more came next = absurd came
given (Some all) (Some rest) front more came next = came ∙ ap (λ (l : List ℕ). front ++ l) next

-- ---- the head

-- the meaning of the bytes, given the position after the head
by_end : (bytes : List ℕ) (o : Option ℕ) (heard : Heard) → end_of_head bytes ≡ o → IsHeardBy bytes o heard → IsHeardAs bytes heard
by_end bytes o heard is p = heard_as bytes heard (subst (λ (e : Option ℕ). IsHeardBy bytes e heard) (sym is) p)

-- further bytes don't change the end of a head that was found
pub end_stays : (front more : List ℕ) (end : ℕ) → length front ≤ 8192 → head_end front ≡ Some end → end_of_head (front ++ more) ≡ Some end
end_stays front more end few found =
    let n = 8192 - length front in
    let size : 8192 ≡ length front + n = omega (arith, few) in
    let t = take n more in
    let whole : take 8192 (front ++ more) ≡ front ++ t = ap (λ (m : ℕ). take m (front ++ more)) size ∙ take-append-add front more n in
    let same : take (length front) front ≡ take (length front) (front ++ t) = take_all (length front) front (omega arith) ∙ sym (take_at front t (length front) refl) in
    ap head_end whole
    ∙ least_stays (ends_head (front ++ t)) (length front) (length (front ++ t)) end (omega (arith, length-append front t)) (sym (least_alike front (front ++ t) (length front) same) ∙ found)

-- bytes in which no head ends don't start with a complete head
no_head : (is_cut : Bool) (bytes : List ℕ) → end_of_head bytes ≡ None → HasHead bytes → is_cut ≡ false
no_head is_cut bytes none has = let bad : None ≡ Some has.0 = sym none ∙ has.2 in cc

pub heard_broken : (is_cut : Bool) (before : Option (List ℕ)) → IfSome before (λ all. (length all < 8192) × (head_end all ≡ None))
    → (bytes : List ℕ) × Agrees before bytes × IsReading bytes is_cut reading.Broken
heard_broken is_cut None early = ([], tt, (by_end [] None Broken refl refl, no_head is_cut [] refl))
heard_broken is_cut (Some all) early =
    let same : take 8192 all ≡ all = take_all 8192 all (omega (arith, early.0)) in
    let none : end_of_head all ≡ None = ap head_end same ∙ early.1 in
    (all, refl, (by_end all None Broken none (grind (arith, nat_tests, early.0)), no_head is_cut all none))

pub heard_large : (before after : Option (List ℕ)) (buf : List ℕ) → length buf ≡ 8192 → Consumes before after buf → head_end buf ≡ None
    → (bytes : List ℕ) × Agrees before bytes × IsHeardAs bytes (Refused HeadTooLarge)
heard_large None after buf size came none =
    (buf, tt, by_end buf None (Refused HeadTooLarge) (ap head_end (take_all 8192 buf (omega (arith, size))) ∙ none) (grind (arith, nat_tests, size)))
heard_large (Some all) None buf size came none = absurd came
heard_large (Some all) (Some more) buf size came none =
    let front : take 8192 all ≡ buf = ap (take 8192) came ∙ take_at buf more 8192 size in
    let many : length all ≡ 8192 + length more = ap length came ∙ length-append buf more ∙ ap (λ (n : ℕ). n + length more) size in
    (all, refl, by_end all None (Refused HeadTooLarge) (ap head_end front ∙ none) (grind (arith, nat_tests, many)))

-- the result of reading the bytes after the head is the result of reading all bytes
pub read_after : (is_cut : Bool) (bytes head rest : List ℕ) (end : ℕ) (r : Reading) → end_of_head bytes ≡ Some end → take end bytes ≡ head → drop end bytes ≡ rest → IsReadingAfter head rest is_cut r → IsReading bytes is_cut r
read_after is_cut bytes head rest end (reading.Message m) is front back after =
    by_end bytes (Some end) (Brings (as_parts m)) is (after.0, subst (λ (h : List ℕ). IsJudged h after.0) (sym front) after.1, sym after.2 ∙ ap (after_head after.0) (sym back))
read_after is_cut bytes head rest end reading.Broken is front back after =
    (by_end bytes (Some end) Broken is (after.0, subst (λ (h : List ℕ). IsJudged h after.0) (sym front) after.1, sym after.2.0 ∙ ap (after_head after.0) (sym back)), λ _. after.2.1)
read_after is_cut bytes head rest end (reading.Refused why) is front back after =
    by_end bytes (Some end) (Refused why) is (after.0, subst (λ (h : List ℕ). IsJudged h after.0) (sym front) after.1, sym after.2 ∙ ap (after_head after.0) (sym back))
read_after is_cut bytes head rest end reading.Memory is front back after =
    let passes : IsJudged (take end bytes) after.0 = subst (λ (h : List ℕ). IsJudged h after.0) (sym front) after.1 in
    let p = after.2.0 in
    let passed : IsJudged (take end bytes) (Ok p) = subst (IsJudged (take end bytes)) after.2.1 passes in
    let heard : Heard = after_head (Ok p) (drop end bytes) in
    ((end, p, is, passed), (heard, by_end bytes (Some end) heard is (Ok p, passed, refl)))

-- the same result, if the head and the first bytes of the body are in `buf`, and the rest of the
-- body is read later
pub heard_head : (was_cut is_cut : Bool) (before after : Option (List ℕ)) (buf : List ℕ) (end filled : ℕ) (r : Reading) → is_cut ≡ was_cut → length buf ≡ 8192 → end ≤ filled → filled ≤ 8192 → Consumes before after (take filled buf)
    → head_end (take filled buf) ≡ Some end → ((more : List ℕ) × Agrees after more × IsReadingAfter (take end buf) (take (filled - end) (drop end buf) ++ more) is_cut r)
    → (bytes : List ℕ) × Agrees before bytes × IsReading bytes was_cut r
heard_head was_cut is_cut before after buf end filled r kept size within few came found read =
    let front = take filled buf in
    let bytes = front ++ read.0 in
    let long : length front ≡ filled = length-take-le filled buf (omega (arith, few, size)) in
    let head : take end bytes ≡ take end buf = take-append-le end front read.0 (omega (arith, long, within)) ∙ take-take end filled buf within in
    let all : filled ≡ end + (filled - end) = omega (arith, within) in
    let begun : drop end front ≡ take (filled - end) (drop end buf) = ap (λ (n : ℕ). drop end (take n buf)) all ∙ drop-take end (filled - end) buf in
    let back : drop end bytes ≡ take (filled - end) (drop end buf) ++ read.0 = drop-append-le end front read.0 (omega (arith, long, within)) ∙ ap (λ (l : List ℕ). l ++ read.0) begun in
    let is : IsReading bytes is_cut r = read_after is_cut bytes (take end buf) (take (filled - end) (drop end buf) ++ read.0) end r (end_stays front read.0 end (omega (arith, long, few)) found) head back read.2 in
    (bytes, given before after front read.0 came read.1, subst (λ (b : Bool). IsReading bytes b r) kept is)

-- ---- the body

-- the body consists of the bytes that were read with the head and the piece that was read later
whole_is : (size here : ℕ) (all piece rest : List ℕ) → here ≡ min size (length all) → length piece ≡ size - length (take here all) → take here all ++ piece ≡ take size (all ++ (piece ++ rest))
whole_is size here all piece rest is fits = ⊎_elim
    (λ (few : length all < size).
    let all_here : here ≡ length all = is ∙ min-eq_right (omega (arith, few)) in
    let begun : take here all ≡ all = ap (λ (n : ℕ). take n all) all_here ∙ take_all (length all) all (omega arith) in
    let count : length piece ≡ size - length all = fits ∙ ap (λ (xs : List ℕ). size - length xs) begun in
    ap (λ (xs : List ℕ). xs ++ piece) begun ∙ sym (take_at (all ++ piece) rest size (length-append all piece ∙ omega (arith, count, few))) ∙ ap (take size) (append_assoc all piece rest))
    (λ (many : size ≤ length all).
    let begun : take here all ≡ take size all = ap (λ (n : ℕ). take n all) (is ∙ min-eq_left many) in
    let count : length piece ≡ 0 = fits ∙ ap (λ (xs : List ℕ). size - length xs) begun ∙ omega (arith, length-take-le size all many) in
    ap (λ (xs : List ℕ). xs ++ piece) begun ∙ ap (λ (xs : List ℕ). take size all ++ xs) (nil_from_length piece count) ∙ append-nil (take size all) ∙ sym (take-append-le size all (piece ++ rest) many))
    (cases_lt (length all) size)

-- a piece that fills the rest of the body
filled_end : (n size : ℕ) (body begun piece : List ℕ) → length body ≡ size → take n body ≡ begun → put_mid n (size - n) body piece ≡ begun ++ piece
filled_end n size body begun piece is front =
    let none : post_of n (size - n) body ≡ [] = nil_from_length (post_of n (size - n) body) (omega (arith, length-drop (size - n) (drop n body), length-drop n body, is)) in
    ap (λ (xs : List ℕ). xs ++ (piece ++ post_of n (size - n) body)) front ∙ ap (λ (xs : List ℕ). begun ++ (piece ++ xs)) none ∙ ap (λ (xs : List ℕ). begun ++ xs) (append-nil piece)

-- the bytes are the piece that was read, followed by the remaining bytes
rest_of : (before after : Option (List ℕ)) (piece : List ℕ) → Consumes before after piece → (rest : List ℕ) × Agrees before (piece ++ rest)
rest_of None after piece came = ([], tt)
rest_of (Some all) None piece came = absurd came
rest_of (Some all) (Some rest) piece came = (rest, came)

-- the number of bytes of the body that were read with the head
here_few : (size here : ℕ) (all : List ℕ) → here ≡ min size (length all) → length (take here all) ≡ here
here_few size here all is = length-take-le here all (omega (arith, is, min-le_right size (length all)))

-- the body is complete, or the bytes ended too early
pub body_filled : (before after : Option (List ℕ)) (size here : ℕ) (all piece body : List ℕ) (whole : Bool) → here ≡ min size (length all) → length body ≡ size → take (length (take here all)) body ≡ take here all
    → length piece ≡ size - length (take here all) → OnTrue whole (Consumes before after piece) → OnFalse whole ((more : List ℕ) × Agrees before more × (length more < length piece))
    → (more : List ℕ) × Agrees before more × IsFilled (put_mid (length (take here all)) (size - length (take here all)) body piece) (all ++ more) whole
body_filled before after size here all piece body true is fits front count came early =
    let begun = take here all in
    let rest = rest_of before after piece came in
    let more = piece ++ rest.0 in
    let filled = put_mid (length begun) (size - length begun) body piece in
    let small : length begun ≤ size = omega (arith, here_few size here all is, is, min-le_left size (length all)) in
    let long : length filled ≡ size = size_kept (length begun) size body piece fits small count in
    let value : filled ≡ take size (all ++ more) = filled_end (length begun) size body begun piece fits front ∙ whole_is size here all piece rest.0 is count in
    let few : size ≤ length (all ++ more) = omega (arith, length-append all more, length-append piece rest.0, count, here_few size here all is, is, min-le_right size (length all)) in
    (more, rest.1, (omega (arith, long, few), value ∙ ap (λ (n : ℕ). take n (all ++ more)) (sym long)))
body_filled before after size here all piece body false is fits front count came early =
    let begun = take here all in
    let more = early.0 in
    let small : length begun ≤ size = omega (arith, here_few size here all is, is, min-le_left size (length all)) in
    let long : length (put_mid (length begun) (size - length begun) body piece) ≡ size = size_kept (length begun) size body piece fits small count in
    let lacks : length (all ++ more) < size = ⊎_elim
    (λ (few : length all < size).
    let all_here : here ≡ length all = is ∙ min-eq_right (omega (arith, few)) in
    omega (arith, length-append all more, early.2, count, here_few size here all is, all_here))
    (λ (many : size ≤ length all).
    let no_more : here ≡ size = is ∙ min-eq_left many in
    absurd (omega (arith, early.2, count, here_few size here all is, no_more)))
    (cases_lt (length all) size) in
    (more, early.1, omega (arith, long, lacks))

-- ---- the result of reading after a head

pub some_bytes : (known : Option (List ℕ)) → (more : List ℕ) × Agrees known more
some_bytes None = ([], tt)
some_bytes (Some all) = (all, refl)

pub rest_refused : (is_cut : Bool) (known : Option (List ℕ)) (head begun : List ℕ) (judged : Result HeadParts FixedReply) (why : FixedReply) → IsJudged head judged → judged ≡ Err why
    → (more : List ℕ) × Agrees known more × IsReadingAfter head (begun ++ more) is_cut (reading.Refused why)
rest_refused is_cut known head begun judged why is refused =
    let some = some_bytes known in
    (some.0, some.1, (Err why, subst (IsJudged head) refused is, refl))

pub rest_read : {E : Type 0} (was_cut is_cut : Bool) (known : Option (List ℕ)) (head begun : List ℕ) (size : ℕ) (judged : Result HeadParts FixedReply) (read : Result (Option (List ℕ)) E) (body : Option (List ℕ)) (out : Reading)
    → is_cut ≡ was_cut → IsJudged head judged → read ≡ Ok body → ((more : List ℕ) × Agrees known more × IfOk read (IsBody size (begun ++ more))) → ((rest : List ℕ) → IsBody size rest body → IsReadingBy judged rest is_cut out)
    → (more : List ℕ) × Agrees known more × IsReadingAfter head (begun ++ more) was_cut out
rest_read {E = E} was_cut is_cut known head begun size judged read body out kept is here begins next =
    let more = begins.0 in
    let by : IsReadingBy judged (begun ++ more) is_cut out = next (begun ++ more) (subst (λ (r : Result (Option (List ℕ)) E). IfOk r (IsBody size (begun ++ more))) here begins.2) in
    (more, begins.1, (judged, is, subst (λ (b : Bool). IsReadingBy judged (begun ++ more) b out) kept by))
