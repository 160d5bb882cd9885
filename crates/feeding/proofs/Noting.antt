-- Event lines that are written one after another.
use Rattle.std.proofs.Common.{◌≡◌, ◌≢◌, ◌<◌, ◌+◌, ◌==◌, true, false, ℕ, Bool, Bor, List, [], ◌∷◌, ◌++◌, length, map, take, drop, get_or, append_assoc, min, Option, Some, None, Result, IfOk, refl, sym, ap, subst, ◌∙◌, append-nil, arith, inl, inr, ◌≤◌}
use Rattle.std.specs.Prelude.{◌↔◌, IsTrue, if◌then◌else◌, nat_lt, option_map, position, unwrap_or}
use Rattle.std.specs.List.{before_first, position_or_len}
use Rattle.std.proofs.lemmas.Bool.{cases_lt, cond_both, ltb-false, ne_eqb}
use Rattle.std.proofs.lemmas.Option.{same_Some}
use Rattle.std.proofs.lemmas.List.{get_or_default, length-take, take-take, take_all}
use Rattle.std.specs.Prelude.{Vec}
use Rattle.std.specs.Global.{Global}
use Rattle.std.proofs.KnownBytes.{Keeps-refl}
use Rattle.job_facts.specs.declared.reply.Reply.{Reply}
use Rattle.feeding.specs.declared.engine.Response.{Response}
use Rattle.feeding.specs.declared.feed.Rejected.{Rejected}
use Rattle.feeding.specs.declared.feed.Rejection.{Rejection}
use Rattle.event_lines.specs.declared.level.Level.{Level}
use Rattle.event_lines.specs.declared.level.Level.TheVariants.{Off, Usual, All}
use Rattle.event_lines.specs.declared.line.EventLine.{EventLine}
use Rattle.event_lines.specs.declared.log.EventLog.{EventLog}
use Rattle.event_lines.specs.Notes.{NotesAll}
use Rattle.event_lines.proofs.NotesLemmas.{both-all, lost-all, off-all}
use Rattle.event_lines.specs.Views.{text_of}
use Rattle.feeding.specs.Cards.{Card, card_of}
use Rattle.feeding.specs.Events.{IsNoted, lines_under, lines_with, rejection, without_numbers, again_line, again_lines, card_before, cards_in, exhausted_line, refusal_lines, refused_line, spoiled_line, used_line}
use Rattle.feeding.specs.Feeds.{Feed, by_reply, hears}
use Rattle.feeding.specs.Views.{IsRejected, came_in}
use Rattle.feeding.proofs.Draws.{next_line}

-- ---- event logs

-- An unchanged log satisfies `IsNoted` for any lines, because the empty text is a prefix of each
-- line.
pub lost : {E : Type 0} (contents : E → Option (List ℕ)) (old new : EventLog E) (texts : List (List ℕ)) → new ≡ old → IsNoted contents old new texts
lost contents old new texts same =
    subst (λ n. IsNoted contents old n texts) (sym same) (refl, lost-all old.level (contents old.writer) (contents old.writer) texts (Keeps-refl (contents old.writer)))

pub noted_then : {E : Type 0} (contents : E → Option (List ℕ)) (a b c : EventLog E) (xs ys : List (List ℕ)) → IsNoted contents a b xs → IsNoted contents b c ys → IsNoted contents a c (xs ++ ys)
noted_then contents a b c xs ys (same, first) (still, rest) = (
  still ∙ same,
  both-all a.level (contents a.writer) (contents b.writer) (contents c.writer) xs ys first (subst (λ l. NotesAll l (contents b.writer) (contents c.writer) ys) same rest),
)

-- At level `Off` nothing is written, so `IsNoted` doesn't depend on the lines.
pub noted_off : {E : Type 0} (contents : E → Option (List ℕ)) (old new : EventLog E) (xs ys : List (List ℕ)) → old.level ≡ Off → IsNoted contents old new xs → IsNoted contents old new ys
noted_off contents old new xs ys off (same, notes) =
    let a = contents old.writer in
    let b = contents new.writer in
    (same, lost-all old.level a b ys (off-all a b xs (subst (λ l. NotesAll l a b xs) off notes)))

-- `IsNoted` is true of the line `text`, even if an allocation failed while the line was built.
pub noted_line : {E F : Type 0} (contents : E → Option (List ℕ)) (old new : EventLog E) (made : Result EventLine F) (text : List ℕ) → IfOk made (λ l. text_of l ≡ text) → new.level ≡ old.level
    → ((t : List ℕ) → IfOk made (λ l. text_of l ≡ t) → NotesAll old.level (contents old.writer) (contents new.writer) (t ∷ [])) → IsNoted contents old new (text ∷ [])
noted_line contents old new made text is same noted = (same, noted text is)

-- If `IsNoted` is true of the first lines, it is true of all lines.
pub noted_front : {E : Type 0} (contents : E → Option (List ℕ)) (old new : EventLog E) (xs ys all : List (List ℕ)) → IsNoted contents old new xs → all ≡ xs ++ ys → IsNoted contents old new all
noted_front contents old new xs ys all noted is = subst (IsNoted contents old new) (sym is) (noted_then contents old new new xs ys noted (lost contents new new ys refl))

pub noted_kept : {E : Type 0} (contents : E → Option (List ℕ)) (a b c : EventLog E) (xs : List (List ℕ)) → IsNoted contents a b xs → IsNoted contents b c [] → IsNoted contents a c xs
noted_kept contents a b c xs first kept = subst (IsNoted contents a c) (append-nil xs) (noted_then contents a b c xs [] first kept)

-- ---- the lines of a reply

-- If the reply isn't a refusal, its only line states that the session was spoiled.
pub noted_spoiled : {E : Type 0} (contents : E → Option (List ℕ)) (old new : EventLog E) (serial number : ℕ) (found o : Option (ℕ × List ℕ)) → found ≡ None → found ≡ o
    → IsNoted contents old new (spoiled_line serial number ∷ []) → IsNoted contents old new (refusal_lines serial number o)
noted_spoiled contents old new serial number found o is same noted = subst (λ x. IsNoted contents old new (refusal_lines serial number x)) (sym is ∙ same) noted

-- A refusal has its own line. If its code is 72, the line of a used request number follows.
pub noted_refusal : {E : Type 0} (contents : E → Option (List ℕ)) (old new : EventLog E) (serial number code : ℕ) (name : List ℕ) (o : Option (ℕ × List ℕ)) (used : Bool) → Some (code, name) ≡ o → (code == 72) ≡ used
    → IsNoted contents old new (refused_line serial number code name ∷ (if used then used_line number ∷ [] else [])) → IsNoted contents old new (refusal_lines serial number o)
noted_refusal contents old new serial number code name o used same is noted =
    subst (λ x. IsNoted contents old new (refusal_lines serial number x)) same
    (subst (λ b. IsNoted contents old new (refused_line serial number code name ∷ (if b then used_line number ∷ [] else []))) (sym is) noted)

-- ---- the first line of a response

take_both : (m n : ℕ) (xs : List ℕ) → take (min n m) xs ≡ take m (take n xs)
take_both m n xs =
    elim (cases_lt m n) [
      | inl less ↦ ap (λ k. take k xs) (min_right m n less) ∙ sym (take-take m n xs (omega (arith, less)))
      | inr more ↦ ap (λ k. take k xs) (min_left m n more) ∙ sym (take_all m (take n xs) (omega (arith, more, length-take n xs)))
    ]
  where
    min_right : (m n : ℕ) → m < n → min n m ≡ m
    min_right m n less = omega arith

    min_left : (m n : ℕ) → n ≤ m → min n m ≡ n
    min_left m n more = omega arith

pub line_taken : (p : ℕ → Bool) (bytes : List ℕ) (o : Option ℕ) (most : ℕ) → o ≡ position p bytes → take (min (unwrap_or o (length bytes)) most) bytes ≡ take most (before_first p bytes)
line_taken p bytes o most is =
    let at = position_or_len p bytes in
    ap (λ x. take (min (unwrap_or x (length bytes)) most) bytes) is
    ∙ cond_both (nat_lt at (length bytes)) (Some at) None (λ x. take (min (unwrap_or x (length bytes)) most) bytes ≡ take most (take at bytes))
    (λ within. take_both most at bytes)
    (λ behind. take_both most (length bytes) bytes ∙ ap (take most) (take_all (length bytes) bytes (omega arith) ∙ sym (take_all at bytes (omega (arith, ltb-false at (length bytes) behind)))))

-- ---- the lines of cards that can't be inserted

abbrev pub exhausted_of : List (Bor (List ℕ)) → List (List ℕ)
exhausted_of ls = map (λ (c : Card). exhausted_line c.serial) (cards_in (map (λ (l : Bor (List ℕ)). l.now) ls))

one_exhausted : (o : Option Card) (cs : List Card) (serial : ℕ) → option_map (λ (c : Card). c.serial) o ≡ Some serial
    → map (λ (c : Card). exhausted_line c.serial) (card_before o cs) ≡ exhausted_line serial ∷ map (λ (c : Card). exhausted_line c.serial) cs
one_exhausted None cs serial is = cc
one_exhausted (Some c) cs serial is = ap (λ n. exhausted_line n ∷ map (λ (c : Card). exhausted_line c.serial) cs) (same_Some _ _ is)

pub exhausted_next : (ls : List (Bor (List ℕ))) (i : ℕ) (d : Bor (List ℕ)) (serial : ℕ) (done : List (List ℕ)) → i < length ls
    → option_map (λ (c : Card). c.serial) (card_of (get_or ls i d).now) ≡ Some serial → exhausted_of ls ≡ done ++ exhausted_of (drop i ls)
    → exhausted_of ls ≡ (done ++ exhausted_line serial ∷ []) ++ exhausted_of (drop (i + 1) ls)
exhausted_next ls i d serial done within card so_far =
    let l = get_or ls i d in
    let rest = exhausted_of (drop (i + 1) ls) in
    so_far
    ∙ ap (λ texts. done ++ texts)
    (ap (λ xs. map (λ (c : Card). exhausted_line c.serial) (cards_in xs)) (next_line ls i l within (get_or_default ls i d l within))
    ∙ one_exhausted (card_of l.now) (cards_in (map (λ (l : Bor (List ℕ)). l.now) (drop (i + 1) ls))) serial card)
    ∙ sym (append_assoc done (exhausted_line serial ∷ []) rest)

-- ---- a try that changed nothing

pub again_some : (number tries : ℕ) (came : Option (List ℕ)) → 0 < tries → again_line number tries came ∷ [] ≡ again_lines number tries came
again_some number tries came some = sym (ap (λ b. if b then [] else again_line number tries came ∷ []) (ne_eqb tries 0 (λ none. absurd (omega (arith, none, some)))))

-- ---- a try, whose received bytes are kept only if event lines are written

level_off : (level : Level) (on : Bool) → IsTrue on ↔ (level ≢ Off) → on ≡ false → level ≡ Off
level_off Off on is off = refl
level_off Usual on is off = let never : false ≡ true = sym off ∙ is.1 (λ (same : Usual ≡ Off). cc) in cc
level_off All on is off = let never : false ≡ true = sym off ∙ is.1 (λ (same : All ≡ Off). cc) in cc

pub noted_try : {E : Type 0} (contents : E → Option (List ℕ)) (old new : EventLog E) (serial number : ℕ) (on : Bool) (came came' : Option (List ℕ)) (reply : Option Reply) (how how' : Option Rejection) (cards cards' : List Card)
    (tries tries' : ℕ) → IsTrue on ↔ (old.level ≢ Off) → came' ≡ (if on then came else None) → how' ≡ how → cards' ≡ cards → tries' ≡ tries
    → IsNoted contents old new (lines_with serial number came' reply how' cards' tries') → IsNoted contents old new (lines_with serial number came reply how cards tries)
noted_try contents old new serial number true came came' reply how how' cards cards' tries tries' is kept one two three noted =
    subst (λ x. IsNoted contents old new (lines_with serial number came reply how cards x)) three
    (subst (λ x. IsNoted contents old new (lines_with serial number came reply how x tries')) two
    (subst (λ x. IsNoted contents old new (lines_with serial number came reply x cards' tries')) one (subst (λ x. IsNoted contents old new (lines_with serial number x reply how' cards' tries')) kept noted)))
noted_try contents old new serial number false came came' reply how how' cards cards' tries tries' is kept one two three noted =
    noted_off contents old new (lines_with serial number came' reply how' cards' tries') (lines_with serial number came reply how cards tries) (level_off old.level false is refl) noted

kept_bytes : (on : Bool) (o : Option (Vec ℕ Global)) → option_map (λ (v : Vec ℕ Global). v.items) (if on then o else None) ≡ (if on then option_map (λ (v : Vec ℕ Global). v.items) o else None)
kept_bytes true o = refl
kept_bytes false o = refl

-- The lines that were written after a try are the lines of this try (`lines_under`).
pub noted_hear : {E : Type 0} (contents : E → Option (List ℕ)) (old new : EventLog E) (f h : Feed) (number : ℕ) (r : Response) (on : Bool) (kept : Option (Vec ℕ Global)) (came : Option (List ℕ)) (reply : Option Reply)
    (out : Rejected) → IsTrue on ↔ (old.level ≢ Off) → kept ≡ (if on then r.came else None) → came ≡ option_map (λ (v : Vec ℕ Global). v.items) kept → reply ≡ r.reply → IsRejected f number r.reply out → h ≡ hears f r.reply
    → IsNoted contents old new (lines_with f.card.serial number came reply out.card (cards_in (map (λ (l : Bor (List ℕ)). l.now) out.lines.now)) h.tries) → IsNoted contents old new (lines_under f number (came_in r) r.reply)
noted_hear contents old new f h number r on kept came reply out is kept_is came_is reply_is bad went noted =
    let cards = cards_in (map (λ (l : Bor (List ℕ)). l.now) out.lines.now) in
    noted_try contents old new f.card.serial number on (came_in r) came r.reply (rejection f number r.reply) out.card (without_numbers (by_reply f number r.reply)) cards (hears f r.reply).tries h.tries is
    (came_is ∙ ap (option_map (λ (v : Vec ℕ Global). v.items)) kept_is ∙ kept_bytes on r.came) bad.0 bad.1 (ap (λ (x : Feed). x.tries) went)
    (subst (λ x. IsNoted contents old new (lines_with f.card.serial number came x out.card cards h.tries)) reply_is noted)
