-- Proves that a repeat gets the same reply until its number is released.
use Rattle.std.proofs.Common.{◌≡◌, ◌==◌, ◌&&◌, Bool, true, false, cond, List, [], ◌∷◌, ◌++◌, Some, None, refl, sym, ap, ◌∙◌, subst, inl, inr, eq-eqb, arith}
use Rattle.std.specs.Prelude.{bytes_eq}
use Rattle.std.proofs.lemmas.Bool.{and_parts, cases_Bool, cond-true, cond-false, eqb-true, false≢true}
use Rattle.std.proofs.lemmas.Bool.Decides.{nat_tests}
use Rattle.std.proofs.lemmas.Option.{none-some}
use Rattle.std.proofs.lemmas.Slice.Eq.{bytes_eq-Decides}
use Rattle.job_facts.specs.declared.reply.Reply.TheVariants.{NumberReleased}
use Rattle.job_facts.specs.Steps.{by_option}
use Rattle.job_facts.specs.Contents.{Contents, Entry, Mark, above, entry_of, is_above, mark_of}
use Rattle.arrivals.specs.Laws.{AreAbove, RepeatsGetTheirReply}
use Rattle.arrivals.specs.HttpReplies.{HttpReply, http_reply_of, reused}
use Rattle.arrivals.specs.Meaning.{Arrived, contents_after, entry_with, http_reply_by, http_reply_on, is_released, marks_with, reply_to}
use Rattle.arrivals.proofs.MeaningLemmas.{above_after, decided_by, marks_grow, same_contents}
use Rattle.arrivals.proofs.MeaningLists.{one_then, released_before}

-- the number of the arrival is released, or its entry has this reply
abbrev pub IsKeptFor : Contents → Arrived → HttpReply → Type 0
IsKeptFor c a http_reply = is_released c.marks a ≡ false → (e : Entry) × (entry_of c.kept a.client a.number ≡ Some e) × (http_reply_by a.ask e ≡ http_reply)

-- an entry whose number isn't released is kept
entry_above : (marks : List Mark) (es : List Entry) (a : Arrived) (e : Entry) → is_released marks a ≡ false → entry_of es a.client a.number ≡ Some e → entry_of (above marks es) a.client a.number ≡ Some e
entry_above marks [] a e live found = absurd (none-some e found)
entry_above marks (d ∷ es) a e live found =
    let p : Entry → Bool = λ x. bytes_eq x.client a.client && (x.number == a.number) in
    elim (cases_Bool (p d)) [
      | inl hit ↦
          let parts = and_parts (bytes_eq d.client a.client) (d.number == a.number) hit in
          let client : d.client ≡ a.client = (bytes_eq-Decides d.client a.client).0 parts.0 in
          let number : d.number ≡ a.number = eqb-true d.number a.number parts.1 in
          let mark : mark_of marks d.client ≡ mark_of marks a.client = ap (mark_of marks) client in
          let kept : is_above marks d ≡ true = grind (arith, nat_tests, live, number, mark) in
          ap (λ b. entry_of (cond b (d ∷ above marks es) (above marks es)) a.client a.number) kept
          ∙ ap (λ b. cond b (Some d) (entry_of (above marks es) a.client a.number)) hit ∙ sym (ap (λ b. cond b (Some d) (entry_of es a.client a.number)) hit) ∙ found
      | inr miss ↦
          let rest = entry_above marks es a e live (sym (cond-false (p d) (Some d) (entry_of es a.client a.number) miss) ∙ found) in
          elim (cases_Bool (is_above marks d)) [
            | inl kept ↦ ap (λ b. entry_of (cond b (d ∷ above marks es) (above marks es)) a.client a.number) kept ∙ ap (λ b. cond b (Some d) (entry_of (above marks es) a.client a.number)) miss ∙ rest
            | inr gone ↦ ap (λ b. entry_of (cond b (d ∷ above marks es) (above marks es)) a.client a.number) gone ∙ rest
          ]
    ]

found_more : (es ds : List Entry) (a : Arrived) (e : Entry) → entry_of es a.client a.number ≡ Some e → entry_of (es ++ ds) a.client a.number ≡ Some e
found_more [] ds a e found = absurd (none-some e found)
found_more (d ∷ es) ds a e found =
    let p : Bool = bytes_eq d.client a.client && (d.number == a.number) in
    elim (cases_Bool p) [
      | inl hit ↦ ap (λ b. cond b (Some d) (entry_of (es ++ ds) a.client a.number)) hit ∙ sym (ap (λ b. cond b (Some d) (entry_of es a.client a.number)) hit) ∙ found
      | inr miss ↦ ap (λ b. cond b (Some d) (entry_of (es ++ ds) a.client a.number)) miss ∙ found_more es ds a e (sym (cond-false p (Some d) (entry_of es a.client a.number) miss) ∙ found)
    ]

found_last : (es : List Entry) (a : Arrived) (e : Entry) → e.client ≡ a.client → e.number ≡ a.number → entry_of es a.client a.number ≡ None → entry_of (es ++ e ∷ []) a.client a.number ≡ Some e
found_last [] a e client number none =
    let hit : (bytes_eq e.client a.client && (e.number == a.number)) ≡ true = ap (λ b. b && (e.number == a.number)) ((bytes_eq-Decides e.client a.client).1 client) ∙ eq-eqb e.number a.number number in
    ap (λ b. cond b (Some e) None) hit
found_last (d ∷ es) a e client number none =
    let p : Bool = bytes_eq d.client a.client && (d.number == a.number) in
    elim (cases_Bool p) [
      | inl hit ↦ absurd (none-some d (sym none ∙ ap (λ b. cond b (Some d) (entry_of es a.client a.number)) hit))
      | inr miss ↦ ap (λ b. cond b (Some d) (entry_of (es ++ e ∷ []) a.client a.number)) miss ∙ found_last es a e client number (sym (cond-false p (Some d) (entry_of es a.client a.number) miss) ∙ none)
    ]

-- the reply to an arrival is kept for its repeats
pub own_reply_kept : (c : Contents) (a : Arrived) → AreAbove c → IsKeptFor (contents_after c (a ∷ [])) a (http_reply_on c a)
own_reply_kept c a are =
    decided_by c a (λ d http_reply. IsKeptFor d a http_reply) are
    (λ gone live. absurd (false≢true (sym live ∙ gone)))
    (λ e first some live. (e, some, refl))
    (λ first none live.
    let reply = reply_to c.facts c.marks a in
    let entry = entry_with a reply in
    let same : bytes_eq a.ask a.ask ≡ true = (bytes_eq-Decides a.ask a.ask).1 refl in
    (entry, entry_above (marks_with c.marks a) (c.kept ++ entry ∷ []) a entry live (found_last c.kept a entry refl refl none), cond-true (bytes_eq a.ask a.ask) (http_reply_of reply) reused same))

-- another arrival doesn't change the kept reply, unless it releases the number
pub reply_still_kept : (c : Contents) (a b : Arrived) (http_reply : HttpReply) → AreAbove c → IsKeptFor c b http_reply → IsKeptFor (contents_after c (a ∷ [])) b http_reply
reply_still_kept c a b http_reply are is =
    decided_by c a (λ d t. IsKeptFor d b http_reply) are (λ gone. is) (λ e first some. is)
    (λ first none live.
    let was = is (released_before c.marks (marks_with c.marks a) b (marks_grow c.marks a) live) in
    let entry = entry_with a (reply_to c.facts c.marks a) in
    (was.0, entry_above (marks_with c.marks a) (c.kept ++ entry ∷ []) b was.0 live (found_more c.kept (entry ∷ []) b was.0 was.1), was.2))

-- a repeat gets the kept reply
pub repeat_gets_reply : (c : Contents) (a : Arrived) (http_reply : HttpReply) → IsKeptFor c a http_reply → is_released c.marks a ≡ false → http_reply_on c a ≡ http_reply
repeat_gets_reply c a http_reply is live =
    let e = is live in
    let first : HttpReply = http_reply_of (reply_to c.facts c.marks a) in
    cond-false (is_released c.marks a) (http_reply_of (NumberReleased (mark_of c.marks a.client))) (by_option (entry_of c.kept a.client a.number) first (http_reply_by a.ask)) live
    ∙ ap (λ o. by_option o first (http_reply_by a.ask)) e.1 ∙ e.2

-- no list of arrivals changes the kept reply, unless it releases the number
kept_for : (c : Contents) (b : Arrived) (http_reply : HttpReply) (between : List Arrived) → AreAbove c → IsKeptFor c b http_reply → IsKeptFor (contents_after c between) b http_reply
kept_for c b http_reply [] are is = subst (λ d. IsKeptFor d b http_reply) (sym (same_contents c are)) is
kept_for c b http_reply (a ∷ between) are is =
    subst (λ d. IsKeptFor d b http_reply) (sym (one_then c a between are))
    (kept_for (contents_after c (a ∷ [])) b http_reply between (above_after c a are) (reply_still_kept c a b http_reply are is))

pub repeats_get_their_reply : RepeatsGetTheirReply
repeats_get_their_reply c a between are live =
    let after = contents_after c (a ∷ between) in
    let kept : IsKeptFor after a (http_reply_on c a) = subst (λ d. IsKeptFor d a (http_reply_on c a)) (sym (one_then c a between are))
    (kept_for (contents_after c (a ∷ [])) a (http_reply_on c a) between (above_after c a are) (own_reply_kept c a are)) in
    repeat_gets_reply after a (http_reply_on c a) kept live
