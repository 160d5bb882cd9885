-- Lemmas about one more arrival.
use Rattle.std.proofs.Common.{◌≡◌, ◌⊎◌, ℕ, zero, suc, ◌+◌, ◌<◌, ◌≤◌, true, false, List, [], ◌∷◌, ◌++◌, length, get_or, map, take, Option, Some, None, Result, Ok, Err, IfOk, refl, sym, ap, ◌∙◌, subst, inl, inr, ⊎_elim, arith, append-nil, append_assoc}
use Rattle.std.specs.List.{zip}
use Rattle.std.specs.Prelude.{filter, is_ok, slice_get}
use Rattle.std.proofs.lemmas.Bool.{cases_Bool, false≢true}
use Rattle.std.proofs.lemmas.List.{map-append, map_more, map_push, take-append-le, take_at, length-map, length-take-le}
use Rattle.std.proofs.lemmas.List.Elements.{filter-append}
use Rattle.std.proofs.lemmas.Option.{none-some, slice_get_within}
use Rattle.job_facts.specs.declared.request.Arrival.{Arrival}
use Rattle.job_facts.specs.declared.store.StoreFault.{StoreFault}
use Rattle.job_facts.specs.Contents.{AreSame, AreSound, Contents, Entry, entry_of}
use Rattle.job_facts.specs.Store.{CountsFaults, IsFound, IsHonest, Log, MayWrite, State, Stays, failed_after, full_after, with_lines}
use Rattle.job_facts.proofs.Lists.{each_more}
use Rattle.arrivals.specs.declared.kept.Kept.{Kept}
use Rattle.arrivals.specs.HttpReplies.{http_reply}
use Rattle.arrivals.specs.Laws.{AreAbove, AreAnsweredAlike}
use Rattle.arrivals.specs.Meaning.{Arrived, contents_after, entry_with, http_reply_on, is_released, reply_to, told}
use Rattle.arrivals.specs.Commands.{HandsOutNext}
use Rattle.arrivals.proofs.Commands.{call_hands_out_next}
use Rattle.arrivals.proofs.MeaningLemmas.{contents_old, contents_released, same_contents}
use Rattle.arrivals.proofs.MeaningLists.{contents_after-append, told-append}
use Rattle.reply_store.specs.Handled.{Handles, IsFirst}
use Rattle.reply_store.specs.Runs.{arrived, AreNext, AreTold, IsPending, Leaves, MayBeLeft, Runs, Served, Tried, decided, failed_through, full_through, tried}

decided-append : (xs ys : List Tried) → decided (xs ++ ys) ≡ decided xs ++ decided ys
decided-append xs ys = ap (map (λ (t : Tried). t.0)) (filter-append (λ (t : Tried). t.1) xs ys) ∙ map-append (λ (t : Tried). t.0) (filter (λ (t : Tried). t.1) xs) (filter (λ (t : Tried). t.1) ys)

slice_get_front : (xs ys : List Tried) (k : ℕ) (t : Tried) → slice_get xs k ≡ Some t → slice_get (xs ++ ys) k ≡ Some t
slice_get_front [] ys k t e = absurd (none-some t e)
slice_get_front (x ∷ xs) ys zero t e = e
slice_get_front (x ∷ xs) ys (suc k) t e = slice_get_front xs ys k t e

slice_get_end : (xs : List Tried) (t : Tried) → slice_get (xs ++ t ∷ []) (length xs) ≡ Some t
slice_get_end [] t = refl
slice_get_end (x ∷ xs) t = slice_get_end xs t

-- ---- the contents after one more arrival

after_above : (c : Contents) (tries : List Tried) (a : Arrived) → AreAbove c → contents_after c (decided (tries ++ (a, true) ∷ [])) ≡ contents_after (contents_after c (decided tries)) (a ∷ [])
after_above c tries a above = ap (contents_after c) (decided-append tries ((a, true) ∷ [])) ∙ contents_after-append c (decided tries) (a ∷ []) above

pub after_true : (c : Contents) (tries : List Tried) (a : Arrived) → AreSound c → contents_after c (decided (tries ++ (a, true) ∷ [])) ≡ contents_after (contents_after c (decided tries)) (a ∷ [])
after_true c tries a sound = after_above c tries a sound.above

pub after_false : (c : Contents) (tries : List Tried) (a : Arrived) → contents_after c (decided (tries ++ (a, false) ∷ [])) ≡ contents_after c (decided tries)
after_false c tries a = ap (contents_after c) (decided-append tries ((a, false) ∷ []) ∙ append-nil (decided tries))

-- ---- the order of sets

-- contents that are equal to contents that differ only in the order of sets
alike_by : (c d n o : Contents) → c ≡ n → d ≡ o → AreSame n o → AreSame c d
alike_by c d n o one two same = subst (λ (x : Contents). AreSame x d) (sym one) (subst (AreSame n) (sym two) same)

-- ---- crashes

-- if one more arrival commits nothing, a crash may leave what it could leave before
left_more : (before : Option Contents → Type 0) (c : Contents) (d : Option Contents) (tries : List Tried) (t : Tried) → contents_after c (decided (tries ++ t ∷ [])) ≡ contents_after c (decided tries) → MayBeLeft before c tries d → MayBeLeft before c (tries ++ t ∷ []) d
left_more before c d tries t same left =
    ⊎_elim (λ now. inl (subst (IsFound d) (sym same) now))
    (λ rest. inr (⊎_elim
    (λ (p : IsPending c tries d). inl (
      p.0,
      p.1,
      slice_get_front tries (t ∷ []) p.0 (p.1, false) p.2,
      ap (λ (l : List Tried). contents_after c (decided l)) (take-append-le p.0 tries (t ∷ []) (≤-of (slice_get_within tries p.0 (p.1, false) p.2))) ∙ p.3 ∙ sym same,
      subst (λ (x : Contents). IsFound d (contents_after x (p.1 ∷ []))) (sym same) p.4,
    ))
    (λ q. inr (same ∙ q.0, q.1)) rest))
    left
  where
    ≤-of : {m n : ℕ} → m < n → m ≤ n
    ≤-of h = omega (arith, h)

pub leaves_none : (s : State) → ((c : Contents) → s.holds c → AreSound c) → Leaves s s []
leaves_none s sound = record {
  doubts = omega arith;
  contents = λ h c held. subst s.holds (sym (same_contents c (sound c held).above)) held;
  crash = λ h c d held left. inr (inr (same_contents c (sound c held).above, left));
  alike = λ h c d held above same. alike_by (contents_after c []) (contents_after d []) c d (same_contents c (sound c held).above) (same_contents d above) same;
  logged = λ h c held l at. (l, at, inl (sym (append-nil l.lines)));
}

-- an arrival has a new number, or it leaves the contents unchanged
pub is_first : (c : Contents) (a : Arrived) → AreSound c → IsFirst c a ⊎ (contents_after c (a ∷ []) ≡ c)
is_first c a sound = elim (cases_Bool (is_released c.marks a)) [
  | inl gone ↦ inr (contents_released c a sound.above gone)
  | inr live ↦ at (entry_of c.kept a.client a.number) refl live
]
  where
    at : (o : Option Entry) → entry_of c.kept a.client a.number ≡ o → is_released c.marks a ≡ false → IsFirst c a ⊎ (contents_after c (a ∷ []) ≡ c)
    at None e live = inl (live, e)
    at (Some entry) e live = inr (contents_old c a entry sound.above live e)

-- ---- the request log

told_push : (c : Contents) (tries : List Tried) (a : Arrived) → AreSound c → told c (decided (tries ++ (a, true) ∷ [])) ≡ told c (decided tries) ++ told (contents_after c (decided tries)) (a ∷ [])
told_push c tries a sound = ap (told c) (decided-append tries ((a, true) ∷ [])) ∙ told-append c (decided tries) (a ∷ []) sound.above

told_true : (c : Contents) (tries : List Tried) (a : Arrived) (l k : Log) → AreSound c → AreTold c tries l k → (k.shut ≡ false) ⊎ (told (contents_after c (decided tries)) (a ∷ []) ≡ [])
    → AreTold c (tries ++ (a, true) ∷ []) l (with_lines (told (contents_after c (decided tries)) (a ∷ [])) k)
told_true c tries a l k sound (inl same) takes =
    let new = told (contents_after c (decided tries)) (a ∷ []) in
    inl (ap (λ ls. ls ++ new) same ∙ append_assoc l.lines (told c (decided tries)) new ∙ ap (λ ls. l.lines ++ ls) (sym (told_push c tries a sound)))
told_true c tries a l k sound (inr (shut, (e, lines))) (inl live) = absurd (false≢true (sym live ∙ shut))
told_true c tries a l k sound (inr (shut, (e, lines))) (inr none) =
    let still : told c (decided tries) ≡ told c (decided (tries ++ (a, true) ∷ [])) = sym (told_push c tries a sound ∙ ap (λ ls. told c (decided tries) ++ ls) none ∙ append-nil (told c (decided tries))) in
    inr (shut, (e, ap (λ ls. k.lines ++ ls) none ∙ append-nil k.lines ∙ lines ∙ ap (λ ls. (l.lines ++ ls) ++ e ∷ []) still))

told_false : (c : Contents) (tries : List Tried) (a : Arrived) (l k m : Log) (e : Entry) → AreTold c tries l k → MayWrite e k m → AreTold c (tries ++ (a, false) ∷ []) l m
told_false c tries a l k m e was wrote =
    let still : decided tries ≡ decided (tries ++ (a, false) ∷ []) = sym (decided-append tries ((a, false) ∷ []) ∙ append-nil (decided tries)) in
    subst (λ (xs : List Arrived). (m.lines ≡ l.lines ++ told c xs) ⊎ ((m.shut ≡ true) × ((e : Entry) × (m.lines ≡ (l.lines ++ told c xs) ++ e ∷ [])))) still (now was wrote)
  where
    now : AreTold c tries l k → MayWrite e k m → AreTold c tries l m
    now was (inl same) = subst (AreTold c tries l) (sym same) was
    now (inl lines) (inr (live, shut, inl as_before)) = inl (as_before ∙ lines)
    now (inl lines) (inr (live, shut, inr more)) = inr (shut, (e, more ∙ ap (λ ls. ls ++ e ∷ []) lines))
    now (inr (shut, rest)) (inr (live, ended, which)) = absurd (false≢true (sym live ∙ shut))

-- ---- one more arrival

pub leaves_more : AreAnsweredAlike → (s0 s1 s2 : State) (tries : List Tried) (a : Arrived) (r : Result Kept StoreFault) → ((c : Contents) → s0.holds c → AreSound c) → ((c : Contents) → s1.holds c → AreSound c)
    → Leaves s0 s1 tries → Handles s1 s2 a r → Leaves s0 s2 (tries ++ (a, is_ok r) ∷ [])
leaves_more answers s0 s1 s2 tries a (Ok k) sound then run handled = record {
  doubts = omega (arith, run.doubts, handled.doubts);
  contents = λ h c held. let m : IsHonest s1 = omega (arith, handled.doubts) in let n = contents_after c (decided tries) in
      subst s2.holds (sym (after_true c tries a (sound c held))) (handled.ok h n (run.contents m c held));
  crash = λ h c d held left. let m : IsHonest s1 = omega (arith, handled.doubts) in let n = contents_after c (decided tries) in let now = run.contents m c held in
      let after = after_true c tries a (sound c held) in
      ⊎_elim (λ first. inl (subst (IsFound d) (sym after) (handled.settled h n d now first left)))
      (λ again. ⊎_elim (λ before. left_more s0.may_leave c d tries (a, true) (after ∙ again) (run.crash m c d held before)) (λ e. inl (subst (IsFound d) (sym after) e)) (handled.crash h n d now left))
      (is_first n a (then n now));
  alike = λ h c d held above same. let m : IsHonest s1 = omega (arith, handled.doubts) in let n = contents_after c (decided tries) in let o = contents_after d (decided tries) in
      alike_by (contents_after c (decided (tries ++ (a, true) ∷ []))) (contents_after d (decided (tries ++ (a, true) ∷ []))) (contents_after n (a ∷ [])) (contents_after o (a ∷ []))
      (after_true c tries a (sound c held)) (after_above d tries a above) (answers n o a (then n (run.contents m c held)) (run.alike m c d held above same)).1;
  logged = λ h c held l at. let m : IsHonest s1 = omega (arith, handled.doubts) in let n = contents_after c (decided tries) in
      let was = run.logged m c held l at in let step = handled.logged h n (run.contents m c held) was.0 was.1 in
      (with_lines (told n (a ∷ [])) was.0, step.1, told_true c tries a l was.0 (sound c held) was.2 step.0);
}
leaves_more answers s0 s1 s2 tries a (Err f) sound then run handled = record {
  doubts = omega (arith, run.doubts, handled.doubts);
  contents = λ h c held. let m : IsHonest s1 = omega (arith, handled.doubts) in let n = contents_after c (decided tries) in
      subst s2.holds (sym (after_false c tries a)) (handled.err h n (run.contents m c held));
  crash = λ h c d held left. let m : IsHonest s1 = omega (arith, handled.doubts) in let n = contents_after c (decided tries) in
      let after = after_false c tries a in
      ⊎_elim (λ before. left_more s0.may_leave c d tries (a, false) after (run.crash m c d held before))
      (λ e. inr (inl (
        length tries,
        a,
        slice_get_end tries (a, false),
        ap (λ (l : List Tried). contents_after c (decided l)) (take_at tries ((a, false) ∷ []) (length tries) refl) ∙ sym after,
        subst (λ (x : Contents). IsFound d (contents_after x (a ∷ []))) (sym after) e,
      )))
      (handled.crash h n d (run.contents m c held) left);
  alike = λ h c d held above same. let m : IsHonest s1 = omega (arith, handled.doubts) in
      alike_by (contents_after c (decided (tries ++ (a, false) ∷ []))) (contents_after d (decided (tries ++ (a, false) ∷ []))) (contents_after c (decided tries)) (contents_after d (decided tries))
      (after_false c tries a) (after_false d tries a) (run.alike m c d held above same);
  logged = λ h c held l at. let m : IsHonest s1 = omega (arith, handled.doubts) in let n = contents_after c (decided tries) in
      let was = run.logged m c held l at in let step = handled.unlogged h n (run.contents m c held) was.0 was.1 in
      (step.0, step.1, told_false c tries a l was.0 step.0 (entry_with a (reply_to n.facts n.marks a)) was.2 step.2);
}

-- a call that changes nothing
pub leaves_stays : (s0 s1 s2 : State) (tries : List Tried) → Leaves s0 s1 tries → Stays s1 s2 → Leaves s0 s2 tries
leaves_stays s0 s1 s2 tries run stays = record {
  doubts = omega (arith, run.doubts, stays.doubts);
  contents = λ h c held. stays.contents h (contents_after c (decided tries)) (run.contents (omega (arith, stays.doubts)) c held);
  crash = λ h c d held left. run.crash (omega (arith, stays.doubts)) c d held (stays.crash h d left);
  alike = λ h. run.alike (omega (arith, stays.doubts));
  logged = λ h c held l at. let was = run.logged (omega (arith, stays.doubts)) c held l at in (was.0, stays.log was.0 was.1, was.2);
}

-- ---- the responses

abbrev AnsweredAt : Contents → List Served → Served → Type 0
AnsweredAt c before s = IfOk s.1 (λ k. http_reply_on (contents_after c (decided (tried before))) s.0 ≡ http_reply k)

abbrev NextAt : Contents → List Served → Served → Type 0
NextAt c before s =
    let n = contents_after c (decided (tried before)) in
    IsFirst n s.0 → HandsOutNext n.facts (reply_to n.facts n.marks s.0)

-- ---- runs

failed_push : (served : List Served) (s : Served) (n : ℕ) → failed_through (served ++ s ∷ []) n ≡ failed_after s.1 (failed_through served n)
failed_push [] s n = refl
failed_push (x ∷ served) s n = failed_push served s (failed_after x.1 n)

full_push : (served : List Served) (s : Served) (n : ℕ) → full_through (served ++ s ∷ []) n ≡ full_after s.1 (full_through served n)
full_push [] s n = refl
full_push (x ∷ served) s n = full_push served s (full_after x.1 n)

pub runs_none : (s : State) → ((c : Contents) → s.holds c → AreSound c) → Runs s s []
runs_none s sound = record { leaves = leaves_none s sound; answered_then = λ h c held i t is. absurd (none-some t is); failed = refl; full = refl }

pub runs_more : AreAnsweredAlike → (s0 s1 s2 : State) (served : List Served) (a : Arrived) (r : Result Kept StoreFault) → ((c : Contents) → s0.holds c → AreSound c) → ((c : Contents) → s1.holds c → AreSound c)
    → Runs s0 s1 served → Handles s1 s2 a r → CountsFaults s1 s2 r → Runs s0 s2 (served ++ (a, r) ∷ [])
runs_more answers s0 s1 s2 served a r sound then run handled faults =
    let pushed : tried served ++ (a, is_ok r) ∷ [] ≡ tried (served ++ (a, r) ∷ []) = sym (map_push (λ (s : Served). (s.0, is_ok s.1)) served (a, r)) in
    record {
      leaves = subst (Leaves s0 s2) pushed (leaves_more answers s0 s1 s2 (tried served) a r sound then run.leaves handled);
      answered_then = λ h c held. let m : IsHonest s1 = omega (arith, handled.doubts) in
          each_more (AnsweredAt c) served (a, r) (run.answered_then m c held) (handled.reply_is h (contents_after c (decided (tried served))) (run.leaves.contents m c held));
      failed = faults.failed ∙ ap (failed_after r) run.failed ∙ sym (failed_push served (a, r) s0.failed);
      full = faults.full ∙ ap (full_after r) run.full ∙ sym (full_push served (a, r) s0.full);
    }

pub next_none : (s : State) → IsHonest s → (c : Contents) → s.holds c → AreNext c []
next_none s h c held i t is = absurd (none-some t is)

pub next_more : (s0 s1 s2 : State) (served : List Served) (a : Arrived) (r : Result Kept StoreFault) → ((c : Contents) → s1.holds c → AreSound c) → Runs s0 s1 served → s1.doubts ≤ s2.doubts
    → (IsHonest s1 → (c : Contents) → s0.holds c → AreNext c served) → IsHonest s2 → (c : Contents) → s0.holds c → AreNext c (served ++ (a, r) ∷ [])
next_more s0 s1 s2 served a r sound run le next h c held =
    let m : IsHonest s1 = omega (arith, le) in
    let n = contents_after c (decided (tried served)) in
    each_more (NextAt c) served (a, r) (next m c held) (λ first. call_hands_out_next n.facts (sound n (run.leaves.contents m c held)).facts n.marks a.client a.number a.request)

zip_push : (xs : List Arrived) (rs : List (Result Kept StoreFault)) (x : Arrived) (r : Result Kept StoreFault) → length xs ≡ length rs → zip (xs ++ x ∷ []) (rs ++ r ∷ []) ≡ zip xs rs ++ (x, r) ∷ []
zip_push [] [] x r same = refl
zip_push [] (s ∷ rs) x r same = absurd (omega arith)
zip_push (y ∷ xs) [] x r same = absurd (omega arith)
zip_push (y ∷ xs) (s ∷ rs) x r same = ap (λ (l : List Served). (y, s) ∷ l) (zip_push xs rs x r (omega arith))

-- one more iteration of the loop
pub zip_more : (arrivals : List Arrival) (i : ℕ) (a : Arrival) (rs new : List (Result Kept StoreFault)) (r : Result Kept StoreFault) → i < length arrivals → a ≡ get_or arrivals i a → i ≡ length rs → new ≡ rs ++ r ∷ []
    → zip (map arrived (take (i + 1) arrivals)) new ≡ zip (map arrived (take i arrivals)) rs ++ (arrived a, r) ∷ []
zip_more arrivals i a rs new r lt item count pushed =
    let front : map arrived (take (i + 1) arrivals) ≡ map arrived (take i arrivals) ++ arrived a ∷ [] = map_more arrived arrivals i a lt ∙ ap (λ (x : Arrival). map arrived (take i arrivals) ++ arrived x ∷ []) (sym item) in
    ap (λ (xs : List Arrived). zip xs new) front ∙ ap (zip (map arrived (take i arrivals) ++ arrived a ∷ [])) pushed ∙ zip_push (map arrived (take i arrivals)) rs (arrived a) r (length-map (take i arrivals) arrived ∙ length-take-le i arrivals (omega arith) ∙ count)
