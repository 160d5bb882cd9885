-- Lemmas about each way in which handling an arrival can end.
use Rattle.std.proofs.Common.{◌≡◌, ◌⊎◌, List, [], ◌∷◌, ◌++◌, true, false, Option, Some, None, Result, Ok, Err, IfOk, OnOk, OnErr, refl, sym, ap, ◌∙◌, subst, inl, inr, ⊎_elim, append-nil, arith}
use Rattle.std.specs.Prelude.{option_map}
use Rattle.std.proofs.lemmas.Bool.{cond-true, cond-false, false≢true}
use Rattle.std.proofs.lemmas.Option.{none-some, same_Some}
use Rattle.job_facts.specs.declared.reply.Reply.{Reply}
use Rattle.job_facts.specs.declared.reply.Reply.TheVariants.{NumberReleased}
use Rattle.job_facts.specs.declared.rows.KeptReply.{KeptReply}
use Rattle.job_facts.specs.declared.store.StoreFault.{StoreFault}
use Rattle.job_facts.specs.Contents.{AreSound, Contents, Entry, entry_of, mark_of, reply_of_entry}
use Rattle.job_facts.specs.Steps.{by_option}
use Rattle.job_facts.specs.Store.{Commits, IsFound, IsHonest, Log, MayWrite, State, Stays, with_lines}
use Rattle.arrivals.specs.declared.kept.Kept.{Kept}
use Rattle.arrivals.specs.HttpReplies.{HttpReply, http_reply, http_reply_of}
use Rattle.arrivals.specs.Meaning.{Arrived, contents_after, entry_with, http_reply_by, http_reply_on, is_released, reply_to, told}
use Rattle.arrivals.proofs.MeaningLemmas.{contents_old, contents_released}
use Rattle.arrivals.proofs.MeaningLists.{told_new, told_old, told_released}
use Rattle.reply_store.specs.declared.deciding.Effect.{Effect}
use Rattle.reply_store.specs.Effects.{IsOwedBy, after_effect, done}
use Rattle.reply_store.specs.Handled.{Handles, IsFirst}
use Rattle.reply_store.proofs.Decisions.{IsDecided, IsNumbered, decided_reply, is_owed, leaves_contents}

pub Stays-then : (a b c : State) → Stays a b → Stays b c → Stays a c
Stays-then a b c p q = record {
  doubts = omega (arith, p.doubts, q.doubts);
  contents = λ h k held. q.contents h k (p.contents (omega (arith, q.doubts)) k held);
  crash = λ h d left. p.crash (omega (arith, q.doubts)) d (q.crash h d left);
  log = λ l at. q.log l (p.log l at);
}

pub Stays-refl : (s : State) → Stays s s
Stays-refl s = record { doubts = omega arith; contents = λ h c held. held; crash = λ h d left. left; log = λ l at. at }

on_ok : {T E P : Type 0} (r : Result T E) → P → OnOk r P
on_ok {P = P} r p = elim r as (λ r. OnOk r P) [ Ok x ↦ p | Err e ↦ tt ]

on_err : {T E P : Type 0} (r : Result T E) → P → OnErr r P
on_err {P = P} r p = elim r as (λ r. OnErr r P) [ Ok x ↦ tt | Err e ↦ p ]

-- ---- an arrival that changes nothing

-- the arrival gets this response for these contents, changes nothing, doesn't have a new number, and
-- adds no line to the request log
abbrev pub IsAnswered : Contents → Arrived → Result Kept StoreFault → Type 0
IsAnswered c a result = (contents_after c (a ∷ []) ≡ c) × (IsFirst c a → ⊥) × (told c (a ∷ []) ≡ []) × IfOk result (λ k. http_reply_on c a ≡ http_reply k)

no_line : (l : Log) (es : List Entry) → es ≡ [] → with_lines es l ≡ l
no_line l es none = ap (λ (ls : List Entry). record l { lines = ls }) (ap (λ ls. l.lines ++ ls) none ∙ append-nil l.lines)

pub handles_answered : (old new : State) (a : Arrived) (result : Result Kept StoreFault) → Stays old new
    → (IsHonest new → (c : Contents) → old.holds c → IsAnswered c a result) → Handles old new a result
handles_answered old new a result stays is = record {
  doubts = stays.doubts;
  reply_is = λ h c held. (is h c held).3;
  ok = on_ok result (λ h c held. subst new.holds (sym (is h c held).0) (stays.contents h c held));
  err = on_err result stays.contents;
  crash = λ h c d held left. inl (stays.crash h d left);
  settled = on_ok result (λ h c d held first left. absurd ((is h c held).1 first));
  logged = on_ok result (λ h c held l at. let none = (is h c held).2 in (inr none, subst new.log (sym (no_line l (told c (a ∷ [])) none)) (stays.log l at)));
  unlogged = on_err result (λ h c held l at. (l, stays.log l at, inl refl));
  covered = λ h c d held left l at. inl (stays.crash h d left);
}

-- the store returned a fault and is unchanged
pub handles_stays : (old new : State) (a : Arrived) (fault : StoreFault) → Stays old new → Handles old new a (Err fault)
handles_stays old new a fault stays = record {
  doubts = stays.doubts;
  reply_is = λ h c held. tt;
  ok = tt;
  err = stays.contents;
  crash = λ h c d held left. inl (stays.crash h d left);
  settled = tt;
  logged = tt;
  unlogged = λ h c held l at. (l, stays.log l at, inl refl);
  covered = λ h c d held left l at. inl (stays.crash h d left);
}

-- the number is released
pub answered_released : (c : Contents) (a : Arrived) (k : Kept) → AreSound c → is_released c.marks a ≡ true
    → http_reply k ≡ http_reply_of (NumberReleased (mark_of c.marks a.client)) → IsAnswered c a (Ok k)
answered_released c a k sound gone same =
    let other : HttpReply = by_option (entry_of c.kept a.client a.number) (http_reply_of (reply_to c.facts c.marks a)) (http_reply_by a.ask) in (
      contents_released c a sound.above gone,
      λ first. false≢true (sym first.0 ∙ gone),
      told_released c a gone,
      cond-true (is_released c.marks a) (http_reply_of (NumberReleased (mark_of c.marks a.client))) other gone ∙ sym same,
    )

-- the number is used
pub answered_kept : (c : Contents) (a : Arrived) (k : Kept) (kept : KeptReply) → AreSound c → is_released c.marks a ≡ false
    → Some kept ≡ option_map reply_of_entry (entry_of c.kept a.client a.number) → ((e : Entry) → kept ≡ reply_of_entry e → http_reply k ≡ http_reply_by a.ask e) → IsAnswered c a (Ok k)
answered_kept c a k kept sound live found same = at (entry_of c.kept a.client a.number) refl found
  where
    at : (o : Option Entry) → entry_of c.kept a.client a.number ≡ o → Some kept ≡ option_map reply_of_entry o → IsAnswered c a (Ok k)
    at None none is = absurd (none-some kept (sym is))
    at (Some e) some is = (
      contents_old c a e sound.above live some,
      λ (f : IsFirst c a). none-some e (sym f.1 ∙ some),
      told_old c a e live some,
      cond-false (is_released c.marks a) (http_reply_of (NumberReleased (mark_of c.marks a.client))) (by_option (entry_of c.kept a.client a.number) (http_reply_of (reply_to c.facts c.marks a)) (http_reply_by a.ask)) live
          ∙ ap (λ o. by_option o (http_reply_of (reply_to c.facts c.marks a)) (http_reply_by a.ask)) some ∙ sym (same e (same_Some kept (reply_of_entry e) is)),
    )

pub no_entry : (o : Option Entry) → None ≡ option_map reply_of_entry o → o ≡ None
no_entry None is = refl
no_entry (Some e) is = absurd (none-some (reply_of_entry e) is)

-- ---- a new number

abbrev pub AreDecided : State → State → Arrived → Reply → Effect → Type 0
AreDecided old mid a reply effect = IsHonest mid → (c : Contents) → old.holds c → AreSound c × IsDecided c a reply effect

-- the response to a new number
answered_first : (c : Contents) (a : Arrived) (reply : Reply) (effect : Effect) → IsDecided c a reply effect → reply_to c.facts c.marks a ≡ reply → http_reply_on c a ≡ http_reply_of reply
answered_first c a reply effect d is =
    let first : HttpReply = http_reply_of (reply_to c.facts c.marks a) in
    cond-false (is_released c.marks a) (http_reply_of (NumberReleased (mark_of c.marks a.client))) (by_option (entry_of c.kept a.client a.number) first (http_reply_by a.ask)) d.0
    ∙ ap (λ o. by_option o first (http_reply_by a.ask)) d.1 ∙ ap http_reply_of is

module _ (old mid new : State) (a : Arrived) (reply : Reply) (effect : Effect) (numbered : IsNumbered a) (stays : Stays old mid)
    (is : AreDecided old mid a reply effect) where
  abbrev Kept_by : Result (Unit {0}) StoreFault → Type 0
  Kept_by r = Commits mid new r (entry_with a reply) (IsOwedBy effect (entry_with a reply)) (after_effect effect (entry_with a reply))

  owed : (h : IsHonest mid) (c : Contents) (held : old.holds c) → IsOwedBy effect (entry_with a reply) c
  owed h c held = let d = is h c held in is_owed c a reply effect d.0 numbered d.1

  after : (h : IsHonest mid) (c : Contents) (held : old.holds c) → after_effect effect (entry_with a reply) c ≡ contents_after c (a ∷ [])
  after h c held = let d = is h c held in leaves_contents c a reply effect d.0 d.1

  crashes : (r : Result (Unit {0}) StoreFault) → Kept_by r → IsHonest new → (c : Contents) (d : Option Contents) → old.holds c → new.may_leave d → old.may_leave d ⊎ IsFound d (contents_after c (a ∷ []))
  crashes r made h c d held left =
      let m : IsHonest mid = omega (arith, made.doubts) in
      ⊎_elim (λ before. inl (stays.crash m d before)) (λ e. inr (subst (IsFound d) (after m c held) e)) (made.crash h c d (stays.contents m c held) (owed m c held) left)

  same_reply : IsHonest mid → (c : Contents) → old.holds c → reply_to c.facts c.marks a ≡ reply
  same_reply h c held = decided_reply c a.client a.number a.request reply effect (is h c held).1.2

  tells : IsHonest mid → (c : Contents) → old.holds c → told c (a ∷ []) ≡ entry_with a reply ∷ []
  tells h c held = let d = is h c held in told_new c a d.1.0 d.1.1 ∙ ap (λ r. entry_with a r ∷ []) (same_reply h c held)

  covers : (r : Result (Unit {0}) StoreFault) → Kept_by r → IsHonest new → (c : Contents) (d : Option Contents) → old.holds c → new.may_leave d → (l : Log) → old.log l
      → old.may_leave d ⊎ (IsFound d (contents_after c (a ∷ [])) × ((m : Log) × new.log m × (m.lines ≡ l.lines ++ told c (a ∷ []))))
  covers r made h c d held left l at =
      let m : IsHonest mid = omega (arith, made.doubts) in
      ⊎_elim (λ before. inl (stays.crash m d before))
      (λ (t : IsFound d (after_effect effect (entry_with a reply) c) × ((m : Log) × new.log m × (m.lines ≡ l.lines ++ entry_with a reply ∷ []))).
      inr (subst (IsFound d) (after m c held) t.0, (t.1.0, t.1.1, t.1.2 ∙ ap (λ es. l.lines ++ es) (sym (tells m c held)))))
      (made.covered h c d (stays.contents m c held) (owed m c held) left l (stays.log l at))

  handles_ok : (k : Kept) → http_reply k ≡ http_reply_of reply → Kept_by (Ok tt) → Handles old new a (Ok k)
  handles_ok k same made = record {
    doubts = omega (arith, stays.doubts, made.doubts);
    reply_is = λ h c held. let m : IsHonest mid = omega (arith, made.doubts) in let d = is m c held in
        answered_first c a reply effect d.1 (same_reply m c held) ∙ sym same;
    ok = λ h c held. let m : IsHonest mid = omega (arith, made.doubts) in subst new.holds (after m c held) (made.ok h c (stays.contents m c held) (owed m c held));
    err = tt;
    crash = crashes (Ok tt) made;
    settled = λ h c d held first left. let m : IsHonest mid = omega (arith, made.doubts) in
        subst (IsFound d) (after m c held) (made.settled h c d (stays.contents m c held) (owed m c held) left);
    logged = λ h c held l at. let m : IsHonest mid = omega (arith, made.doubts) in let now = made.logged l (stays.log l at) in
        (inl now.0, subst (λ es. new.log (with_lines es l)) (sym (tells m c held)) now.1);
    unlogged = tt;
    covered = covers (Ok tt) made;
  }

  handles_err : (fault : StoreFault) → Kept_by (Err fault) → Handles old new a (Err fault)
  handles_err fault made = record {
    doubts = omega (arith, stays.doubts, made.doubts);
    reply_is = λ h c held. tt;
    ok = tt;
    err = λ h c held. let m : IsHonest mid = omega (arith, made.doubts) in made.err h c (stays.contents m c held) (owed m c held);
    crash = crashes (Err fault) made;
    settled = tt;
    logged = tt;
    unlogged = λ h c held l at. let m : IsHonest mid = omega (arith, made.doubts) in
        subst (λ r. (n : Log) × new.log n × MayWrite (entry_with a r) l n) (sym (same_reply m c held)) (made.unlogged l (stays.log l at));
    covered = covers (Err fault) made;
  }

  pub handles_decided : (result : Result Kept StoreFault) → IfOk result (λ k. http_reply k ≡ http_reply_of reply) → Kept_by (done result) → Handles old new a result
  handles_decided (Ok k) same made = handles_ok k same made
  handles_decided (Err fault) same made = handles_err fault made
