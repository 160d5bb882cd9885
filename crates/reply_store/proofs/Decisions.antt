-- Lemmas about the precondition and the result of a new number's effect.
use Rattle.std.proofs.Common.{◌≡◌, ◌≤◌, ◌<◌, ◌^◌, ◌⊎◌, ℕ, true, false, List, [], ◌∷◌, ◌++◌, None, refl, sym, ap, ◌∙◌, subst, inl, inr, arith}
use Rattle.std.specs.Prelude.{nat_le}
use Rattle.std.proofs.lemmas.Bool.Decides.{nat_tests}
use Rattle.std.proofs.lemmas.List.Elements.{All-push}
use Rattle.job_facts.specs.declared.change.Change.{Change}
use Rattle.job_facts.specs.declared.change.Change.TheVariants.{Nothing}
use Rattle.job_facts.specs.declared.refusal.Refusal.TheVariants.{ReleaseTooFar}
use Rattle.job_facts.specs.declared.reply.Reply.{Reply}
use Rattle.job_facts.specs.declared.reply.Reply.TheVariants.{Refused, Busy, Released, NumberReleased, Faulty}
use Rattle.job_facts.specs.declared.request.Call.{Call}
use Rattle.job_facts.specs.declared.request.Call.TheVariants.{Job, Release}
use Rattle.job_facts.specs.Contents.{AreSound, Contents, Entry, IsNewEntry, IsOwed, IsOwedRelease, above, committed, entry_of, is_above, mark_of, released}
use Rattle.job_facts.specs.Facts.{Facts}
use Rattle.job_facts.specs.Sound.{IsName, changed}
use Rattle.arrivals.specs.HttpReplies.{body_of, status_of}
use Rattle.arrivals.specs.Meaning.{Arrived, contents_after, contents_with, entry_with, is_released, reply_by}
use Rattle.arrivals.proofs.MeaningLemmas.{contents_new, filter_all}
use Rattle.reply_store.specs.declared.deciding.Effect.{Effect}
use Rattle.reply_store.specs.declared.deciding.Effect.TheVariants.{Changes, Marks}
use Rattle.reply_store.specs.Effects.{Decided, IsOwedBy, after_effect}

status_is : (reply : Reply) → (status_of reply ≡ 200) ⊎ (status_of reply ≡ 409)
status_is (Refused why) = inr refl
status_is (Busy s) = inr refl
status_is (NumberReleased mark) = inr refl
status_is (Faulty fault) = inr refl
status_is _ = inl refl

-- the client and the number of the arrival are in range
pub record IsNumbered (a : Arrived) : Type 0 where
  pub client : IsName a.client
  pub least : 1 ≤ a.number
  pub most : a.number < 10 ^ 18

module _ (c : Contents) (client : List ℕ) (number : ℕ) (ask : List ℕ) (sound : AreSound c) where
  abbrev at : Call → Arrived
  at call = record { client = client; number = number; ask = ask; request = call }

  -- the entry of a reply to this call
  abbrev entry : Reply → Entry
  entry reply = record { client = client; number = number; ask = ask; status = status_of reply; body = body_of reply }

  abbrev made : Facts → List Entry → Contents
  made f kept = record { facts = f; kept = kept; marks = c.marks }

  -- the new entry is above the release marks, as all others are
  kept_all : (reply : Reply) → nat_le number (mark_of c.marks client) ≡ false
      → above c.marks (c.kept ++ entry reply ∷ []) ≡ c.kept ++ entry reply ∷ []
  kept_all reply live =
      let new : is_above c.marks (entry reply) ≡ true = grind (arith, nat_tests, live) in
      filter_all (is_above c.marks) (c.kept ++ entry reply ∷ []) (All-push (λ (e : Entry). is_above c.marks e ≡ true) c.kept (entry reply) sound.above new)

  effect_leaves : (call : Call) (reply : Reply) (effect : Effect) → nat_le number (mark_of c.marks client) ≡ false → Decided c client number call reply effect
      → after_effect effect (entry reply) c ≡ contents_with c (at call)
  effect_leaves (Job r) reply (Changes change) live d =
      ap (made (changed c.facts change)) (sym (kept_all reply live))
      ∙ ap (λ (p : Facts × Reply). made p.0 (above c.marks (c.kept ++ entry p.1 ∷ []))) (sym d.step_is)
  effect_leaves (Job r) reply (Marks mark) live d = absurd d
  effect_leaves (Release upto) reply (Changes change) live d =
      let far : nat_le number upto ≡ true = grind (arith, nat_tests, d.0) in
      subst (λ (x : Change). committed c x (entry reply) ≡ contents_with c (at (Release upto))) (sym d.2)
      (subst (λ (x : Reply). committed c Nothing (entry x) ≡ contents_with c (at (Release upto))) (sym d.1)
      (rw far (ap (made c.facts) (sym (kept_all (Refused ReleaseTooFar) live)))))
  effect_leaves (Release upto) reply (Marks mark) live d =
      let near : nat_le number upto ≡ false = grind (arith, nat_tests, d.0) in
      subst (λ (x : Reply). released c mark (entry x) ≡ contents_with c (at (Release upto))) (sym d.2)
      (subst (λ (m : ℕ). released c m (entry (Released m)) ≡ contents_with c (at (Release upto))) (sym d.3) (rw near refl))

  effect_owed : (call : Call) (reply : Reply) (effect : Effect) → nat_le number (mark_of c.marks client) ≡ false → Decided c client number call reply effect
      → IsNewEntry (entry reply) c → IsOwedBy effect (entry reply) c
  effect_owed (Job r) reply (Changes change) live d new = record { is_new = new; keeps = d.keeps }
  effect_owed (Job r) reply (Marks mark) live d new = absurd d
  effect_owed (Release upto) reply (Changes change) live d new =
      subst (λ (x : Change). IsOwed x (entry reply) c) (sym d.2) (record { is_new = new; keeps = record { before = tt; sound = sound.facts; after = tt } })
  effect_owed (Release upto) reply (Marks mark) live d new =
      let below : mark_of c.marks client < number = grind (arith, nat_tests, live) in
      subst (λ (m : ℕ). IsOwedRelease m (entry reply) c) (sym d.3)
      (record { is_new = new; near = omega (arith, d.0, below); grows = omega arith; least = omega (arith, d.1) })

-- the number is new, and `reply` and `effect` are the decision
abbrev pub IsDecided : Contents → Arrived → Reply → Effect → Type 0
IsDecided c a reply effect = (is_released c.marks a ≡ false) × (entry_of c.kept a.client a.number ≡ None) × Decided c a.client a.number a.request reply effect

-- the decided reply is the arrival's own
pub decided_reply : (c : Contents) (client : List ℕ) (number : ℕ) (call : Call) (reply : Reply) (effect : Effect) → Decided c client number call reply effect
    → reply_by c.facts c.marks client number call ≡ reply
decided_reply c client number (Job r) reply (Changes change) d = ap (λ (p : Facts × Reply). p.1) d.step_is
decided_reply c client number (Job r) reply (Marks mark) d = absurd d
decided_reply c client number (Release upto) reply (Changes change) d =
    let far : nat_le number upto ≡ true = grind (arith, nat_tests, d.0) in rw far (sym d.1)
decided_reply c client number (Release upto) reply (Marks mark) d =
    let near : nat_le number upto ≡ false = grind (arith, nat_tests, d.0) in rw near (ap Released (sym d.3) ∙ sym d.2)

pub leaves_contents : (c : Contents) (a : Arrived) (reply : Reply) (effect : Effect) → AreSound c → IsDecided c a reply effect
    → after_effect effect (entry_with a reply) c ≡ contents_after c (a ∷ [])
leaves_contents c a reply effect sound d =
    effect_leaves c a.client a.number a.ask sound a.request reply effect d.0 d.2 ∙ sym (contents_new c a d.0 d.1)

pub is_owed : (c : Contents) (a : Arrived) (reply : Reply) (effect : Effect) → AreSound c → IsNumbered a → IsDecided c a reply effect
    → IsOwedBy effect (entry_with a reply) c
is_owed c a reply effect sound numbered d =
    let live : mark_of c.marks a.client < a.number = grind (arith, nat_tests, d.0) in
    effect_owed c a.client a.number a.ask sound a.request reply effect d.0 d.2
    (record { first = d.1; live = live; ranged = record { client = numbered.client; least = numbered.least; most = numbered.most; status = status_is reply } })
