-- The contents of the lists after a commit or a release.
use Rattle.std.proofs.Common.{◌≡◌, ℕ, List, ◌∷◌, ◌++◌, [], Option, Some, Ok, sym, ap, ◌∙◌, subst, inr, arith}
use Rattle.job_facts.specs.declared.change.Change.{Change}
use Rattle.job_facts.specs.Facts.{Facts}
use Rattle.job_facts.specs.Sound.{changed}
use Rattle.job_facts.specs.Contents.{AreSound, Contents, Entry, IsOwed, IsOwedRelease, Mark, above, committed, released, with_mark}
use Rattle.job_facts.specs.Store.{Commits, IsFound}
use Rattle.job_facts.proofs.NextContents.{AreSame-refl, sound_committed, sound_released}
use Rattle.list_store.specs.Lists.{state_of}

-- An open after a crash finds the contents of the lists.
pub found : (old c : Contents) → old ≡ c → (d : Option Contents) → d ≡ Some old → IsFound d c
found old c is d at = subst (λ x. IsFound x c) (sym (at ∙ ap Some is)) (AreSame-refl c)

-- If the new contents are `after old`, the call has stored its change with its reply.
lists_change : (old new : Contents) (entry : Entry) (Owed : Contents → Type 0) (after : Contents → Contents) → new ≡ after old
    → ((c : Contents) → AreSound c → Owed c → AreSound (after c)) → Commits (state_of old) (state_of new) (Ok tt) entry Owed after
lists_change old new entry Owed after made keeps =
    let is_after : (c : Contents) → old ≡ c → new ≡ after c = λ c is. made ∙ ap after is in
    record {
      doubts = omega arith;
      ok = λ honest c held owed. (is_after c held.0, keeps c held.1 owed);
      err = tt;
      crash = λ honest c d held owed at. inr (found new (after c) (is_after c held.0) d at);
      settled = λ honest c d held owed at. found new (after c) (is_after c held.0) d at;
      logged = λ l none. absurd none;
      unlogged = tt;
      covered = λ honest c d held owed at l none. absurd none;
    }

abbrev made : Facts → List Entry → List Mark → Contents
made facts kept marks = record { facts = facts; kept = kept; marks = marks }

pub lists_commit : (old new : Contents) (change : Change) (entry : Entry) → new.facts ≡ changed old.facts change → new.kept ≡ old.kept ++ entry ∷ []
    → new.marks ≡ old.marks → Commits (state_of old) (state_of new) (Ok tt) entry (IsOwed change entry) (λ c. committed c change entry)
lists_commit old new change entry facts kept marks =
    let next : new ≡ committed old change entry =
    ap (λ f. made f new.kept new.marks) facts ∙ ap (λ k. made (changed old.facts change) k new.marks) kept
    ∙ ap (made (changed old.facts change) (old.kept ++ entry ∷ [])) marks in
    lists_change old new entry (IsOwed change entry) (λ c. committed c change entry) next (λ c sound. sound_committed c entry sound change)

pub lists_release : (old new : Contents) (upto : ℕ) (entry : Entry) → new.facts ≡ old.facts → new.kept ≡ above new.marks (old.kept ++ entry ∷ [])
    → new.marks ≡ with_mark old.marks entry.client upto
    → Commits (state_of old) (state_of new) (Ok tt) entry (IsOwedRelease upto entry) (λ c. released c upto entry)
lists_release old new upto entry facts kept marks =
    let next : new ≡ released old upto entry =
    ap (λ f. made f new.kept new.marks) facts ∙ ap (λ k. made old.facts k new.marks) kept
    ∙ ap (λ m. made old.facts (above m (old.kept ++ entry ∷ [])) m) marks in
    lists_change old new entry (IsOwedRelease upto entry) (λ c. released c upto entry) next (λ c sound. sound_released c entry sound upto)
