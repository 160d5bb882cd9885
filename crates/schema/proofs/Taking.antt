-- Lemmas: from the rows that are written to the contents after a commit.
use Rattle.std.proofs.Common.{ℕ, Result, Ok, Err, OnOk, IsTrue, subst, arith}
use Rattle.std.proofs.lemmas.List.Sorted.{IsPermutation-cons}
use Rattle.sqlite.specs.Effect.{Database}
use Rattle.sqlite.specs.State.{HasCleanDisk, State, Survives}
use Rattle.sqlite.proofs.StateLemmas.{survives_then, survives_weaker}
use Rattle.job_facts.specs.declared.change.Change.{Change}
use Rattle.job_facts.specs.declared.change.Change.TheVariants as change
use Rattle.job_facts.specs.Contents.{AreSound, Contents, Entry, IsOwed, IsOwedRelease, committed, released}
use Rattle.job_facts.specs.Sound.{IsSound, IsSoundChange, changed}
use Rattle.table_rows.specs.After.{rows_after, rows_written}
use Rattle.table_rows.specs.Tables.{HaveSameRows, Tables, with_reply}
use Rattle.table_rows.specs.declared.writing.Writing.{Writing}
use Rattle.table_rows.specs.declared.writing.Writing.TheVariants as writing
use Rattle.image_laws.specs.WritingOf.{IsWritingOf}
use Rattle.image_laws.specs.Image.{image}
use Rattle.sql_base.specs.Ends.{Ends, IsKept, IsLeft}
use Rattle.sql_rows.specs.Image.{IsImage, Moves}
use Rattle.sql_rows.proofs.SameRows.{same_rows}
use Rattle.schema.specs.MovesContents.{MovesContents}

-- adds one reply to both tables
same_with_reply : (entry : Entry) (t u : Tables) → HaveSameRows t u → HaveSameRows (with_reply entry t) (with_reply entry u)
same_with_reply entry t u same = search IsPermutation-cons

-- the lemmas about the rows of the next contents
abbrev pub ReplyLaw : Type 0
ReplyLaw = (c : Contents) (entry : Entry) → HaveSameRows (image (committed c change.Nothing entry)) (with_reply entry (image c))

abbrev pub ChangeLaw : Type 0
ChangeLaw = (c : Contents) (change : Change) (w : Writing) → IsSound c.facts → IsSoundChange c.facts change → IsWritingOf c.facts change w
    → HaveSameRows (image (record c { facts = changed c.facts change })) (rows_after w (image c))

abbrev pub ReleaseLaw : Type 0
ReleaseLaw = (c : Contents) (upto : ℕ) (entry : Entry) → AreSound c → IsOwedRelease upto entry c
    → HaveSameRows (image (released c upto entry)) (rows_written (writing.Releases entry.client upto) entry (image c))

-- `w` is the `Writing` for `change`, for any contents that the database has.
abbrev pub IsWritingIn : Change → Writing → Entry → Database → Type 0
IsWritingIn change w entry db = (c : Contents) → AreSound c → IsOwed change entry c → IsImage (image c) db → IsWritingOf c.facts change w

pub change_taken : ReplyLaw → ChangeLaw → (change : Change) (w : Writing) (entry : Entry) (a b : Database) → IsWritingIn change w entry a
    → Moves (rows_written w entry) a b → MovesContents (IsOwed change entry) (λ c. committed c change entry) a b
change_taken reply law change w entry a b has moves c sound owed holds =
    let next : Contents = record c { facts = changed c.facts change } in
    let rows = law c change w sound.facts owed.keeps (has c sound owed holds) in
    same_rows (image (committed c change entry)) (with_reply entry (image next)) b (reply next entry)
    (same_rows (with_reply entry (image next)) (rows_written w entry (image c)) b (same_with_reply entry _ _ rows) (moves (image c) holds))

pub release_taken : ReleaseLaw → (upto : ℕ) (entry : Entry) (a b : Database) → Moves (rows_written (writing.Releases entry.client upto) entry) a b
    → MovesContents (IsOwedRelease upto entry) (λ c. released c upto entry) a b
release_taken law upto entry a b moves c sound owed holds =
    same_rows (image (released c upto entry)) (rows_written (writing.Releases entry.client upto) entry (image c)) b (law c upto entry sound owed) (moves (image c) holds)

-- replaces one relation by another
module _ (P Q : Database → Database → Type 0) (old new : State) (turns : (b : Database) → P old.now b → Q old.now b) where
  pub ends_as : {X E : Type 0} (r : Result X E) → OnOk r (Ends P old new) → OnOk r (Ends Q old new)
  ends_as (Err e) k = tt
  ends_as (Ok x) k = record { made = turns new.now k.made; settled = k.settled; only = k.only; was_open = k.was_open; is_open = k.is_open }

  pub left_as : Survives old new (IsLeft P old) → Survives old new (IsLeft Q old)
  left_as = survives_weaker old new (IsLeft P old) (IsLeft Q old) (λ clean trees it. (it.0, (it.1.0, turns it.1.0 it.1.1, it.1.2)))

-- a read, followed by a commit
module _ (P Q : Database → Database → Type 0) (old mid new : State) (kept : HasCleanDisk mid → IsKept old mid) (before : Survives old mid (λ _. ⊥))
    (turns : HasCleanDisk mid → IsTrue mid.is_open → (b : Database) → P old.now b → Q old.now b) where
  takes : HasCleanDisk mid → (b : Database) → IsTrue mid.is_open → P mid.now b → Q old.now b
  takes clean b live it = turns clean live b (subst (λ a. P a b) ((kept clean).now_is live) it)

  pub ends_then : {X E : Type 0} (r : Result X E) → HasCleanDisk mid → OnOk r (Ends P mid new) → OnOk r (Ends Q old new)
  ends_then (Err e) clean k = tt
  ends_then (Ok x) clean k = record {
    made = takes clean new.now k.was_open k.made;
    settled = k.settled;
    only = k.only;
    was_open = (kept clean).was_open k.was_open;
    is_open = k.is_open;
  }

  pub left_then : Survives mid new (IsLeft P mid) → Survives old new (IsLeft Q old)
  left_then last =
      survives_then old mid new (λ _. ⊥) (IsLeft P mid) (IsLeft Q old) (λ _ db none. absurd none)
      (λ clean db it. let early : HasCleanDisk mid = omega (arith, last.clean) in ((kept early).was_open it.0, (it.1.0, takes early it.1.0 it.0 it.1.1, it.1.2))) before last

-- a read of what a change needs, followed by the commit of the change
module _ (reply : ReplyLaw) (law : ChangeLaw) (change : Change) (w : Writing) (entry : Entry) (old mid new : State) (kept : HasCleanDisk mid → IsKept old mid) (before : Survives old mid (λ _. ⊥))
    (has : HasCleanDisk mid → IsTrue mid.is_open → IsWritingIn change w entry old.now) where
  abbrev Written : Database → Database → Type 0
  Written = Moves (rows_written w entry)

  abbrev Taken : Database → Database → Type 0
  Taken = MovesContents (IsOwed change entry) (λ c. committed c change entry)

  turns : HasCleanDisk mid → IsTrue mid.is_open → (b : Database) → Written old.now b → Taken old.now b
  turns clean live b = change_taken reply law change w entry old.now b (has clean live)

  pub change_ends : {X E : Type 0} (r : Result X E) → HasCleanDisk mid → OnOk r (Ends Written mid new) → OnOk r (Ends Taken old new)
  change_ends = ends_then Written Taken old mid new kept before turns

  pub change_left : Survives mid new (IsLeft Written mid) → Survives old new (IsLeft Taken old)
  change_left = left_then Written Taken old mid new kept before turns
