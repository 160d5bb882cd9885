-- Lemmas for all calls: from the effect on a connection to the effect on the contents.
use Rattle.std.proofs.Common.{◌≡◌, ◌⊎◌, ◌∙◌, ℕ, length, Option, None, Some, Result, Ok, Err, OnOk, OnErr, IfOk, inl, inr, sym, ap, subst, arith}
use Rattle.sqlite.specs.Effect.{Database, IsDatabase}
use Rattle.sqlite.specs.Schema.{Schema}
use Rattle.sqlite.specs.Tree.{Trees}
use Rattle.sqlite.specs.State.{HasCleanDisk, State, Survives}
use Rattle.sqlite.specs.declared.error.Error.{Error}
use Rattle.sqlite_trees.specs.Objects.{catalog_tree}
use Rattle.sqlite_catalog.specs.Listing.{Lists}
use Rattle.sqlite_catalog.proofs.ReadLemmas.{lists_once}
use Rattle.job_facts.specs.declared.failed.Failed.{Failed}
use Rattle.job_facts.specs.declared.store.StoreFault.{StoreFault}
use Rattle.job_facts.specs.Contents.{AreSame, AreSound, Contents, Entry}
use Rattle.job_facts.specs.Store.{AddsNoneIfUndone, Commits, IsFound, Reads, Stays, with_fault}
use Rattle.table_rows.specs.Tables.{HaveSameRows, Tables}
use Rattle.image_laws.specs.Image.{image}
use Rattle.sql_base.specs.Ends.{Ends, IsKept, IsLeft}
use Rattle.sql_rows.specs.Image.{IsImage}
use Rattle.sql_tables.specs.declared.versions.Version.TheVariants.{Three}
use Rattle.table_reads.proofs.OneHeld.{one_held}
use Rattle.table_reads.proofs.OurImage.{our_image_held}
use Rattle.change_writes.specs.Undone.{LeavesNoTraceIfUndone}
use Rattle.store_reads.specs.ReadsContents.{ReadsContents}
use Rattle.schema.specs.Link.{FindsAtOpen, Has, HasAt, IsTranslated, IsTranslatedCommit, link}
use Rattle.schema.specs.MovesContents.{MovesContents}

-- ---- reads

still : (old new : State) (c : Contents) (a b m n : ℕ) → IsKept old new → (link old a b).holds c → (link new m n).holds c
still old new c a b m n k held = (held.0, λ live. subst (IsImage (image c)) (sym (k.now_is live)) (held.1 (k.was_open live)))

adds_none : (old new : State) (a b m n : ℕ) → Survives old new (λ _. ⊥) → HasCleanDisk new → (d : Option Contents) → (link new m n).may_leave d → (link old a b).may_leave d
adds_none old new a b m n survives honest d left = elim (survives.crash honest left.0 left.1) [ inl before ↦ (left.0, before, left.2) | inr none ↦ absurd none ]

pub stays : (old new : State) (a b m n : ℕ) → Survives old new (λ _. ⊥) → (HasCleanDisk new → IsKept old new) → Stays (link old a b) (link new m n)
stays old new a b m n survives kept = record {
  doubts = survives.clean;
  contents = λ honest c held. still old new c a b m n (kept honest) held;
  crash = adds_none old new a b m n survives;
  log = λ l none. absurd none;
}

module _ {T : Type 0} where
  -- a success is returned unchanged
  pub translated_well : (P : T → Type 0) (r : Result T Error) (translated : Result T StoreFault) → IsTranslated r translated → IfOk r P → IfOk translated P
  translated_well P (Ok x) translated is well = subst (λ t. IfOk t P) (sym is) well
  translated_well P (Err e) (Ok x) is well = absurd (cc)
  translated_well P (Err e) (Err fault) is well = tt

  pub reads : (old new : State) (a b m n : ℕ) (P : Contents → T → Type 0) (r : Result T Error) (translated : Result T StoreFault) → IsTranslated r translated → ReadsContents old new r P
      → Reads (link old a b) (link new m n) translated P
  reads old new a b m n P (Ok x) translated is is_read honest c held = subst (λ t. IfOk t (P c)) (sym is) (let it = is_read honest in it.1 c held.0 (held.1 it.0))
  reads old new a b m n P (Err e) (Ok x) is is_read honest c held = absurd (cc)
  reads old new a b m n P (Err e) (Err fault) is is_read honest c held = tt

-- ---- commits

-- trees list one schema, so two databases with the same trees are equal
one_database : (a b : Database) → IsDatabase a → IsDatabase b → a.trees ≡ b.trees → a ≡ b
one_database a b sound other same =
    let schema = lists_once (b.trees catalog_tree) a.schema b.schema (subst (λ (t : Trees). Lists (t catalog_tree) a.schema) same sound.lists) other.lists in
    λ i. record { schema = schema i; trees = same i }

-- the contents at the trees of a database are its contents
pub has_there : (db : Database) (trees : Trees) (c : Contents) → IsDatabase db → trees ≡ db.trees → HasAt trees c → Has db c
has_there db trees c sound is at = subst (λ (x : Database). Has x c) (one_database at.db db at.is_database sound (at.stands ∙ is)) at.has

-- An open of the database finds sound contents that it has, or the database has no sound contents.
abbrev pub Shows : Option Contents → Database → Type 0
Shows None db = (c : Contents) → AreSound c → ¬ Has db c
Shows (Some c) db = AreSound c × Has db c

-- the result of an open of the trees of a database
pub shown_at : (d : Option Contents) (db : Database) (trees : Trees) → IsDatabase db → trees ≡ db.trees → FindsAtOpen d trees → Shows d db
shown_at None db trees sound is none = λ c fine has. none c fine (record { db = db; is_database = sound; stands = sym is; has = has })
shown_at (Some d) db trees sound is at = (at.0, has_there db trees d sound is at.1)

-- a database that contains an image has no other rows
pub has_image : (t : Tables) (c : Contents) (db : Database) → IsImage t db → Has db c → HaveSameRows (image c) t
has_image t c db now (inl held) = one_held held.0 Three (image c) t db held.1 (our_image_held t db now)
has_image t c db now (inr none) = absurd (omega (arith, ap (λ (s : Schema). length s.tables) (sym now.ours ∙ none.0)))

pub image_had : (c : Contents) (db : Database) → IsImage (image c) db → Has db c
image_had c db now = inl (Three, our_image_held (image c) db now)

-- Sound contents with the same rows are the same.
abbrev pub RowsLaw : Type 0
RowsLaw = (c d : Contents) → AreSound c → AreSound d → HaveSameRows (image c) (image d) → AreSame c d

-- an open of the trees of an image finds its contents
pub found : RowsLaw → (c : Contents) → AreSound c → (db : Database) → IsImage (image c) db → (trees : Trees) → trees ≡ db.trees → (d : Option Contents) → FindsAtOpen d trees → IsFound d c
found law c sound db now trees is None at = absurd (shown_at None db trees now.is_database is at c sound (image_had c db now))
found law c sound db now trees is (Some d) at = let shown = shown_at (Some d) db trees now.is_database is at in law d c shown.0 sound (has_image (image c) d db now shown.1)

module _ (law : RowsLaw) (entry : Entry) (Owed : Contents → Type 0) (after : Contents → Contents) (sound : (c : Contents) → AreSound c → Owed c → AreSound (after c)) (old new : State) (a b m n : ℕ)
    (survives : Survives old new (IsLeft (MovesContents Owed after) old)) where
  left_by : HasCleanDisk new → (c : Contents) (d : Option Contents) → (link old a b).holds c → Owed c → (link new m n).may_leave d → (link old a b).may_leave d ⊎ IsFound d (after c)
  left_by honest c d held owed left =
      elim (survives.crash honest left.0 left.1) [
        | inl before ↦ inl (left.0, before, left.2)
        | inr it ↦ inr (found law (after c) (sound c held.0 owed) it.1.0 (it.1.1 c held.0 owed (held.1 it.0)) left.0 it.1.2 d left.2)
      ]

  pub commits : (HasCleanDisk new → Ends (MovesContents Owed after) old new) → Commits (link old a b) (link new m n) (Ok tt) entry Owed after
  commits done = record {
    doubts = survives.clean;
    ok = λ honest c held owed. let k = done honest in (sound c held.0 owed, λ live. k.made c held.0 owed (held.1 k.was_open));
    err = tt;
    crash = left_by;
    settled = λ honest c d held owed left.
        let k = done honest in
        found law (after c) (sound c held.0 owed) new.now (k.made c held.0 owed (held.1 k.was_open)) left.0 (k.only left.0 left.1) d left.2;
    logged = λ l none. absurd none;
    unlogged = tt;
    covered = λ honest c d held owed left l none. absurd none;
  }

  pub fails : (why : StoreFault) → (HasCleanDisk new → IsKept old new) → Commits (link old a b) (link new m n) (Err why) entry Owed after
  fails why kept = record {
    doubts = survives.clean;
    ok = tt;
    err = λ honest c held owed. still old new c a b m n (kept honest) held;
    crash = left_by;
    settled = tt;
    logged = tt;
    unlogged = λ l none. absurd none;
    covered = λ honest c d held owed left l none. absurd none;
  }

  -- a success is a commit, and a fault leaves everything unchanged
  pub translated_commits : (r : Result (Unit {0}) (Failed Error)) (translated : Result (Unit {0}) (Failed StoreFault)) → IsTranslatedCommit r translated → (HasCleanDisk new → OnOk r (Ends (MovesContents Owed after) old new))
      → (HasCleanDisk new → OnErr r (IsKept old new)) → Commits (link old a b) (link new m n) (with_fault translated) entry Owed after
  translated_commits (Ok u) translated is ok err = subst (λ t. Commits (link old a b) (link new m n) (with_fault t) entry Owed after) (sym is) (commits ok)
  translated_commits (Err e) (Ok u) is ok err = absurd (cc)
  translated_commits (Err e) (Err failed) is ok err = fails failed.fault err

-- a failure that is undone
pub translated_undone : (old new : State) (a b m n : ℕ) (r : Result (Unit {0}) (Failed Error)) (translated : Result (Unit {0}) (Failed StoreFault)) → IsTranslatedCommit r translated → LeavesNoTraceIfUndone old new r
    → AddsNoneIfUndone (link old a b) (link new m n) translated
translated_undone old new a b m n (Ok u) translated is traceless = subst (AddsNoneIfUndone (link old a b) (link new m n)) (sym is) tt
translated_undone old new a b m n (Err failed) translated is traceless =
    subst (AddsNoneIfUndone (link old a b) (link new m n)) (sym is) (λ undone. adds_none old new a b m n (traceless undone))
