-- Lemmas: files that were just opened and only read since have the contents that they had before.
use Rattle.std.proofs.Common.{◌≡◌, ap, subst, sym, ◌∙◌, ℕ, Bool, IsTrue, true, false, List, [], ◌∷◌, inl, inr, if◌then◌else◌}
use Rattle.sqlite.specs.Files.{image_of}
use Rattle.sqlite.specs.Recovery.{Image}
use Rattle.sqlite.specs.WalReads.{AreClean, OnlyReads}
use Rattle.sqlite_disk.specs.Disk.{Only}
use Rattle.sqlite_disk.specs.Events.{Event, Model, replay, settled}
use Rattle.sqlite_disk.specs.History.{MayLeave}
use Rattle.sqlite_disk.specs.declared.Disk.{Ghosts}
use Rattle.sqlite_disk.specs.declared.Files.{Files}
use Rattle.store_files.proofs.Opened.{same_image}
use Rattle.book_file.specs.Files.{AreOnlyRead}
use Rattle.book_file.specs.Left.{HoldsStill}

unwritten : (mixes : Bool) (bytes : List ℕ) (key : ℕ) (c : List ℕ) → (let m = replay bytes (settled key ∷ []) in MayLeave mixes m.seen m.synced m.steps c) → c ≡ bytes
unwritten mixes bytes key c (inl same) = same
unwritten mixes bytes key c (inr same) = same

pub fresh_holds : (mixes is_log : Bool) (log db : List ℕ) (events : List Event) (key : ℕ) → is_log ≡ false → events ≡ settled key ∷ [] → (c : List ℕ)
    → (let m = replay (if is_log then log else db) events in MayLeave mixes m.seen m.synced m.steps c) → c ≡ db
fresh_holds mixes is_log log db events key which fresh c left =
    unwritten mixes db key c (subst (λ (m : Model). MayLeave mixes m.seen m.synced m.steps c) (ap (λ (b : Bool). replay (if b then log else db) events) which ∙ ap (replay db) fresh) left)

module _ {D : Type 0} (g : Ghosts D) (image : Image) (first last : Files D) where
  pub only_read : (IsFresh : Bool → D → Type 0) → IsFresh true first.log × IsFresh false first.db → OnlyReads g first.log last.log × OnlyReads g first.db last.db → image_of g first ≡ image → Only image.db (g.may_leave first.db)
      → AreOnlyRead g IsFresh image last
  only_read IsFresh fresh read bytes left = record {
    first = first;
    fresh = fresh;
    read = read;
    bytes = same_image g first last read.0 read.1 ∙ bytes;
    left = λ c may. left c (read.1.crash c may);
  }

module _ {D : Type 0} (g : Ghosts D) (IsFresh : Bool → D → Type 0) (image : Image) (files : Files D) (is : AreOnlyRead g IsFresh image files) where
  pub holds_still : HoldsStill g image.db files.db
  holds_still = record { seen = ap (λ (i : Image). i.db) is.bytes; left = is.left }

  -- files that are the same, as the two files without their guard
  module _ (others : Files D) (same : others ≡ files) where
    pub bytes_too : image_of g others ≡ image
    bytes_too = ap (image_of g) same ∙ is.bytes

    pub usable_too : IsTrue (g.is_usable others.log) × IsTrue (g.is_usable others.db)
    usable_too = subst (λ (f : Files D). IsTrue (g.is_usable f.log) × IsTrue (g.is_usable f.db)) (sym same) (is.read.0.usable, is.read.1.usable)

    pub clean_too : AreClean g others.log others.db → AreClean g files.log files.db
    clean_too clean = subst (λ (f : Files D). AreClean g f.log f.db) same clean

    pub read_too : AreOnlyRead g IsFresh image others
    read_too = subst (AreOnlyRead g IsFresh image) (sym same) is
