-- Lemmas: from what was read over a connection to the result with the two files.
use Rattle.std.proofs.Common.{◌≡◌, ◌⊎◌, ◌∙◌, Bool, IsTrue, Option, Some, None, Result, Ok, Err, IfOk, IfErr, inl, inr, refl, sym, ap, subst, arith}
use Rattle.std.proofs.Math.Logic.{∥∥₁_map}
use Rattle.std.proofs.lemmas.Bool.{false≢true}
use Rattle.std.specs.Prelude.{IfSome, MatchOption}
use Rattle.sqlite.proofs.Theorems.{opens_again}
use Rattle.sqlite.specs.Effect.{Database}
use Rattle.sqlite.specs.FileStore.{files, recovers, view}
use Rattle.sqlite.specs.Files.{AreFoundIn, HoldsDatabase, IsOpened, file_state}
use Rattle.sqlite.specs.Held.{Held}
use Rattle.sqlite.specs.Recovery.{Image}
use Rattle.sqlite.specs.State.{HasCleanDisk, IsLive, Opens, State, Survives}
use Rattle.sqlite.specs.Tree.{Trees}
use Rattle.sqlite.specs.View.{IsClean}
use Rattle.sqlite.specs.WalFiles.{image_at, outcomes}
use Rattle.sqlite.specs.WalReads.{AreClean}
use Rattle.sqlite.specs.declared.FileStore.{FileStore}
use Rattle.sqlite.specs.declared.error.Error.{Error}
use Rattle.sqlite_disk.specs.declared.Disk as disk
use Rattle.sqlite_disk.specs.declared.Files.{Files}
use Rattle.sqlite_disk.specs.declared.Start as start
use Rattle.sqlite_pool.proofs.StateLemmas.{clean_is, may_leave_is}
use Rattle.sqlite_store.specs.Laws.{settled_at}
use Rattle.sqlite_trees.proofs.Doubt.{no_doubt}
use Rattle.over_tables.specs.Refusals.{Explains}
use Rattle.over_tables.specs.declared.fault.FileFault.{FileFault}
use Rattle.over_tables.specs.declared.fault.FileFault.TheVariants.{Storage}
use Rattle.store_files.specs.Wal.{IsWholeWal, opens_none}
use Rattle.book_file.specs.Files.{FailsToOpen, HoldNow, InFiles, IsAnswer, IsIn, IsOfPath, IsReadOf, IsSaidOf, IsUnread}
use Rattle.book_file.specs.Found.{IsFound}
use Rattle.book_file.specs.Left.{IsLeft, IsLog, WereClosed, unguarded}
use Rattle.book_file.specs.declared.book.Book.{Book}
use Rattle.book_file.specs.declared.guarded.Guarded.{Guarded}

-- ---- an opened connection

pub found_in : (image seen : Image) (s : State) → seen ≡ image → Opens s → IsLive s → ((trees : Trees) → HoldsDatabase seen trees → s.committed.trees ≡ trees) → AreFoundIn seen s.committed.trees → IsIn image s.now
found_in image seen s same opens live holds reads = subst (λ i. IsIn i s.now) same (record {
  sound = (live opens.is_open).0;
  holds = λ trees held. ap (λ (db : Database). db.trees) opens.clean ∙ holds trees held;
  reads = subst (λ (db : Database). AreFoundIn seen db.trees) (sym opens.clean) reads;
})

-- ---- a connection that was read and closed

module _ {D : Type 0} {g : disk.Ghosts D} (stays : (file : D) → g.may_leave file (g.seen file)) (first last : Held (FileStore D g)) (survives : Survives (file_state first) (file_state last) (λ _. ⊥)) (left : Files D) (is : IsLeft last left)
    (clean : AreClean g left.log left.db) where
  sure_now : AreClean g (files is.last).0 (files is.last).1
  sure_now = subst (λ (pair : D × D). AreClean g pair.0 pair.1) is.given clean

  none : IsClean (view is.last)
  none = no_doubt _ (clean_is is.last.pool ∙ sure_now)

  pub clean_last : HasCleanDisk (file_state last)
  clean_last = omega (arith, is.quiet.clean, none)

  pub clean_first : HasCleanDisk (file_state first)
  clean_first = omega (arith, survives.clean, clean_last)

  -- Every database to which the files recover after a crash was in them when they were opened.
  same : IsOpened first → (trees : Trees) → recovers is.last trees → trees ≡ (file_state first).now.trees
  same opened trees may =
      let before : recovers first.store trees = elim (survives.crash clean_last trees (is.quiet.outcomes trees may)) [ inl old ↦ old | inr never ↦ absurd never ] in
      settled_at first.store stays trees opened.0.is_open before ∙ sym (ap (λ (db : Database). db.trees) opened.0.clean)

  pub holds_now : IsOpened first → HoldNow g (file_state first).now.trees left
  holds_now opened =
      let each = λ (image : Image) (may : outcomes g left.log left.db image).
      ∥∥₁_map (opens_again is.last (is.numbered none) (is.sound none) image (may_leave_is is.last.pool image sure_now (subst (λ (pair : D × D). outcomes g pair.0 pair.1 image) is.given may)))
      (λ found. subst (HoldsDatabase image) (same opened found.0 found.1) found.2) in
      record { read = each _ (stays _, stays _); left = each }

-- ---- the result for the database that the files held

module _ {D : Type 0} {g : disk.Ghosts D} (image : Image) (conn : Held (FileStore D g)) (opened : HasCleanDisk (file_state conn) → IsOpened conn) (found : HasCleanDisk (file_state conn) → IsIn image (file_state conn).now)
    (whole : HasCleanDisk (file_state conn) → IsWholeWal image) (left : Files D) where
  pub book_in_files : (read : Result Book FileFault) → (AreClean g left.log left.db → IsReadOf conn read left) → IfOk read (λ book. InFiles g image (λ db. IsFound db book) left)
  book_in_files (Ok book) is = λ clean. let of = is clean in ((file_state conn).now, found of.was_clean, whole of.was_clean, of.kept (opened of.was_clean), of.found)
  book_in_files (Err fault) is = tt

  pub fault_in_files : (read : Result Book FileFault) → (AreClean g left.log left.db → IsReadOf conn read left) → IfErr read (λ fault. InFiles g image (λ db. Explains db fault) left)
  fault_in_files (Ok book) is = tt
  fault_in_files (Err fault) is = λ clean. let of = is clean in ((file_state conn).now, found of.was_clean, whole of.was_clean, of.kept (opened of.was_clean), of.why)

-- ---- the returned files

module _ {A E F : Type 0} (answer : Result A E × Option F) (read : Result A E) (files : F) (lost : E) (Lost : Type 0) (same : (answer ≡ (read, Some files)) ⊎ (Lost × (answer ≡ (Err lost, None)))) where
  pub found_with : (P : A → F → Type 0) → IfOk read (λ x. P x files) → IfOk answer.0 (λ x. IfSome answer.1 (P x))
  found_with P value = elim same [
    | inl is ↦ subst (λ (a : Result A E × Option F). IfOk a.0 (λ x. IfSome a.1 (P x))) (sym is) value
    | inr is ↦ subst (λ (a : Result A E × Option F). IfOk a.0 (λ x. IfSome a.1 (P x))) (sym is.1) tt
  ]

  refused_with : (Q : E → Option F → Type 0) → IfErr read (λ e. Q e (Some files)) → (Lost → Q lost None) → IfErr answer.0 (λ e. Q e answer.1)
  refused_with Q value without = elim same [
    | inl is ↦ subst (λ (a : Result A E × Option F). IfErr a.0 (λ e. Q e a.1)) (sym is) value
    | inr is ↦ subst (λ (a : Result A E × Option F). IfErr a.0 (λ e. Q e a.1)) (sym is.1) (without is.0)
  ]

-- ---- the reasons why there is no book

-- The fault was found before SQLite was called, and no files are returned.
pub without_files : {D S : Type 0} {d : disk.Ghosts D} {s : start.Ghosts S} (g : disk.Ghosts (Guarded D S d s)) (IsFresh : Bool → D → Type 0) (fault : FileFault) → IsOfPath fault → IsAnswer g IsFresh (Err fault, None)
without_files g IsFresh fault of = record { verdict = tt; given = λ ok. absurd (false≢true ok); left = tt; found = tt; refused = inl of }

weaker : {A E : Type 0} (P Q : E → Type 0) (read : Result A E) → ((e : E) → P e → Q e) → IfErr read P → IfErr read Q
weaker P Q (Ok x) f value = tt
weaker P Q (Err e) f value = f e value

module _ {D S C A : Type 0} {d : disk.Ghosts D} {s : start.Ghosts S} (g : disk.Ghosts (Guarded D S d s)) (IsFresh : Bool → D → Type 0) (opened : Result C (Error × Option (Files (Guarded D S d s))))
    (failed : IfErr opened (λ e. MatchOption e.1 (IsTrue (opens_none e.0)) (FailsToOpen g IsFresh e.0))) (answer : Result A FileFault × Option (Files D)) (read : Result A FileFault) (files : Files (Guarded D S d s))
    (same : (answer ≡ (read, Some (unguarded files))) ⊎ (IsLog files.db × (answer ≡ (Err Storage, None)))) where
  -- a database was opened in the files
  pub unread_in_files : WereClosed g files → IfErr read (λ fault. InFiles d (image_at s) (λ db. Explains db fault) (unguarded files)) → IfErr answer.0 (λ fault. IsUnread g IsFresh fault answer.1)
  unread_in_files closed value =
      refused_with answer read (unguarded files) Storage (IsLog files.db) same (λ fault back. IsUnread g IsFresh fault back)
      (weaker (λ fault. InFiles d (image_at s) (λ db. Explains db fault) (unguarded files)) (λ fault. IsUnread g IsFresh fault (Some (unguarded files))) read (λ fault h. inr (inr h)) value)
      (λ log. inr (refl, (files, log, inl closed)))

  -- no database was opened in the files
  pub unopened_in_files : (error : Error) (some : Option (Files (Guarded D S d s))) → opened ≡ Err (error, some) → some ≡ Some files → (fault : FileFault) → read ≡ Err fault → IsSaidOf error files fault
      → IfErr answer.0 (λ fault. IsUnread g IsFresh fault answer.1)
  unopened_in_files error some is has fault so said =
      let fails : FailsToOpen g IsFresh error files =
      subst (λ (o : Option (Files (Guarded D S d s))). MatchOption o (IsTrue (opens_none error)) (FailsToOpen g IsFresh error)) has
      (subst (λ (r : Result C (Error × Option (Files (Guarded D S d s)))). IfErr r (λ e. MatchOption e.1 (IsTrue (opens_none e.0)) (FailsToOpen g IsFresh e.0))) is failed) in
      refused_with answer read (unguarded files) Storage (IsLog files.db) same (λ fault back. IsUnread g IsFresh fault back)
      (subst (λ (r : Result A FileFault). IfErr r (λ fault. IsUnread g IsFresh fault (Some (unguarded files)))) (sym so) (inl (error, files, fails, refl, said)))
      (λ log. inr (refl, (files, log, inr (error, fails))))
