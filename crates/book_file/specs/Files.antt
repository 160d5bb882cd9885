-- The result of `book_in` for the file at a path: a book of the database that its two files held,
-- or the fault that says why there is no book.
use Rattle.std.specs.Prelude.{◌≡◌, ◌⊎◌, Bool, true, false, IfErr, IfOk, IfSome, IsOk, IsSome, IsTrue, Option, Some, None, Result}
use Rattle.std.specs.declared.alloc.AllocError.{AllocError}
use Rattle.sqlite.specs.Closing.{files_left}
use Rattle.sqlite.specs.Effect.{Database, IsDatabase}
use Rattle.sqlite.specs.Files.{AreFoundIn, FailsToOpenFiles, HoldsDatabase, IsCleanLeft, IsOpened, LeavesFiles, file_state, image_of}
use Rattle.sqlite.specs.Held.{Held}
use Rattle.sqlite.specs.Opening.{is_open_error}
use Rattle.sqlite.specs.Recovery.{Image}
use Rattle.sqlite.specs.State.{HasCleanDisk}
use Rattle.sqlite.specs.Tree.{Trees}
use Rattle.sqlite.specs.WalFiles.{image_at, outcomes}
use Rattle.sqlite.specs.WalReads.{AreClean, OnlyReads}
use Rattle.sqlite.specs.declared.FileStore.{FileStore}
use Rattle.sqlite.specs.declared.error.Error.{Error}
use Rattle.sqlite.specs.declared.file.Leftover.{Leftover}
use Rattle.sqlite_disk.specs.Disk.{Only}
use Rattle.sqlite_disk.specs.declared.Disk as disk
use Rattle.sqlite_disk.specs.declared.Files.{Files}
use Rattle.sqlite_disk.specs.declared.Start as start
use Rattle.examination.specs.declared.difference.Difference.TheVariants.{Empty}
use Rattle.over_tables.specs.Refusals.{Explains}
use Rattle.over_tables.specs.declared.cause.Cause.TheVariants.{NoFile, Tables}
use Rattle.over_tables.specs.declared.fault.FileFault.{FileFault}
use Rattle.over_tables.specs.declared.fault.FileFault.TheVariants.{NotOurs, Storage}
use Rattle.store_files.specs.Unopened.{of_opening}
use Rattle.store_files.specs.Wal.{IsOfLook, IsWholeWal, RefusesWal}
use Rattle.store_files.specs.declared.place.Place.{Place}
use Rattle.book_file.specs.Found.{HasVerdict, IsFound}
use Rattle.book_file.specs.Left.{HoldsStill, IsLog, KeepsDatabase, WasToBeWritten, WereClosed, unguarded}
use Rattle.book_file.specs.declared.book.Book.{Book}
use Rattle.book_file.specs.declared.guarded.Guarded.{Guarded}

-- ---- the database in two files

-- `db` is the database that two files with the bytes `image` hold, or an empty database if they
-- hold none.
pub record IsIn (image : Image) (db : Database) : Type 0 where
  pub sound : IsDatabase db
  pub holds : (trees : Trees) → HoldsDatabase image trees → db.trees ≡ trees
  pub reads : AreFoundIn image db.trees

-- The two files hold a database with the trees `trees`, both in their current contents and in
-- everything that a crash may leave.
abbrev pub HoldNow : {D : Type 0} → disk.Ghosts D → Trees → Files D → Type 0
HoldNow g trees files = KeepsDatabase (image_of g files) (outcomes g files.log files.db) trees

-- If the two returned files have returned what was written, their WAL wasn't damaged when they were
-- opened, `P` is true of the database that they held then, and they still hold it.
abbrev pub InFiles : {D : Type 0} → disk.Ghosts D → Image → (Database → Type 0) → Files D → Type 0
InFiles g image P files = AreClean g files.log files.db → (db : Database) × IsIn image db × IsWholeWal image × HoldNow g db.trees files × P db

-- `read` is a correct result for the database of the connection, and the files `left` still hold
-- this database.
pub record IsReadOf {D : Type 0} {g : disk.Ghosts D} (conn : Held (FileStore D g)) (read : Result Book FileFault) (left : Files D) : Type 0 where
  pub was_clean : HasCleanDisk (file_state conn)
  pub found : IfOk read (IsFound (file_state conn).now)
  pub why : IfErr read (Explains (file_state conn).now)
  pub kept : IsOpened conn → HoldNow g (file_state conn).now.trees left

-- The two files were just opened, and only read since. They have the bytes `image`. A crash doesn't
-- change the database file.
pub record AreOnlyRead {D : Type 0} (g : disk.Ghosts D) (IsFresh : Bool → D → Type 0) (image : Image) (files : Files D) : Type 0 where
  pub first : Files D
  pub fresh : IsFresh true first.log × IsFresh false first.db
  pub read : OnlyReads g first.log files.log × OnlyReads g first.db files.db
  pub bytes : image_of g files ≡ image
  pub left : Only image.db (g.may_leave files.db)

-- ---- the reasons why there is no book

-- the refusal of a file without tables
abbrev pub empty : FileFault
empty = NotOurs (Tables Empty)

-- The fault was found before SQLite was called: nothing has the path, the file is empty, the two
-- files can't be opened, which includes a failed allocation, or the WAL of an empty file is damaged
-- or couldn't be examined.
abbrev pub IsOfPath : FileFault → Type 0
IsOfPath fault = (fault ≡ NotOurs NoFile) ⊎ ((fault ≡ empty) ⊎ IsOfLook fault)

-- If SQLite tried to write to the database file, the fault says that the file has no tables.
-- Otherwise it is the fault for the error of SQLite and the place of the file.
abbrev pub IsSaidOf : {D S : Type 0} {d : disk.Ghosts D} {s : start.Ghosts S} → Error → Files (Guarded D S d s) → FileFault → Type 0
IsSaidOf error last fault =
    ((¬ WasToBeWritten last.db) × ((place : Result Place AllocError) × (fault ≡ of_opening error place)))
    ⊎ (WasToBeWritten last.db × (fault ≡ empty))

module _ {D S : Type 0} {d : disk.Ghosts D} {s : start.Ghosts S} (g : disk.Ghosts (Guarded D S d s)) (IsFresh : Bool → D → Type 0) where
  -- SQLite gets two files that were just opened and only read since, opens no database in them
  -- because of `error`, and leaves the files `last`.
  pub record FailsToOpen (error : Error) (last : Files (Guarded D S d s)) : Type 0 where
    pub named : IsTrue (is_open_error error)
    pub given : Files (Guarded D S d s)
    pub opened : AreOnlyRead d IsFresh (image_at s) (unguarded given)
    pub left : Leftover (Guarded D S d s) g
    pub last_is : (last.log, last.db) ≡ files_left left
    pub failed : IsCleanLeft left → FailsToOpenFiles given left error × LeavesFiles given left

  -- The WAL of the two files is damaged, or it couldn't be examined. SQLite wasn't called with the
  -- files.
  pub record IsDamaged (fault : FileFault) (files : Files D) : Type 0 where
    pub first : Files D
    pub fresh : IsFresh true first.log × IsFresh false first.db
    pub bytes : image_of d first ≡ image_at s
    pub refused : RefusesWal d first files fault

  -- SQLite opens no database in the files, and the fault says why.
  abbrev pub IsUnopened : FileFault → Files D → Type 0
  IsUnopened fault files = (error : Error) × (last : Files (Guarded D S d s)) × FailsToOpen error last × (files ≡ unguarded last) × IsSaidOf error last fault

  -- SQLite got two files, and returned the WAL as the database file.
  abbrev pub HasSwapped : Type 0
  HasSwapped = (last : Files (Guarded D S d s)) × IsLog last.db × (WereClosed g last ⊎ ((error : Error) × FailsToOpen error last))

  -- The fault says why there is no book. If no files are returned, the fault was found before
  -- SQLite was called, or SQLite has swapped the two files. Otherwise SQLite opens no database in
  -- the returned files, their WAL is damaged or couldn't be examined, or the fault describes their
  -- database.
  abbrev pub IsUnread : FileFault → Option (Files D) → Type 0
  IsUnread fault None = IsOfPath fault ⊎ ((fault ≡ Storage) × HasSwapped)
  IsUnread fault (Some files) = IsUnopened fault files ⊎ (IsDamaged fault files ⊎ InFiles d (image_at s) (λ db. Explains db fault) files)

  -- The result of reading a database file, with its two files if they were opened: the book of the
  -- database that they held, or the fault that says why there is no book. The files still have the
  -- database file's contents, even after a crash.
  pub record IsAnswer (answer : Result Book FileFault × Option (Files D)) : Type 0 where
    pub verdict : IfOk answer.0 (λ book. HasVerdict book.tables book.failing)
    pub given : IsOk answer.0 → IsSome answer.1
    pub left : IfSome answer.1 (λ files. HoldsStill d s.db files.db)
    pub found : IfOk answer.0 (λ book. IfSome answer.1 (InFiles d (image_at s) (λ db. IsFound db book)))
    pub refused : IfErr answer.0 (λ fault. IsUnread fault answer.1)
